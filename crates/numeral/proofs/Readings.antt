-- The two readings. In the crate reading a run with separators is a run, and no number has one, so that nothing of what document 02 says of separators
-- comes to bear. A number text without separators is one in both readings, so that both read the same number where the documented one has none, and the
-- crate reading reads what stands before the first where it has some.
use Prim.Native.Nat.{ℕ, zero, suc, ◌+◌, ◌-◌, ◌<◌, ◌≤◌}
use native.Mathlib.Omega.{arith}
use Prim.Native.Char.{code}
use mathlib.Core.Bool.{Bool, true, false, cond, ◌&&◌, not, and-true, true≢false}
use mathlib.Core.List.{List, [], ◌∷◌, ◌++◌}
use mathlib.Core.Logic.{◌⊎◌, inl, inr, ⊎_elim}
use mathlib.Core.Path.{◌≡◌, refl, sym, ap, ap₂, subst, ◌∙◌}
use lib.Dec.{eqb}
use lib.Seq.{split_at, take-take, take-suc, get_or-take, length-take-le}
use lib.ListN.{length, get_or, take, drop, take-append-drop, get_or-append}
use Rattle.scan.specs.declared.byte.Class.{Class}
use Rattle.scan.specs.declared.byte.Class.TheVariants.{Digit, HexDigit}
use Rattle.scan.specs.declared.separated.Separators.{Separators}
use Rattle.scan.specs.Byte.{end, peek_at, is_within, is_alpha, is_digit, lowered, is_in}
use Rattle.scan.specs.Run.{run_end}
use Rattle.scan.specs.Separated.{separator, separated_end}
use Rattle.scan.specs.Text.{has}
use Rattle.scan.specs.Sign.{past_sign}
use Rattle.scan.proofs.Stands.{has_append, none_at}
use Rattle.scan.proofs.separated.Runs.{separated_never}
use Rattle.scan.proofs.separated.Texts.{digits_alike}
use Rattle.scan.proofs.Greedy.{longest_one}
use Rattle.scan.specs.Language.{Then, Optional, nothing, marked}
use Rattle.utf8.specs.declared.Reading.{Reading}
use Rattle.utf8.specs.declared.Reading.TheVariants.{Crate, Documented}
use Rattle.numeral.specs.Numeral.{between_digits, behind_prefix, is_hex, fraction_end, mantissa_end, exponent_end, number_end, is_unit, is_first_unit, taken, numeral_of}
use Rattle.numeral.specs.declared.Numeral.TheVariants.{Neither}
use Rattle.numeral.specs.laws.Numeral.{plain_mantissa, plain_exponent, plain_end, plain_numeral, NumeralAsBefore, ReadAlike, CrateStopped}
use Rattle.numeral.proofs.Plain.{form_plain, crate_plain}
use Rattle.numeral.proofs.Texts.{neither_of, number_form, number_longest, number_cut, begun_front}
use Rattle.numeral.proofs.Places.{longer, number_within, taken_longest, taken_placed}
use Rattle.numeral.proofs.Given.{is_stopped}
use Rattle.numeral.specs.Texts.{Begun, is_point, Mantissa, is_exponent_mark, Exponent, NumberText}

-- where the runs of digits are plain, so is the number
module _ (r : Reading) (xs : List ℕ) (between : (k : Class) (n : ℕ) → separated_end (is_in k) (between_digits r) xs n ≡ run_end (is_in k) xs n)
    (behind : (k : Class) (n : ℕ) → separated_end (is_in k) (behind_prefix r) xs n ≡ run_end (is_in k) xs n) where
  plain_fraction : (k : Class) (n : ℕ) → fraction_end r k xs n ≡ cond (eqb (peek_at xs n) (code ".")) (run_end (is_in k) xs (n + 1)) n
  unfolding fraction_end
  plain_fraction k n = ap (λ m. cond (eqb (peek_at xs n) (code ".")) m n) (between k (n + 1))

  plain_digits : cond (is_hex xs) (mantissa_end r HexDigit (behind_prefix r) xs 2) (mantissa_end r Digit (between_digits r) xs 0) ≡ cond (is_hex xs) (plain_mantissa HexDigit xs 2) (plain_mantissa Digit xs 0)
  plain_digits =
      ap₂ (cond (is_hex xs)) (ap (fraction_end r HexDigit xs) (behind HexDigit 2) ∙ plain_fraction HexDigit (run_end (is_in HexDigit) xs 2))
      (ap (fraction_end r Digit xs) (between Digit 0) ∙ plain_fraction Digit (run_end (is_in Digit) xs 0))

  plain_exponent_holds : (n : ℕ) → exponent_end r xs n ≡ plain_exponent xs n
  unfolding exponent_end
  plain_exponent_holds n = ap (λ m. cond (eqb (lowered (peek_at xs n)) (code "e")) m n) (between Digit (past_sign xs (n + 1)))

  plain_end_holds : number_end r xs ≡ plain_end xs
  unfolding number_end
  plain_end_holds = ap (exponent_end r xs) plain_digits ∙ plain_exponent_holds _

  -- and where it has no separator, all is as without them
  plain_numeral_holds : has separator (take (number_end r xs) xs) ≡ false → numeral_of r xs ≡ plain_numeral xs
  unfolding numeral_of
  plain_numeral_holds h = rw (h, and-true (is_first_unit (peek_at xs (number_end r xs))), plain_end_holds) refl

pub numeral_as_before : NumeralAsBefore
numeral_as_before xs = plain_numeral_holds Crate xs (λ k n. separated_never (is_in k) xs n) (λ k n. separated_never (is_in k) xs n) (form_plain _ (number_form Crate xs).1)

-- a number text without separators is one in every reading, since each of its parts is
abbrev Alike : (List ℕ → Type 0) → (List ℕ → Type 0) → Type 0
Alike l m = (t : List ℕ) → has separator t ≡ false → l t → m t

then_alike : {l m n o : List ℕ → Type 0} → Alike l n → Alike m o → Alike (Then l m) (Then n o)
then_alike a b t h p =
    let g = neither_of (has separator p.front) _ (sym (has_append separator p.front p.back) ∙ sym (ap (has separator) p.whole) ∙ h) in
    record { front = p.front; back = p.back; first = a p.front g.0 p.first; second = b p.back g.1 p.second; whole = p.whole }

optional_alike : (c : ℕ → Bool) {l m : List ℕ → Type 0} → Alike l m → Alike (Optional c l) (Optional c m)
unfolding has
optional_alike c a _ h nothing = nothing
optional_alike c a _ h (marked x t e p) = marked x t e (a t (neither_of (eqb x separator) _ h).1 p)

module _ (r s : Reading) where
  mantissa_alike : (k : Class) (p q : Separators) → Alike (Mantissa r k p) (Mantissa s k q)
  mantissa_alike k p q = then_alike (digits_alike (is_in k) p q) (optional_alike is_point (digits_alike (is_in k) (between_digits r) (between_digits s)))

  exponent_alike : Alike (Exponent r) (Exponent s)
  exponent_alike = optional_alike is_exponent_mark (then_alike (λ t h e. e) (digits_alike (is_in Digit) (between_digits r) (between_digits s)))

  number_alike : Alike (NumberText r) (NumberText s)
  number_alike t h n = (
    n.0,
    ⊎_elim (λ d. inl (then_alike (mantissa_alike Digit (between_digits r) (between_digits s)) exponent_alike t h d))
        (λ x. inr (then_alike (λ u g p. p) (mantissa_alike HexDigit (behind_prefix r) (behind_prefix s)) t h x)) n.1,
  )

-- the number that is read tells all
by_number : (r s : Reading) (xs : List ℕ) → number_end r xs ≡ number_end s xs → numeral_of r xs ≡ numeral_of s xs
unfolding numeral_of
by_number r s xs e = rw e refl

pub read_alike : ReadAlike
read_alike xs b h =
    let n = number_end Documented xs in
    let long = number_longest Documented xs b in
    let plain : has separator (take n xs) ≡ false = sym (ap (has separator) (take-take n (taken (numeral_of Documented xs)) xs (number_within Documented xs b _ (taken_longest Documented xs b)))) ∙ none_in_front n _ h in
    by_number Documented Crate xs
    (longest_one _ xs n (number_end Crate xs)
    (record {
      within = long.within;
      there = number_alike Documented Crate _ plain long.there;
      most = λ t rest e p. long.most t rest e (number_alike Crate Documented t (crate_plain t p) p);
    })
    (number_longest Crate xs b))
  where
    none_in_front : (n : ℕ) (ys : List ℕ) → has separator ys ≡ false → has separator (take n ys) ≡ false
    none_in_front n ys h = (neither_of (has separator (take n ys)) _ (sym (has_append separator (take n ys) (drop n ys)) ∙ ap (has separator) (take-append-drop n ys) ∙ h)).0

-- no separator begins a number
begun_past : (xs : List ℕ) (i : ℕ) → Begun xs → peek_at xs i ≡ separator → ((is_digit (peek_at xs 0) ≡ true) × (1 ≤ i)) ⊎ ((peek_at xs 0 ≡ code ".") × (is_digit (peek_at xs 1) ≡ true) × (2 ≤ i))
unfolding is_within
begun_past xs zero (inl d) e = absurd (true≢false (sym d ∙ ap is_digit e))
begun_past xs (suc i) (inl d) e = inl (d, omega arith)
begun_past xs zero (inr q) e = absurd (omega (arith, e, q.0))
begun_past xs (suc zero) (inr q) e = absurd (true≢false (sym q.1 ∙ ap is_digit e))
begun_past xs (suc (suc i)) (inr q) e = inr (q.0, q.1, omega arith)

some_before : (i : ℕ) {A B C : Type 0} → (A × (1 ≤ i)) ⊎ (B × C × (2 ≤ i)) → 1 ≤ i
some_before i (inl q) = q.1
some_before i (inr q) = omega (arith, q.2)

-- what stands before it is a number text, and is the longest of the crate reading
before_separator : (xs : List ℕ) → Begun xs → (i m : ℕ) → i < m → m ≤ length xs → NumberText Documented (take m xs) → peek_at xs i ≡ separator → has separator (take i xs) ≡ false → NumberText Crate (take i xs)
before_separator xs b i m l w n e h =
    let past = begun_past xs i b e in
    let j : ℕ = i - 1 in
    let one : suc j ≡ i = omega (arith, some_before i past) in
    let t = take m xs in
    let lt : length t ≡ m = length-take-le m xs w in
    let jl : j < length t = omega (arith, lt, one) in
    let front : take j t ++ (get_or t j end ∷ []) ≡ take i xs = sym (take-suc t j end jl) ∙ ap (λ (k : ℕ). take k t) one ∙ take-take i m xs (omega (arith, l)) in
    let y : eqb (get_or t j end) separator ≡ false =
    ap (λ c. eqb c separator) (get_or-take m xs j end (omega (arith, one)) ∙ sym (get_or-take i xs j end (omega (arith, one)))) ∙ none_at separator (take i xs) h j (omega (arith, one, length-take-le i xs (omega (arith, l, w)))) in
    let c = number_cut Documented (take j t) (get_or t j end) (drop (suc j) t) y (subst Begun (sym front) (begun_front Documented xs i past)) (subst (NumberText Documented) (split_at t j end jl) n) in
    number_alike Documented Crate (take i xs) h (subst (NumberText Documented) front c)

pub crate_stopped : CrateStopped
unfolding is_alpha is_within is_unit
crate_stopped xs b i l e h =
    let all = taken_longest Documented xs b in
    let q = taken_placed xs b (taken (numeral_of Documented xs)) all.within all.there i l e in
    let m : number_end Crate xs ≡ i =
    longest_one _ xs (number_end Crate xs) i (number_longest Crate xs b)
    (record {
      within = omega (arith, q.1, q.2);
      there = before_separator xs b i q.0 q.1 q.2 q.3 e h;
      most = λ t rest f p. longer i (length t) (λ k. true≢false (sym (ap (λ c. eqb c separator) (sym (get_or-append t rest end i k) ∙ sym (ap (λ (ys : List ℕ). peek_at ys i) f) ∙ e)) ∙ none_at separator t (crate_plain t p) i k));
    }) in
    let c : peek_at xs (number_end Crate xs) ≡ separator = ap (peek_at xs) m ∙ e in
    is_stopped Crate xs (ap is_alpha c) (ap (λ x. is_first_unit x && not (has separator (take (number_end Crate xs) xs))) c) ∙ ap Neither m
