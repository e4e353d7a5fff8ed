-- A mantissa and a power, as places cut them out of a text. A mantissa begins with a point or a digit, and what follows it is a letter or the
-- end, which come after these; so where each run of digits ends is forced. Found both ways, from the piece and from the places.
use Prim.Native.Nat.{ℕ, suc, ◌<◌, ◌≤◌}
use Prim.Native.Char.{code}
use native.Mathlib.Omega.{arith}
use mathlib.Core.Bool.{Bool, true, false, cond, ◌&&◌, ◌||◌, not, true≢false}
use mathlib.Core.List.{List, [], ◌∷◌, ◌++◌, append-nil, append_assoc}
use mathlib.Core.Logic.{◌↔◌, ◌⊎◌, inl, inr}
use mathlib.Core.Path.{◌≡◌, refl, sym, ap, subst, ◌∙◌}
use lib.Dec.{eqb, ltb}
use lib.ListN.{length, drop}
use lib.Seq.{drop-length}
use borrow.Author.Tests.{lt-ltb, eq-eqb, ne_eqb, eqb-true, ltb-true}
use Rattle.scan.specs.Ascii.{ascii}
use Rattle.scan.specs.declared.byte.Class.TheVariants.{Digit}
use Rattle.scan.specs.Byte.{peek_at, is_within, is_in, lowered}
use Rattle.proving.proofs.Choice.{either}
use Rattle.scan.proofs.byte.Classes.{within_bounds, above_not, end_in_none}
use Rattle.scan.proofs.Runs.{run_stopped, run_stops}
use Rattle.scan.specs.Sign.{past_sign, is_minus}
use Rattle.decimal.specs.Grammar.{past_point, is_exponent, past_exponent, between}
use Rattle.decimal.specs.laws.Spelling.{Digits, SomeDigits, Mantissa, Power}
use Rattle.decimal.proofs.Places.{no_exponent}
use Rattle.decimal.proofs.Cuts.{digits_to, Stand, split, between_some, between_none, there, found, next, digits_cut, digits_found, some_found, sign_cut, sign_found}

-- what begins a mantissa
abbrev Begins : ℕ → Type 0
Begins c = (code "." ≤ c) × (c ≤ code "9")

digit_begins : (c : ℕ) → is_in Digit c ≡ true → Begins c
unfolding is_in
digit_begins c e = let b = within_bounds (code "0") (code "9") c e in (omega (arith, b.0), b.1)

digits_begin : (a ys : List ℕ) → SomeDigits a → Begins (peek_at (a ++ ys) 0)
digits_begin [] ys (d, l) = let f : ⊥ = omega arith in absurd f
digits_begin (x ∷ a) ys ((e, d), l) = digit_begins x e

point_begins : (a ys : List ℕ) → Digits a → Begins (peek_at (a ++ (code "." ∷ ys)) 0)
point_begins [] ys d = (omega arith, omega arith)
point_begins (x ∷ a) ys (e, d) = digit_begins x e

-- with a point, it goes on behind that
pointed : (a b m p : List ℕ) → m ≡ a ++ (code "." ∷ b) → m ++ p ≡ a ++ (code "." ∷ (b ++ p))
pointed a b m p e = ap (λ (l : List ℕ). l ++ p) e ∙ append_assoc a (code "." ∷ b) p

pub mantissa_begins : (a b m p : List ℕ) → Mantissa a b m → Begins (peek_at (m ++ p) 0)
mantissa_begins a b m p (inl (d, u, e)) = rw e (digits_begin a p d)
mantissa_begins a b m p (inr (inl (d, u), e)) = rw (pointed a b m p e) (point_begins a (b ++ p) d.0)
mantissa_begins a b m p (inr (inr (d, u), e)) = rw (pointed a b m p e) (point_begins a (b ++ p) d)

-- what follows it
letter_above : (c : ℕ) → lowered c ≡ code "e" → code "9" < c
unfolding lowered
letter_above c =
    either (λ n. n ≡ code "e" → code "9" < c) (is_within (code "A") (code "Z") c) (λ e u. omega (arith, within_bounds (code "A") (code "Z") c e)) (λ e u. omega arith)

pub power_begins : (t d p : List ℕ) → Power t d p → code "9" < peek_at p 0
power_begins t d p (inl (u, v, e)) = rw e (omega arith)
power_begins t d p (inr (g, v, (c, l, e))) = rw e (letter_above c l)

module _ (xs : List ℕ) (n : ℕ) where
  pub mantissa_cut : (a b m p : List ℕ) → Mantissa a b m → code "9" < peek_at p 0 → drop n xs ≡ m ++ p
      → (between xs n (digits_to xs n) ≡ a) × Stand xs (past_point xs (digits_to xs n)) b p
  mantissa_cut a b m p g h e = go g
    where
      q : ℕ
      q = digits_to xs n

      Cut : ℕ → Type 0
      Cut f = (between xs n q ≡ a) × Stand xs f b p

      ends : is_in Digit (peek_at p 0) ≡ false
      ends = unfold is_in in above_not (code "0") (code "9") (peek_at p 0) h

      fraction : (f : ℕ) → between xs n q ≡ a → Digits b → drop f xs ≡ b ++ p → Cut f
      fraction f u d v = (u, digits_cut xs f b p d ends v)

      with_point : Digits a → Digits b → m ≡ a ++ (code "." ∷ b) → Cut (past_point xs q)
      with_point d k v =
          let (u, r) = digits_cut xs n a (code "." ∷ (b ++ p)) d (unfold is_in is_within in refl) (e ∙ pointed a b m p v) in
          rw (there xs q (code "." ∷ (b ++ p)) r) (fraction (suc q) u k (next xs q (code ".") (b ++ p) r))

      go : Mantissa a b m → Cut (past_point xs q)
      go (inl (d, z, v)) =
          let (u, r) = digits_cut xs n a p d.0 ends (e ∙ ap (λ (l : List ℕ). l ++ p) v) in
          rw (there xs q p r, ne_eqb (peek_at p 0) (code ".") (λ z. omega arith)) (fraction q u (rw z tt) (rw z r))
      go (inr (inl (d, k), v)) = with_point d.0 k v
      go (inr (inr (d, k), v)) = with_point d k.0 v

  pub mantissa_found : let f = past_point xs (digits_to xs n) in (n < digits_to xs n) ⊎ (f < digits_to xs f)
      → (m : List ℕ) × Mantissa (between xs n (digits_to xs n)) (between xs f (digits_to xs f)) m × (drop n xs ≡ m ++ drop (digits_to xs f) xs)
  mantissa_found = either (λ f. Found f (digits_to xs f)) (eqb (peek_at xs q) (code ".")) with_point (λ e. subst (Found q) (sym ends) plain)
    where
      q : ℕ
      q = digits_to xs n

      a : List ℕ
      a = between xs n q

      Found : ℕ → ℕ → Type 0
      Found f r = (n < q) ⊎ (f < r) → (m : List ℕ) × Mantissa a (between xs f r) m × (drop n xs ≡ m ++ drop r xs)

      whole : drop n xs ≡ a ++ drop q xs
      whole = split xs n q (omega arith)

      ends : digits_to xs q ≡ q
      ends = run_stops (is_in Digit) xs q (run_stopped (is_in Digit) (end_in_none Digit) xs n)

      plain : Found q q
      plain (inl l) = (a, inl (some_found xs n l, between_none xs q, refl), whole)
      plain (inr l) = let f : ⊥ = omega arith in absurd f

      with_point : eqb (peek_at xs q) (code ".") ≡ true → Found (suc q) (digits_to xs (suc q))
      with_point e h = (m, inr (some h, refl), whole ∙ ap (λ (l : List ℕ). a ++ l) rest ∙ sym (pointed a b m (drop r xs) refl))
        where
          f : ℕ
          f = suc q

          r : ℕ
          r = digits_to xs f

          b : List ℕ
          b = between xs f r

          m : List ℕ
          m = a ++ (code "." ∷ b)

          rest : drop q xs ≡ code "." ∷ (b ++ drop r xs)
          rest =
              found xs q (λ c. eqb c (code ".")) refl e
              ∙ ap (λ (c : ℕ). c ∷ drop f xs) (eqb-true (peek_at xs q) (code ".") e)
              ∙ ap (λ (l : List ℕ). code "." ∷ l) (split xs f r (omega arith))

          some : (n < q) ⊎ (f < r) → (SomeDigits a × Digits b) ⊎ (Digits a × SomeDigits b)
          some (inl l) = inl (some_found xs n l, digits_found xs f)
          some (inr l) = inr (digits_found xs n, some_found xs f l)

  pub power_cut : (t d p : List ℕ) → Power t d p → drop n xs ≡ p
      → let x = past_exponent xs n in
      (not (is_exponent xs n) || ltb x (digits_to xs x) ≡ true)
      × (is_exponent xs n && is_minus xs (suc n) ≡ true ↔ t ≡ ascii "-")
      × Stand xs x d []
  power_cut t d p g e = go g
    where
      Cut : Bool → Type 0
      Cut b =
          let x = cond b (past_sign xs (suc n)) n in
          (not b || ltb x (digits_to xs x) ≡ true) × (b && is_minus xs (suc n) ≡ true ↔ t ≡ ascii "-") × Stand xs x d []

      is : (ys : List ℕ) → p ≡ ys → is_exponent xs n ≡ eqb (lowered (peek_at ys 0)) (code "e")
      is ys w = ap (λ (c : ℕ). eqb (lowered c) (code "e")) (there xs n ys (e ∙ w))

      digits : (x : ℕ) → Digits d → drop x xs ≡ d → Stand xs x d []
      digits x h u = digits_cut xs x d [] h (end_in_none Digit) (u ∙ sym (append-nil d))

      go : Power t d p → Cut (is_exponent xs n)
      go (inl (u, v, w)) =
          rw (is [] w ∙ no_exponent) (refl, ((λ z. absurd (true≢false (sym z))), λ z. let f : ⊥ = omega (arith, ap length (sym u ∙ z)) in absurd f), digits n (rw v tt) (e ∙ w ∙ sym v))
      go (inr (g, v, (c, l, w))) =
          let x = past_sign xs (suc n) in
          let u : drop (suc n) xs ≡ t ++ d = next xs n c (t ++ d) (e ∙ w) in
          let h : code "." ≤ peek_at d 0 = rw (append-nil d) at (digits_begin d [] v).0 in
          let s = sign_cut xs (suc n) t d g h u in
          let k = digits x v.0 s.0 in
          rw (is (c ∷ (t ++ d)) w ∙ eq-eqb (lowered c) (code "e") l) (lt-ltb x (digits_to xs x) (between_some xs x (digits_to xs x) (rw k.0 v.1)), s.1, k)

  pub power_found : is_in Digit (peek_at xs n) ≡ false
      → let x = past_exponent xs n in not (is_exponent xs n) || ltb x (digits_to xs x) ≡ true → digits_to xs x ≡ length xs
      → (t : List ℕ) × Power t (between xs x (digits_to xs x)) (drop n xs)
  power_found z = go (is_exponent xs n) refl
    where
      Found : Bool → Type 0
      Found b =
          let x = cond b (past_sign xs (suc n)) n in
          not b || ltb x (digits_to xs x) ≡ true → digits_to xs x ≡ length xs → (t : List ℕ) × Power t (between xs x (digits_to xs x)) (drop n xs)

      go : (b : Bool) → is_exponent xs n ≡ b → Found b
      go true e h k =
          let x = past_sign xs (suc n) in
          let y = digits_to xs x in
          let d = between xs x y in
          let (t, g, u) = sign_found xs (suc n) in
          let rest : drop x xs ≡ d = split xs x y (omega arith) ∙ ap (λ (l : List ℕ). d ++ l) (ap (λ (k : ℕ). drop k xs) k ∙ drop-length xs) ∙ append-nil d in
          let c = peek_at xs n in
          let all : drop n xs ≡ c ∷ (t ++ d) = found xs n (λ c. eqb (lowered c) (code "e")) no_exponent e ∙ ap (λ (l : List ℕ). c ∷ l) (u ∙ ap (λ (l : List ℕ). t ++ l) rest) in
          (t, inr (g, some_found xs x (ltb-true x y h), (c, eqb-true (lowered c) (code "e") e, all)))
      go false e h k =
          let s : digits_to xs n ≡ n = run_stops (is_in Digit) xs n z in
          ([], inl (refl, rw s (between_none xs n), ap (λ (k : ℕ). drop k xs) (sym s ∙ k) ∙ drop-length xs))
