-- The query goes on with a number, a duration or neither exactly when the documents' sentences say so. All rests on the longest number text there
-- (`number_longest`) and on what is read behind it (`reading_path`): what is taken in all is the longest number text, or text that a duration begins
-- with (`taken_longest`). A longer one would have a unit behind that number text (`beyond`): if its own number is shorter, it goes on with
-- digits and letters that are digits of a hex number too, and with the byte behind them as with a unit.
use Prim.Native.Nat.{ℕ, suc, ◌+◌, ◌-◌, ◌<◌, ◌≤◌}
use Prim.Native.Char.{code}
use native.Mathlib.Nat.{add-zero}
use native.Mathlib.Numerals.{add-one}
use native.Mathlib.Omega.{arith}
use mathlib.Core.Bool.{Bool, true, false, ◌&&◌, ◌||◌, not, true≢false}
use mathlib.Core.List.{List, ◌∷◌, ◌++◌, append_assoc}
use mathlib.Core.Path.{◌≡◌, refl, sym, ap, ap₂, subst, ◌∙◌}
use lib.Seq.{split_at, take-take, drop-append-add, length-take-le, take-append_seam, drop-append_seam, get_or-append-add, get_or-drop}
use lib.ListN.{length, take, drop, length-append, length-drop, take-append-drop}
use borrow.Author.Tests.{eqb-true}
use Rattle.proving.proofs.Below.{below}
use Rattle.proving.proofs.Choice.{either, and_left, and_right, told}
use Rattle.scan.specs.Byte.{end, peek_at, is_within, is_alpha, is_alpha_numeric}
use Rattle.scan.specs.Language.{Longest}
use Rattle.scan.specs.Separated.{separator}
use Rattle.scan.specs.Text.{has}
use Rattle.scan.proofs.Edges.{ascii_inside}
use Rattle.scan.proofs.Greedy.{longest_one}
use Rattle.utf8.specs.declared.Reading.{Reading}
use Rattle.numeral.specs.declared.Part.TheVariants as part
use Rattle.numeral.specs.declared.Numeral.{Numeral}
use Rattle.numeral.specs.declared.Numeral.TheVariants.{Number, Duration, Neither}
use Rattle.numeral.specs.Numeral.{is_unit, is_first_unit, number_end, duration_from, taken, numeral_of}
use Rattle.numeral.specs.Texts.{is_point, NumberText, Units}
use Rattle.numeral.specs.laws.Texts.{IsNumber, IsDuration, NumberGiven, DurationGiven}
use Rattle.numeral.proofs.Texts.{implied, not_both, number_longest}
use Rattle.numeral.proofs.Units.{first_ascii, Path, units_path, path_units, path_duration, numeral_number, reading_path}
use Rattle.numeral.proofs.Within.{alpha_ascii}

-- a unit is a letter, and a letter is no point
pub unit_letter : (c : ℕ) → is_first_unit c ≡ true → is_alpha c ≡ true
unfolding is_unit is_alpha is_within
unit_letter c e = implied _ _ (below (λ x. not (is_first_unit x) || is_alpha x) 0x80 refl c (first_ascii c e)) e

letter_no_point : (c : ℕ) → is_alpha c ≡ true → is_point c ≡ false
unfolding is_alpha is_within
letter_no_point c e = not_both _ _ (below (λ x. not (is_alpha x && is_point x)) 0x80 refl c (alpha_ascii c e)) e

not_true : (b : Bool) → not b ≡ true → b ≡ false
not_true true e = absurd (true≢false (sym e))
not_true false e = refl

-- the front of bytes: so many of them, and what stands behind
pub front_take : (xs t rest : List ℕ) (n : ℕ) → xs ≡ t ++ rest → n ≡ length t → take n xs ≡ t
front_take xs t rest n e l = ap₂ (λ (m : ℕ) (ys : List ℕ). take m ys) l e ∙ take-append_seam t rest

pub front_peek : (xs t rest : List ℕ) (n : ℕ) → xs ≡ t ++ rest → n ≡ length t → peek_at xs n ≡ peek_at rest 0
front_peek xs t rest n e l = ap₂ (λ (m : ℕ) (ys : List ℕ). peek_at ys m) (l ∙ sym (add-zero (length t))) e ∙ get_or-append-add t rest 0 end

pub front_within : (xs t rest : List ℕ) → xs ≡ t ++ rest → length t ≤ length xs
front_within xs t rest e = omega (arith, ap (λ (ys : List ℕ). length ys) e, length-append t rest)

module _ (r : Reading) (xs : List ℕ) where
  abbrev size : ℕ
  size = number_end r xs

  abbrev next : ℕ
  next = peek_at xs size

  -- which of the answers is given, and when
  pub data Way : Numeral → Type 0 where
    number : is_point next ≡ false → is_alpha next ≡ false → Way (Number size)
    stopped : is_first_unit next && not (has separator (take size xs)) ≡ false → Way (Neither size)
    units : is_first_unit next ≡ true → has separator (take size xs) ≡ false → Way (duration_from part.Unit (size + 1) (drop (size + 1) xs))

  pub way : Way (numeral_of r xs)
  unfolding numeral_of is_unit
  way =
      either Way (is_point next) (λ e. stopped (ap (λ x. is_first_unit x && not (has separator (take size xs))) (eqb-true next (code ".") e)))
      (λ e. either Way (is_alpha next)
      (λ a. either Way (is_first_unit next && not (has separator (take size xs)))
      (λ u. units (and_left (is_first_unit next) _ u) (not_true _ (and_right (is_first_unit next) _ u)))
      stopped)
      (λ a. number e a))

  is_number : is_point next ≡ false → is_alpha next ≡ false → numeral_of r xs ≡ Number size
  unfolding numeral_of
  is_number p a = rw (p, a) refl

  pub is_stopped : is_alpha next ≡ true → is_first_unit next && not (has separator (take size xs)) ≡ false → numeral_of r xs ≡ Neither size
  unfolding numeral_of
  is_stopped a u = rw (letter_no_point next a, a, u) refl

  is_units : is_first_unit next ≡ true → has separator (take size xs) ≡ false → numeral_of r xs ≡ duration_from part.Unit (size + 1) (drop (size + 1) xs)
  unfolding numeral_of
  is_units u h = rw (letter_no_point next (unit_letter next u), unit_letter next u, u, h) refl

  -- a letter behind the number cuts the bytes in three
  inside : is_alpha next ≡ true → size < length xs
  inside a = ascii_inside xs size (alpha_ascii next a)

  pub in_three : is_alpha next ≡ true → xs ≡ take size xs ++ (next ∷ drop (size + 1) xs)
  in_three a = rw add-one (split_at xs size end (inside a))

pub number_given : NumberGiven
number_given r xs b n = (λ e. to (numeral_of r xs) (way r xs) e, from)
  where
    long : Longest (NumberText r) xs (number_end r xs)
    long = number_longest r xs b

    to : (v : Numeral) → Way r xs v → v ≡ Number n → IsNumber r xs n
    to _ (number p a) e =
        let m : number_end r xs ≡ n = ap taken e in
        (subst (Longest (NumberText r) xs) m long, ap (λ i. is_alpha (peek_at xs i)) (sym m) ∙ a, λ f. true≢false (sym (ap is_point (ap (peek_at xs) m ∙ f)) ∙ p))
    to _ (stopped u) e = told numeral_number e refl (λ i. absurd (omega (arith, i)))
    to _ (units u h) e = absurd ((reading_path part.Unit (number_end r xs + 1) (drop (number_end r xs + 1) xs)).no_number n e)

    from : IsNumber r xs n → numeral_of r xs ≡ Number n
    from i =
        let m : number_end r xs ≡ n = longest_one _ xs (number_end r xs) n long i.0 in
        is_number r xs (not_point i.2) (ap (λ j. is_alpha (peek_at xs j)) m ∙ i.1) ∙ ap Number m
      where
        not_point : (peek_at xs n ≡ code "." → ⊥) → is_point (peek_at xs (number_end r xs)) ≡ false
        not_point h = go (is_point (peek_at xs (number_end r xs))) refl
          where
            go : (t : Bool) → is_point (peek_at xs (number_end r xs)) ≡ t → t ≡ false
            go true e = absurd (h (sym (ap (peek_at xs) (longest_one _ xs (number_end r xs) n long i.0)) ∙ eqb-true (peek_at xs (number_end r xs)) (code ".") e))
            go false e = refl

pub duration_given : DurationGiven
duration_given r xs b n = (λ e. to (numeral_of r xs) (way r xs) e, from)
  where
    long : Longest (NumberText r) xs (number_end r xs)
    long = number_longest r xs b

    to : (v : Numeral) → Way r xs v → v ≡ Duration n → IsDuration r xs n
    to _ (number p a) e = told numeral_number e refl (λ i. absurd (omega (arith, i)))
    to _ (stopped u) e = told numeral_number e refl (λ i. absurd (omega (arith, i)))
    to _ (units u h) e =
        let k = number_end r xs in
        let c = peek_at xs k in
        let q = reading_path part.Unit (k + 1) (drop (k + 1) xs) in
        let t = take k xs ++ (c ∷ q.front) in
        let w : xs ≡ t ++ q.back =
        in_three r xs (unit_letter c u) ∙ ap (λ (ys : List ℕ). take k xs ++ (c ∷ ys)) q.whole ∙ sym (append_assoc (take k xs) (c ∷ q.front) q.back) in
        let l : length (take k xs) ≡ k = length-take-le k xs long.within in
        let m : n ≡ length t = omega (arith, q.size, ap taken e, length-append (take k xs) (c ∷ q.front), l) in
        let d : drop k t ≡ c ∷ q.front = ap (λ (i : ℕ). drop i t) (sym l) ∙ drop-append_seam (take k xs) (c ∷ q.front) in
        let f = q.ended n e in
        record {
          k = k;
          number = long;
          plain = h;
          within = subst (λ i. i ≤ length xs) (sym m) (front_within xs t q.back w);
          units = subst Units (sym (ap (λ (ys : List ℕ). drop k ys) (front_take xs t q.back n w m) ∙ d)) (path_units c q.front u f.0);
          ended = ap is_alpha_numeric (front_peek xs t q.back n w m) ∙ f.1;
        }

    from : IsDuration r xs n → numeral_of r xs ≡ Duration n
    from i = from_there i.k (longest_one _ xs (number_end r xs) i.k long i.number) i.plain (units_path (drop i.k (take n xs)) i.units)
      where
        from_there :
            (k : ℕ) → number_end r xs ≡ k → has separator (take k xs) ≡ false →
            (u : ℕ) × (w : List ℕ) × (drop k (take n xs) ≡ u ∷ w) × (is_first_unit u ≡ true) × Path part.Unit w → numeral_of r xs ≡ Duration n
        from_there k e h p =
            let u = p.0 in
            let w = p.1 in
            let l : length (take n xs) ≡ n = length-take-le n xs i.within in
            let m : n - k ≡ suc (length w) = sym (length-drop k (take n xs) ∙ ap (λ (j : ℕ). j - k) l) ∙ ap (λ (ys : List ℕ). length ys) p.2 in
            let front : take k (take n xs) ≡ take k xs = take-take k n xs (omega (arith, m)) in
            let whole : xs ≡ take k xs ++ (u ∷ (w ++ drop n xs)) =
            sym (take-append-drop n xs) ∙ ap (λ (ys : List ℕ). ys ++ drop n xs) (sym (take-append-drop k (take n xs)) ∙ ap₂ (λ (a b : List ℕ). a ++ b) front p.2)
            ∙ append_assoc (take k xs) (u ∷ w) (drop n xs) in
            let lk : k ≡ length (take k xs) = sym (length-take-le k xs (subst (λ j. j ≤ length xs) e long.within)) in
            let here : peek_at xs (number_end r xs) ≡ u = ap (peek_at xs) e ∙ front_peek xs (take k xs) _ k whole lk in
            let behind : drop (number_end r xs + 1) xs ≡ w ++ drop n xs =
            ap₂ (λ (j : ℕ) (ys : List ℕ). drop (j + 1) ys) (e ∙ lk) whole ∙ drop-append-add (take k xs) (u ∷ (w ++ drop n xs)) 1 in
            is_units r xs (ap is_first_unit here ∙ p.3) (ap (λ (j : ℕ). has separator (take j xs)) e ∙ h)
            ∙ ap (duration_from part.Unit (number_end r xs + 1)) behind
            ∙ path_duration part.Unit (number_end r xs + 1) w (drop n xs) p.4 (ap is_alpha_numeric (get_or-drop n xs 0 end ∙ ap (peek_at xs) (add-zero n)) ∙ i.ended)
            ∙ ap Duration (omega (arith, m, e))
