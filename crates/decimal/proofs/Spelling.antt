-- The tests and the places of the grammar are its spelling: the places cut a spelled text into its parts, and the parts between the places of
-- a text that passes the tests spell it. A text behind its sign begins with `i`, with `n` or below all letters, so it is spelled in one way.
use Prim.Native.Nat.{ℕ, ◌<◌, ◌≤◌}
use Prim.Native.Char.{code}
use native.Mathlib.Decide.{dec_lt}
use native.Mathlib.Omega.{arith}
use mathlib.Core.Bool.{true}
use mathlib.Core.List.{List, [], ◌∷◌, ◌++◌, map}
use mathlib.Core.Logic.{◌↔◌, ◌⊎◌, inl, inr}
use mathlib.Core.Path.{◌≡◌, ap, ◌∙◌}
use lib.ListN.{length, drop, length-drop}
use Rattle.scan.specs.Ascii.{ascii}
use Rattle.scan.specs.declared.byte.Class.TheVariants.{Digit}
use Rattle.scan.specs.Byte.{peek_at, is_in, lowered}
use Rattle.scan.proofs.byte.Classes.{below_not, end_in_none}
use Rattle.scan.proofs.Runs.{run_stopped}
use Rattle.scan.proofs.Same.{same_is_equal}
use Rattle.proving.proofs.Tests.{Tests, affirmed, tests_or, tests_and, itself, tests_eq, tests_lt}
use Rattle.scan.specs.Sign.{is_minus}
use Rattle.decimal.specs.Grammar.{whole_from, whole_to, fraction_from, fraction_to, exponent_to, parts_of, has_digits, exponent_has_digits, is_numeral, is_named, is_infinite, is_nan, between, fraction_of, exponent_of, is_negative_exponent}
use Rattle.decimal.specs.laws.Spelling.{Mantissa, NumeralOf, NameOf, InfinityOf, NumeralSpelled, NamesSpelled, SpelledOnce, PartsSpelled, SignSpelled}
use Rattle.decimal.proofs.Places.{exponent_within}
use Rattle.decimal.proofs.Cuts.{between_some, sign_cut, sign_found}
use Rattle.decimal.proofs.Pieces.{mantissa_begins, power_begins, mantissa_cut, mantissa_found, power_cut, power_found}

-- the parts of a numeral are at its places
parts_cut : (s a b t d xs : List ℕ) → NumeralOf s a b t d xs
    → (is_minus xs 0 ≡ true ↔ s ≡ ascii "-")
    × (between xs (whole_from xs) (whole_to xs) ≡ a)
    × (fraction_of xs ≡ b)
    × (exponent_has_digits xs (parts_of xs) ≡ true)
    × (is_negative_exponent xs ≡ true ↔ t ≡ ascii "-")
    × (exponent_of xs ≡ d)
    × (exponent_to xs ≡ length xs)
unfolding exponent_has_digits
parts_cut s a b t d xs (m, p, g, f, w, e) =
    let h : code "." ≤ peek_at (m ++ p) 0 = (mantissa_begins a b m p f).0 in
    let (u, (v, r)) = mantissa_cut xs (whole_from xs) a b m p f (power_begins t d p w) (sign_cut xs 0 s (m ++ p) g h e).0 in
    let (z, l, (x, o)) = power_cut xs (fraction_to xs) t d p w r in
    let k : exponent_to xs ≡ length xs = omega (arith, exponent_within xs, length-drop (exponent_to xs) xs, ap length o) in
    ((sign_cut xs 0 s (m ++ p) g h e).1, u, v, z, l, x, k)

pub parts_spelled : PartsSpelled
parts_spelled s a b t d xs h = let (g, u, v, w, l, e, k) = parts_cut s a b t d xs h in (g, rw (u, v), v, l, e)

mantissa_some : (a b m : List ℕ) → Mantissa a b m → (0 < length a) ⊎ (0 < length b)
mantissa_some a b m (inl (d, u, v)) = inl d.1
mantissa_some a b m (inr (inl (d, u), v)) = inl d.1
mantissa_some a b m (inr (inr (d, u), v)) = inr u.1

module _ (xs : List ℕ) where
  abbrev Spelled : Type 0
  Spelled = (s a b t d : List ℕ) × NumeralOf s a b t d xs

  pub tests_numeral : Tests (is_numeral xs) (((whole_from xs < whole_to xs) ⊎ (fraction_from xs < fraction_to xs)) × ((exponent_has_digits xs (parts_of xs) ≡ true) × (exponent_to xs ≡ length xs)))
  unfolding is_numeral has_digits
  tests_numeral =
      tests_and (tests_or (tests_lt (whole_from xs) (whole_to xs)) (tests_lt (fraction_from xs) (fraction_to xs)))
      (tests_and (itself (exponent_has_digits xs (parts_of xs))) (tests_eq (exponent_to xs) (length xs)))

  spelled : is_numeral xs ≡ true → Spelled
  unfolding exponent_has_digits
  spelled h =
      let (l, (w, k)) = tests_numeral.0 h in
      let (s, g, u) = sign_found xs 0 in
      let (m, f, v) = mantissa_found xs (whole_from xs) l in
      let (t, p) = power_found xs (fraction_to xs) (run_stopped (is_in Digit) (end_in_none Digit) xs (fraction_from xs)) w k in
      (s, between xs (whole_from xs) (whole_to xs), fraction_of xs, t, exponent_of xs, (m, drop (fraction_to xs) xs, g, f, p, u ∙ ap (λ (l : List ℕ). s ++ l) v))

  tested : Spelled → is_numeral xs ≡ true
  tested (s, a, b, t, d, h) =
      let (g, u, v, w, l, e, k) = parts_cut s a b t d xs h in
      tests_numeral.1 (some (rw (← u, ← v) at (mantissa_some a b h.0 h.3)), (w, k))
    where
      some : (0 < length (between xs (whole_from xs) (whole_to xs))) ⊎ (0 < length (fraction_of xs)) → (whole_from xs < whole_to xs) ⊎ (fraction_from xs < fraction_to xs)
      some (inl l) = inl (between_some xs (whole_from xs) (whole_to xs) l)
      some (inr l) = inr (between_some xs (fraction_from xs) (fraction_to xs) l)

pub numeral_spelled : NumeralSpelled
numeral_spelled xs = (spelled xs, tested xs)

-- a name begins with a letter
pub lowered_low : (w : List ℕ) → peek_at w 0 ≤ code "9" → peek_at (map lowered w) 0 ≤ code "9"
unfolding lowered
lowered_low [] h = h
lowered_low (x ∷ w) h = rw (below_not (code "A") (code "Z") x (omega arith)) h

name_begins : (name w : List ℕ) → code "9" < peek_at name 0 → map lowered w ≡ name → code "9" < peek_at w 0
name_begins name w h e = go (dec_lt (code "9") (peek_at w 0))
  where
    go : Dec (code "9" < peek_at w 0) → code "9" < peek_at w 0
    go (yes l) = l
    go (no l) = omega (arith, lowered_low w (omega arith), ap (λ (l : List ℕ). peek_at l 0) e)

module _ (name : List ℕ) (h : code "9" < peek_at name 0) where
  name_sign : (s xs : List ℕ) → NameOf name s xs → is_minus xs 0 ≡ true ↔ s ≡ ascii "-"
  name_sign s xs (w, g, e, u) = (sign_cut xs 0 s w g (omega (arith, name_begins name w h e)) u).1

  tests_name : (xs : List ℕ) → Tests (is_named name xs) ((s : List ℕ) × NameOf name s xs)
  tests_name xs = (to, from)
    where
      behind : List ℕ
      behind = drop (whole_from xs) xs

      to : is_named name xs ≡ true → (s : List ℕ) × NameOf name s xs
      to t = let (s, g, u) = sign_found xs 0 in (s, (behind, g, (same_is_equal (map lowered behind) name).0 t, u))

      from : (s : List ℕ) × NameOf name s xs → is_named name xs ≡ true
      from (s, (w, g, e, u)) =
          (same_is_equal (map lowered behind) name).1 (ap (map lowered) (sign_cut xs 0 s w g (omega (arith, name_begins name w h e)) u).0 ∙ e)

tests_infinite : (xs : List ℕ) → Tests (is_infinite xs) (((s : List ℕ) × NameOf (ascii "inf") s xs) ⊎ ((s : List ℕ) × NameOf (ascii "infinity") s xs))
unfolding is_infinite
tests_infinite xs = tests_or (tests_name (ascii "inf") (omega arith) xs) (tests_name (ascii "infinity") (omega arith) xs)

tests_nan : (xs : List ℕ) → Tests (is_nan xs) ((s : List ℕ) × NameOf (ascii "nan") s xs)
unfolding is_nan
tests_nan xs = tests_name (ascii "nan") (omega arith) xs

pub names_spelled : NamesSpelled
names_spelled xs = (((λ e. to ((tests_infinite xs).0 e)), λ c. (tests_infinite xs).1 (from c)), tests_nan xs)
  where
    to : ((s : List ℕ) × NameOf (ascii "inf") s xs) ⊎ ((s : List ℕ) × NameOf (ascii "infinity") s xs) → (s : List ℕ) × InfinityOf s xs
    to (inl (s, n)) = (s, inl n)
    to (inr (s, n)) = (s, inr n)

    from : (s : List ℕ) × InfinityOf s xs → ((s : List ℕ) × NameOf (ascii "inf") s xs) ⊎ ((s : List ℕ) × NameOf (ascii "infinity") s xs)
    from (s, inl n) = inl (s, n)
    from (s, inr n) = inr (s, n)

pub sign_spelled : SignSpelled
sign_spelled s xs (inl n) = name_sign (ascii "inf") (omega arith) s xs n
sign_spelled s xs (inr n) = name_sign (ascii "infinity") (omega arith) s xs n

-- what a text begins with behind its sign, in lower case, tells the three apart
module _ (xs : List ℕ) where
  abbrev first : ℕ
  first = peek_at (map lowered (drop (whole_from xs) xs)) 0

  first_named : (name : List ℕ) → is_named name xs ≡ true → first ≡ peek_at name 0
  first_named name e = ap (λ (l : List ℕ). peek_at l 0) ((same_is_equal (map lowered (drop (whole_from xs) xs)) name).0 e)

  pub first_infinite : is_infinite xs ≡ true → first ≡ code "i"
  unfolding is_infinite
  first_infinite e = go ((tests_or (itself (is_named (ascii "inf") xs)) (itself (is_named (ascii "infinity") xs))).0 e)
    where
      go : (is_named (ascii "inf") xs ≡ true) ⊎ (is_named (ascii "infinity") xs ≡ true) → first ≡ code "i"
      go (inl e) = first_named (ascii "inf") e
      go (inr e) = first_named (ascii "infinity") e

  pub first_nan : is_nan xs ≡ true → first ≡ code "n"
  unfolding is_nan
  first_nan e = first_named (ascii "nan") e

  first_numeral : is_numeral xs ≡ true → first ≤ code "9"
  first_numeral e =
      let (s, a, b, t, d, (m, p, g, f, w, u)) = spelled xs e in
      let (l, h) = mantissa_begins a b m p f in
      rw (sign_cut xs 0 s (m ++ p) g l u).0 (lowered_low (m ++ p) h)

pub spelled_once : SpelledOnce
spelled_once xs = (
  (λ i. affirmed (itself (is_nan xs)) (λ e. omega (arith, first_infinite xs i, first_nan xs e))),
  (λ i. affirmed (itself (is_numeral xs)) (λ e. omega (arith, first_infinite xs i, first_numeral xs e))),
  λ i. affirmed (itself (is_numeral xs)) (λ e. omega (arith, first_nan xs i, first_numeral xs e)),
)
