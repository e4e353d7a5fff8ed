-- A newline behind the bytes changes nothing: no part of a number or a duration goes on with one, and each test takes it as it takes the end.
use Prim.Native.Nat.{ℕ, ◌+◌, ◌≤◌}
use Prim.Native.Char.{code}
use native.Mathlib.Omega.{arith}
use mathlib.Core.Bool.{Bool, false, ◌&&◌, ◌||◌, not}
use mathlib.Core.List.{List, [], ◌∷◌, ◌++◌}
use mathlib.Core.Path.{◌≡◌, refl, ap, ◌∙◌}
use lib.Dec.{eqb}
use lib.ListN.{length, take, drop}
use lib.Seq.{take-append-le, drop-append-le}
use Rattle.scan.specs.declared.byte.Class.{Class}
use Rattle.scan.specs.declared.byte.Class.TheVariants.{Digit, HexDigit}
use Rattle.scan.specs.Byte.{end, peek_at, lowered, is_within, is_alpha, is_hex_digit, is_in}
use Rattle.scan.specs.declared.separated.Separators.{Separators}
use Rattle.scan.specs.Separated.{separator, separated_end}
use Rattle.scan.specs.Text.{has}
use Rattle.scan.proofs.byte.Classes.{end_in_none}
use Rattle.scan.proofs.separated.Runs.{separated_within, separated_append}
use Rattle.utf8.specs.declared.Reading.{Reading}
use Rattle.proving.proofs.Choice.{either_same}
use Rattle.scan.proofs.Edges.{edge_within}
use Rattle.scan.proofs.Runs.{peek_append}
use Rattle.scan.specs.Sign.{is_sign, past_sign}
use Rattle.numeral.specs.declared.Part.{Part}
use Rattle.numeral.specs.declared.Part.TheVariants.{Unit, UnitS, Digits}
use Rattle.numeral.specs.Numeral.{between_digits, behind_prefix, is_hex, fraction_end, mantissa_end, exponent_end, number_end, is_unit, is_first_unit, stop_of, turn_of, turned, part_behind, duration_from, numeral_of}
use Rattle.numeral.specs.laws.Numeral.{NumeralSeam}
use Rattle.numeral.proofs.Within.{alpha_ascii, point_ascii, letter_ascii, past, sign_edge, hex_edge, digits_end, digits_edge, number_edge}

-- a test that takes a newline as it takes the end
abbrev AsEnd : (ℕ → Bool) → Type 0
AsEnd p = p (code "\n") ≡ p end

letter_line : AsEnd (λ c. eqb (lowered c) (code "e"))
unfolding lowered is_within
letter_line = refl

sign_line : AsEnd is_sign
unfolding is_sign
sign_line = refl

alpha_line : AsEnd is_alpha
unfolding is_alpha is_within
alpha_line = refl

unit_line : AsEnd is_first_unit
unfolding is_unit
unit_line = refl

-- a class that has no newline
abbrev NoLine : Class → Type 0
NoLine k = is_in k (code "\n") ≡ false

digits_line : NoLine Digit
unfolding is_in is_within
digits_line = refl

hex_line : NoLine HexDigit
unfolding is_in is_hex_digit is_within
hex_line = refl

abbrev lined : List ℕ → List ℕ → List ℕ
lined xs ys = xs ++ (code "\n" ∷ ys)

peek_line : (p : ℕ → Bool) → AsEnd p → (xs ys : List ℕ) (at : ℕ) → at ≤ length xs → p (peek_at (lined xs ys) at) ≡ p (peek_at xs at)
peek_line p e xs ys at h = peek_append p (code "\n") e xs ys at h

mark_line : (xs ys : List ℕ) → is_hex (lined xs ys) ≡ is_hex xs
unfolding is_hex
mark_line [] ys = refl
mark_line (x ∷ xs) ys = rw (peek_line (λ c. eqb c (code "x") || eqb c (code "X")) refl (x ∷ xs) ys 1 (omega arith))

module _ (r : Reading) (xs ys : List ℕ) where
  run_line : (k : Class) → NoLine k → (q : Separators) (at : ℕ) → at ≤ length xs → separated_end (is_in k) q (lined xs ys) at ≡ separated_end (is_in k) q xs at
  run_line k f q at h = separated_append (is_in k) (end_in_none k) q xs (code "\n") ys f refl at h

  fraction_line : (k : Class) → NoLine k → (at : ℕ) → at ≤ length xs → fraction_end r k (lined xs ys) at ≡ fraction_end r k xs at
  unfolding fraction_end
  fraction_line k f at h =
      rw (peek_line (λ c. eqb c (code ".")) refl xs ys at h)
      (either_same (eqb (peek_at xs at) (code ".")) (λ e. run_line k f (between_digits r) (at + 1) (edge_within _ _ (past r xs point_ascii at e))) (λ e. refl))

  mantissa_line : (k : Class) → NoLine k → (q : Separators) (from : ℕ) → from ≤ length xs → mantissa_end r k q (lined xs ys) from ≡ mantissa_end r k q xs from
  mantissa_line k f q from h =
      rw (run_line k f q from h) (fraction_line k f (separated_end (is_in k) q xs from) (omega (arith, separated_within (is_in k) q xs from)))

  exponent_line : (at : ℕ) → at ≤ length xs → exponent_end r (lined xs ys) at ≡ exponent_end r xs at
  unfolding exponent_end
  exponent_line at h =
      rw (peek_line (λ c. eqb (lowered c) (code "e")) letter_line xs ys at h)
      (either_same (eqb (lowered (peek_at xs at)) (code "e"))
      (λ e. let g = past r xs letter_ascii at e in
      rw (peek_line is_sign sign_line xs ys (at + 1) (edge_within _ _ g)) (run_line Digit digits_line (between_digits r) (past_sign xs (at + 1)) (edge_within _ _ (sign_edge r xs (at + 1) g))))
      (λ e. refl))

  number_line : number_end r (lined xs ys) ≡ number_end r xs
  unfolding number_end
  number_line =
      rw (mark_line xs ys)
      (ap (exponent_end r (lined xs ys))
      (either_same (is_hex xs) (λ e. mantissa_line HexDigit hex_line (behind_prefix r) 2 (edge_within _ _ (hex_edge r xs e))) (λ e. mantissa_line Digit digits_line (between_digits r) 0 (omega arith)))
      ∙ exponent_line (digits_end r xs) (edge_within _ _ (digits_edge r xs)))

-- to a duration, a newline is as the end
line_ends : (p : Part) (n : ℕ) (ys : List ℕ) → duration_from p n (code "\n" ∷ ys) ≡ duration_from p n []
unfolding duration_from turn_of stop_of is_unit is_alpha is_within
line_ends Unit n ys = refl
line_ends UnitS n ys = refl
line_ends Digits n ys = refl

duration_line : (p : Part) (n : ℕ) (xs ys : List ℕ) → duration_from p n (lined xs ys) ≡ duration_from p n xs
unfolding duration_from
duration_line p n [] ys = line_ends p n ys
duration_line p n (x ∷ xs) ys = ap (turned (turn_of p x) n) (duration_line (part_behind (turn_of p x)) (n + 1) xs ys)

pub numeral_seam : NumeralSeam
unfolding numeral_of
numeral_seam r xs ys =
    let n = number_end r xs in
    let c = peek_at xs n in
    let h = edge_within _ _ (number_edge r xs) in
    rw (number_line r xs ys, peek_line (λ c. eqb c (code ".")) refl xs ys n h, peek_line is_alpha alpha_line xs ys n h, peek_line is_first_unit unit_line xs ys n h, take-append-le n xs (code "\n" ∷ ys) h)
    (either_same (eqb c (code ".")) (λ e. refl)
    (λ e. either_same (is_alpha c)
    (λ a. either_same (is_first_unit c && not (has separator (take n xs)))
    (λ u. rw (drop-append-le (n + 1) xs (code "\n" ∷ ys) (edge_within _ _ (past r xs alpha_ascii n a))) (duration_line Unit (n + 1) (drop (n + 1) xs) ys))
    (λ u. refl))
    (λ a. refl)))
