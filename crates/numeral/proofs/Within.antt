-- What begins with a digit or a point takes one byte at least, and ends within the bytes, behind one that is ASCII: each part of a number, and
-- each byte that goes on with a duration, leads from such a place to another.
use Prim.Native.Nat.{ℕ, zero, suc, ◌+◌, ◌<◌, ◌≤◌}
use Prim.Native.Char.{code}
use native.Mathlib.Omega.{arith}
use native.Mathlib.Numerals.{add-one}
use mathlib.Core.Bool.{Bool, true, false, cond, ◌&&◌, ◌||◌, not, true≢false}
use mathlib.Core.List.{List, [], ◌∷◌}
use mathlib.Core.Logic.{inl}
use mathlib.Core.Path.{◌≡◌, refl, sym}
use lib.Dec.{eqb}
use lib.ListN.{length, take, drop}
use Rattle.scan.specs.declared.byte.Class.{Class}
use Rattle.scan.specs.declared.byte.Class.TheVariants.{Alpha, Digit, HexDigit}
use Rattle.scan.specs.Byte.{peek_at, lowered, is_within, is_alpha, is_digit, is_in}
use Rattle.scan.specs.laws.Edge.{Edge, first, behind, AsciiAlone}
use Rattle.scan.specs.declared.separated.Separators.{Separators}
use Rattle.scan.specs.Separated.{is_open, separator, separated_run, separated_end}
use Rattle.scan.specs.Text.{has}
use Rattle.scan.specs.laws.Separated.{SeparatedDigits}
use Rattle.scan.proofs.separated.Runs.{edge_separated}
use Rattle.scan.proofs.separated.Texts.{digits_greedy}
use Rattle.utf8.specs.declared.Reading.{Reading}
use Rattle.utf8.specs.declared.Reading.TheVariants.{Crate, Documented}
use Rattle.proving.proofs.Choice.{either, and_right}
use Rattle.scan.proofs.byte.Classes.{end_in_none, within_bounds}
use Rattle.scan.proofs.Edges.{class_ascii, one_ascii, or_ascii}
use Rattle.scan.specs.Sign.{is_sign, past_sign}
use Rattle.scan.proofs.sign.Places.{sign_ascii}
use Rattle.numeral.specs.declared.Part.{Part}
use Rattle.numeral.specs.declared.Part.TheVariants.{Unit}
use Rattle.numeral.specs.declared.Turn.{Turn}
use Rattle.numeral.specs.declared.Turn.TheVariants.{On, Ends, Fails}
use Rattle.numeral.specs.declared.Numeral.{Numeral}
use Rattle.numeral.specs.Numeral.{between_digits, behind_prefix, is_hex, fraction_end, mantissa_end, exponent_end, number_end, is_first_unit, turn_of, turned, part_behind, duration_from, taken, numeral_of}
use Rattle.numeral.specs.laws.Numeral.{NumeralWithin}
use Rattle.numeral.proofs.Turns.{on_ascii, on_inside, duration_at_turn}

-- letters, the point of a number and the letter of its exponent are ASCII
pub alpha_ascii : AsciiAlone is_alpha
unfolding is_in
alpha_ascii = class_ascii Alpha refl

pub point_ascii : AsciiAlone (λ c. eqb c (code "."))
point_ascii = one_ascii (code ".") (omega arith)

pub letter_ascii : AsciiAlone (λ c. eqb (lowered c) (code "e"))
unfolding lowered
letter_ascii c =
    either (λ n. eqb n (code "e") ≡ true → c < 0x80) (is_within (code "A") (code "Z") c) (λ u e. omega (arith, within_bounds (code "A") (code "Z") c u)) (λ u. one_ascii (code "e") (omega arith) c)

-- no separator stands before the first digit
pub none_before : (r : Reading) → is_open (between_digits r) false ≡ false
none_before Crate = refl
none_before Documented = refl

-- a digit is taken, by itself and before others
pub one_digit : (x : ℕ) → is_in Digit x ≡ true → (q : Separators) → SeparatedDigits (is_in Digit) q (x ∷ [])
one_digit x e q zero l = inl e
one_digit x e q (suc i) l = absurd (omega (arith, l))

digit_taken : (q : Separators) (xs : List ℕ) → is_digit (peek_at xs 0) ≡ true → 1 ≤ separated_run (is_in Digit) q xs
unfolding is_in is_within
digit_taken q [] d = absurd (true≢false (sym d))
digit_taken q (x ∷ xs) d = (digits_greedy (is_in Digit) (end_in_none Digit) q).longest (x ∷ []) xs (one_digit x d q)

module _ (r : Reading) (xs : List ℕ) where
  pub past : {p : ℕ → Bool} → AsciiAlone p → (at : ℕ) → p (peek_at xs at) ≡ true → Edge xs (at + 1)
  past a at e = rw add-one (behind at (a (peek_at xs at) e))

  fraction_edge : (k : Class) → AsciiAlone (is_in k) → (at : ℕ) → Edge xs at → Edge xs (fraction_end r k xs at)
  unfolding fraction_end
  fraction_edge k a at h = either (Edge xs) (eqb (peek_at xs at) (code ".")) (λ e. edge_separated (is_in k) a (between_digits r) xs (at + 1) (past point_ascii at e)) (λ e. h)

  mantissa_edge : (k : Class) → AsciiAlone (is_in k) → (q : Separators) (from : ℕ) → Edge xs from → Edge xs (mantissa_end r k q xs from)
  mantissa_edge k a q from h = fraction_edge k a (separated_end (is_in k) q xs from) (edge_separated (is_in k) a q xs from h)

  pub sign_edge : (at : ℕ) → Edge xs at → Edge xs (past_sign xs at)
  sign_edge at h = either (Edge xs) (is_sign (peek_at xs at)) (λ e. behind at (sign_ascii (peek_at xs at) e)) (λ e. h)

  exponent_edge : (at : ℕ) → Edge xs at → Edge xs (exponent_end r xs at)
  unfolding exponent_end
  exponent_edge at h =
      either (Edge xs) (eqb (lowered (peek_at xs at)) (code "e"))
      (λ e. edge_separated (is_in Digit) (class_ascii Digit refl) (between_digits r) xs (past_sign xs (at + 1)) (sign_edge (at + 1) (past letter_ascii at e)))
      (λ e. h)

  pub hex_edge : is_hex xs ≡ true → Edge xs 2
  unfolding is_hex
  hex_edge e =
      behind 1 (or_ascii _ _ (one_ascii (code "x") (omega arith)) (one_ascii (code "X") (omega arith)) (peek_at xs 1) (and_right (eqb (peek_at xs 0) (code "0")) (eqb (peek_at xs 1) (code "x") || eqb (peek_at xs 1) (code "X")) e))

  -- where a number has all its digits but those of its exponent
  abbrev pub digits_end : ℕ
  digits_end = cond (is_hex xs) (mantissa_end r HexDigit (behind_prefix r) xs 2) (mantissa_end r Digit (between_digits r) xs 0)

  pub digits_edge : Edge xs digits_end
  digits_edge = either (Edge xs) (is_hex xs) (λ e. mantissa_edge HexDigit (class_ascii HexDigit refl) (behind_prefix r) 2 (hex_edge e)) (λ e. mantissa_edge Digit (class_ascii Digit refl) (between_digits r) 0 first)

  pub number_edge : Edge xs (number_end r xs)
  unfolding number_end
  number_edge = exponent_edge digits_end digits_edge

  -- no part of a number goes back
  fraction_on : (k : Class) (at : ℕ) → at ≤ fraction_end r k xs at
  unfolding fraction_end
  fraction_on k at = either (λ n. at ≤ n) (eqb (peek_at xs at) (code ".")) (λ e. omega arith) (λ e. omega arith)

  sign_on : (at : ℕ) → at ≤ past_sign xs at
  sign_on at = either (λ n. at ≤ n) (is_sign (peek_at xs at)) (λ e. omega arith) (λ e. omega arith)

  exponent_on : (at : ℕ) → at ≤ exponent_end r xs at
  unfolding exponent_end
  exponent_on at = either (λ n. at ≤ n) (eqb (lowered (peek_at xs at)) (code "e")) (λ e. omega (arith, sign_on (at + 1))) (λ e. omega arith)

  -- and one that begins with a digit or a point has a byte
  mantissa_byte : is_digit (peek_at xs 0) || eqb (peek_at xs 0) (code ".") ≡ true → 1 ≤ mantissa_end r Digit (between_digits r) xs 0
  unfolding is_in fraction_end
  mantissa_byte b = go (is_digit (peek_at xs 0)) refl b (separated_end (is_in Digit) (between_digits r) xs 0) refl
    where
      go : (d : Bool) → is_digit (peek_at xs 0) ≡ d → d || eqb (peek_at xs 0) (code ".") ≡ true → (n : ℕ) → separated_end (is_in Digit) (between_digits r) xs 0 ≡ n → 1 ≤ fraction_end r Digit xs n
      go true d t n e = omega (arith, digit_taken (between_digits r) xs d, e, fraction_on Digit n)
      go false d t zero e = rw t (omega arith)
      go false d t (suc n) e = omega (arith, fraction_on Digit (suc n))

  number_byte : is_digit (peek_at xs 0) || eqb (peek_at xs 0) (code ".") ≡ true → 1 ≤ number_end r xs
  unfolding number_end
  number_byte b =
      let m : 1 ≤ digits_end = either (λ n. 1 ≤ n) (is_hex xs) (λ e. omega (arith, fraction_on HexDigit (separated_end (is_in HexDigit) (behind_prefix r) xs 2))) (λ e. mantissa_byte b) in
      omega (arith, m, exponent_on digits_end)

  -- what ends at n or behind it, at such a place; so does a duration that was read through to n
  abbrev Within : ℕ → Numeral → Type 0
  Within n x = (n ≤ taken x) × Edge xs (taken x)

  turn_within : (p : Part) (n : ℕ) → Edge xs n → ((q : Part) → n < length xs → Edge xs (n + 1) → Within (n + 1) (duration_from q (n + 1) (drop (n + 1) xs)))
      → Within n (duration_from p n (drop n xs))
  turn_within p n h next = rw (duration_at_turn p xs n refl) (go (turn_of p (peek_at xs n)) refl)
    where
      go : (t : Turn) → turn_of p (peek_at xs n) ≡ t → Within n (turned t n (duration_from (part_behind t) (n + 1) (drop (n + 1) xs)))
      go (On q) e = let r = next q (on_inside p q xs n e) (rw add-one (behind n (on_ascii q (peek_at xs n) p e))) in (omega (arith, r.0), r.1)
      go Ends e = (omega arith, h)
      go Fails e = (omega arith, h)

  duration_within : (k : ℕ) (p : Part) (n : ℕ) → length xs ≤ n + k → Edge xs n → Within n (duration_from p n (drop n xs))
  duration_within zero p n l h = turn_within p n h (λ q i g. absurd (omega arith))
  duration_within (suc k) p n l h = turn_within p n h (λ q i g. duration_within k q (n + 1) (omega arith) g)

pub numeral_within : NumeralWithin
unfolding numeral_of
numeral_within r xs b =
    let P : Numeral → Type 0 = Within r xs 1 in
    let n = number_end r xs in
    let c = peek_at xs n in
    let here : (1 ≤ n) × Edge xs n = (number_byte r xs b, number_edge r xs) in
    either P (eqb c (code ".")) (λ e. here)
    (λ e. either P (is_alpha c)
    (λ a. either P (is_first_unit c && not (has separator (take n xs)))
    (λ u. let r = duration_within r xs (length xs) Unit (n + 1) (omega arith) (past r xs alpha_ascii n a) in (omega (arith, r.0), r.1))
    (λ u. here))
    (λ a. here))
