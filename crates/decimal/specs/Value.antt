-- The exact value of a decimal text, by unbounded numbers, and where it is exact: document 01, "A nonzero value is w times 10^E, w not
-- divisible by ten; it is exact if w is at most 2^53 and E lies in -22 to 22".
use Rattle.std.specs.Prelude.{ℕ, zero, suc, ◌+◌, ◌*◌, ◌/◌, ◌%◌, ◌^◌, Bool, cond, ◌&&◌, ◌||◌, not, List, eqb, leb, ltb, Float, length}
use Rattle.std.specs.Float.Ieee as Ieee
use Rattle.std.specs.Float.{nan, inf, binary64}
use Rattle.std.specs.Float.Ieee.{round, to_bits}
use Rattle.scan.specs.Digits.{value_of}
use Rattle.utf8.specs.declared.Refusal.{Refusal}
use Rattle.utf8.specs.Answers.{at_start}
use Rattle.utf8.specs.Text.{codes_of, is_well_formed}
use Rattle.decimal.specs.declared.Notation.{Notation}
use Rattle.decimal.specs.declared.Notation.TheVariants as notation
use Rattle.decimal.specs.declared.Number.{Number}
use Rattle.decimal.specs.declared.Decimal.{Decimal}
use Rattle.decimal.specs.declared.Decimal.TheVariants.{NotDecimal, Named, Exact, Outside}
use Rattle.scan.specs.Sign.{is_minus}
use Rattle.decimal.specs.Grammar.{is_numeral, is_infinite, is_nan, fraction_of, digits_of, exponent_of, is_negative_exponent}

-- the bits of a value: "every NaN has bits 7FF8000000000000"
unfoldable pub bits_of : Float → ℕ
bits_of x = cond (Ieee.is_nan x) 0x7ff8000000000000 (to_bits binary64 x)

-- how many digits a notation has
abbrev pub radix_of : Notation → ℕ
radix_of notation.Decimal = 10
radix_of notation.Hex = 16
radix_of notation.Octal = 8

-- what the reader of digits answers for this and every greater value: no magnitude of a signed 64-bit integer is so great
abbrev pub most_told : ℕ
most_told = 2 ^ 63 + 1

-- the value that a numeral stands for, as a fraction: all its digits as one whole number, times ten to the power of its exponent, over ten
-- to the power of the number of digits behind the point
abbrev pub numerator : List ℕ → ℕ
numerator xs = value_of 10 (digits_of xs) * 10 ^ cond (is_negative_exponent xs) 0 (value_of 10 (exponent_of xs))

abbrev pub denominator : List ℕ → ℕ
denominator xs = 10 ^ (length (fraction_of xs) + cond (is_negative_exponent xs) (value_of 10 (exponent_of xs)) 0)

-- a value in decimal notation
abbrev pub plain : Float → Number
plain x = record { value = x; notation = notation.Decimal }

-- the fraction as an f64, with the text's sign, by the kit's `round`. Of what is accepted that is "one rounded multiplication or division of two exact
-- values" (`OneRounding` of `laws/Rounding`), and no f64 is nearer (`NearestF64`)
abbrev pub nearest_of : List ℕ → Number
nearest_of xs = plain (round binary64 (is_minus xs 0) (numerator xs) (denominator xs))

-- "it is exact if w is at most 2^53 and E lies in -22 to 22"
abbrev pub most_exact : ℕ
most_exact = 2 ^ 53

abbrev pub most_exponent : ℕ
most_exponent = 22

-- a fraction "is w times 10^E", for a whole number w "not divisible by ten" and "at most 2^53"; E is up less down
unfoldable pub is_scaled : ℕ → ℕ → ℕ → ℕ → Bool
is_scaled num den up down =
    let unit = den * 10 ^ up in
    let w = num * 10 ^ down / unit in
    eqb (w * unit) (num * 10 ^ down) && (not (eqb (w % 10) 0) && leb w most_exact)

-- of the numbers up to n one passes a test
unfoldable pub is_some : (ℕ → Bool) → ℕ → Bool
is_some p zero = p zero
is_some p (suc n) = p (suc n) || is_some p n

-- "E lies in -22 to 22"
unfoldable pub is_exact_range : ℕ → ℕ → Bool
is_exact_range num den = is_some (λ e. is_scaled num den e 0) most_exponent || is_some (λ e. is_scaled num den 0 e) most_exponent

-- "Zero is accepted with any exponent and keeps its sign": it is rounded to itself (`ZeroKept` of `laws/Decimal`)
unfoldable pub is_in_exact : List ℕ → Bool
is_in_exact xs = eqb (numerator xs) 0 || is_exact_range (numerator xs) (denominator xs)

-- what a numeral is read as
unfoldable pub numeral_read : List ℕ → Decimal
numeral_read xs = cond (is_in_exact xs) (Exact (nearest_of xs)) (Outside (is_minus xs 0))

-- 53 "decimal outside the exact range", as whoever reads one refuses it
abbrev pub outside_exact : Refusal
outside_exact = at_start 53

-- "Limits: .. duration and number text 256": the readers refuse a longer text before
abbrev pub decimal_limit : ℕ
decimal_limit = 256

-- what characters are, as a decimal; no rule takes U+0100, whose number stands past the last of them
unfoldable pub decimal_in : List ℕ → Decimal
decimal_in cs =
    cond (is_infinite cs) (Named (plain (inf (is_minus cs 0))))
    (cond (is_nan cs) (Named (plain nan))
    (cond (is_numeral cs) (numeral_read cs)
    NotDecimal))

-- a decimal is a text of characters, of at most so many bytes
unfoldable pub decimal_of : List ℕ → Decimal
decimal_of xs =
    cond (ltb decimal_limit (length xs)) NotDecimal
    (cond (is_well_formed xs) (decimal_in (codes_of xs))
    NotDecimal)
