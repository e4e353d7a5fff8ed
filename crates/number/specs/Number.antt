-- What a number's text is read as: document 01, "Numbers", and document 02, L2.
use Rattle.utf8.specs.declared.CharNumber.{CharNumber}
use Rattle.std.specs.Prelude.{ℕ, suc, Bool, cond, not, ◌&&◌, ◌||◌, List, length, drop, ◌==◌, Err, None, Ok, Option, Result, Some}
use Prim.Native.Char.{code}
use Rattle.std.specs.Float.Ieee.{unlike, of_int}
use Rattle.std.specs.Float.{binary64}
use Rattle.scan.specs.declared.byte.Class.TheVariants.{Digit, HexDigit}
use Rattle.scan.specs.Byte.{peek_at, is_in}
use Rattle.scan.specs.Separated.{all_placed, without_separators}
use Rattle.scan.specs.Text.{has}
use Rattle.utf8.specs.declared.Reading.{Reading}
use Rattle.utf8.specs.declared.Refusal.{Refusal}
use Rattle.utf8.specs.Answers.{at_start, admitted}
use Rattle.decimal.specs.declared.Notation.{Notation}
use Rattle.decimal.specs.declared.Notation.TheVariants.{Hex, Octal}
use Rattle.decimal.specs.declared.Number.{Number}
use Rattle.decimal.specs.declared.Decimal.{Decimal}
use Rattle.decimal.specs.declared.Decimal.TheVariants.{NotDecimal, Named, Exact, Outside}
use Rattle.scan.specs.Sign.{past_sign, is_minus}
use Rattle.decimal.specs.Value.{outside_exact, decimal_limit, decimal_of}
use Rattle.numeral.specs.Numeral.{between_digits, behind_prefix}
use Rattle.number.specs.White.{plain_text}
use Rattle.number.specs.Signed.{signed_of, is_i64}
use Rattle.number.specs.declared.Integer.{Integer}
use Rattle.number.specs.Integer.{integer_of}

-- 60 "not a number text", 61 "hex or octal outside a signed 64-bit integer"
abbrev pub not_number : Refusal
not_number = at_start 60

abbrev pub outside_i64 : Refusal
outside_i64 = at_start 61

-- "a leading 0 after an optional sign
abbrev pub is_zero_at : List ℕ → ℕ → Bool
is_zero_at t at = peek_at t at == (code "0")

abbrev pub leads_zero : List ℕ → Bool
leads_zero t = is_zero_at t (past_sign t 0)

abbrev pub behind_zero : List ℕ → ℕ
behind_zero t = suc (past_sign t 0)

-- with no `.`, 8 or 9,
unfoldable pub has_decimal_mark : List ℕ → Bool
has_decimal_mark t = has (code ".") t || (has (code "8") t || has (code "9") t)

-- except `0`, `+0`, `-0`"
unfoldable pub is_zero_led : List ℕ → Bool
is_zero_led t = leads_zero t && (not (has_decimal_mark t) && not (behind_zero t == length t))

-- "An `x`, or" that
unfoldable pub is_marked : List ℕ → Bool
is_marked t = has (code "x") t || is_zero_led t

-- "Signed 64-bit before an outer minus .., then rounded once to f64. .. Negating the least integer is 61"
abbrev pub integer_number : Notation → Bool → ℕ → Number
integer_number n negative v = record { value = of_int binary64 (signed_of negative v); notation = n }

abbrev pub integer_by : Notation → Bool → Option Integer → Result Number Refusal
integer_by n outer (Some own) =
    let negative = unlike own.negative outer in
    cond (is_i64 own.negative own.magnitude && is_i64 negative own.magnitude) (Ok (integer_number n negative own.magnitude)) (Err outside_i64)
integer_by n outer None = Err not_number

abbrev pub integer_read : Notation → Bool → List ℕ → Result Number Refusal
integer_read n outer ys = integer_by n outer (integer_of n ys)

-- "means hex after `0x`, else octal after `0`"; "An x in a text without that leading 0 .. here 60"
abbrev pub is_hex_mark : List ℕ → Bool
is_hex_mark t = peek_at t (behind_zero t) == (code "x")

unfoldable pub notation_of : List ℕ → Notation
notation_of t = cond (is_hex_mark t) Hex Octal

unfoldable pub follows_mark : List ℕ → List ℕ
follows_mark t = drop (cond (is_hex_mark t) (suc (behind_zero t)) (behind_zero t)) t

unfoldable pub marked_read : List ℕ → Result Number Refusal
marked_read t = cond (leads_zero t) (integer_read (notation_of t) (is_minus t 0) (follows_mark t)) (Err not_number)

-- what a decimal is read as
abbrev pub parsed_decimal : Decimal → Result Number Refusal
parsed_decimal NotDecimal = Err not_number
parsed_decimal (Named n) = Ok n
parsed_decimal (Exact n) = Ok n
parsed_decimal (Outside negative) = Err outside_exact

-- the number that a text is, without white space and in lower case
unfoldable pub number_of : List ℕ → Result Number Refusal
number_of t = cond (is_marked t) (marked_read t) (parsed_decimal (decimal_of t))

-- L2: "one underscore may stand between two digits of the same part, or between a hex prefix and its first digit": whether each of a text does. They
-- are judged with hex digits behind `0x`, which stands at the front, behind a sign or none; else with decimal digits in the whole text. Octal needs no
-- test of its own, since a text with an 8 or a 9 is no octal
abbrev pub is_hex_text : List ℕ → Bool
is_hex_text t = leads_zero t && is_hex_mark t

abbrev pub behind_hex : List ℕ → List ℕ
behind_hex t = drop (suc (behind_zero t)) t

unfoldable pub is_placed : Reading → List ℕ → Bool
is_placed r t =
    cond (is_hex_text t) (all_placed (is_in HexDigit) (behind_prefix r) (behind_hex t)) (all_placed (is_in Digit) (between_digits r) t)

-- ".. and has no effect on the value. .. Refusals: .. 60 for both in number texts"
unfoldable pub number_in : Reading → List ℕ → Result Number Refusal
number_in r t = cond (is_placed r t) (number_of (without_separators t)) (Err not_number)

-- "Order: 1, 2, the reading"
abbrev pub parsing_by : Reading → Result CharNumber Refusal → List ℕ → Result Number Refusal
parsing_by r (Ok n) t = number_in r t
parsing_by r (Err e) t = Err e

unfoldable pub parsing_of : Reading → List ℕ → Result Number Refusal
parsing_of r xs = parsing_by r (admitted decimal_limit xs) (plain_text xs)
