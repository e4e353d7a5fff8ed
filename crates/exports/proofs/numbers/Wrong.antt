-- The answer, and the content of `bits`, that the promise leaves at a telling input: a program that answers or writes otherwise there, as
-- the theorem's name says, cannot be proved. `FUNCTION-gives` and `FUNCTION-leaves-PARAMETER` say what, at the arguments.
use Prim.Native.Nat.{ℕ}
use mathlib.Core.List.{List}
use mathlib.Core.Path.{◌≡◌}
use lib.Count.{count_trailing_zeros}
use lib.Ieee as Ieee
use lib.Ieee.{size, span, climb, odd, units, round, of_int, to_bits}
use Rattle.scan.specs.Ascii.{ascii}
use Rattle.scan.specs.Byte.{is_within, is_hex_digit, digit_of, is_digit_in, lowered, is_in}
use Rattle.proving.proofs.One.{Answers, Leaves}
use Rattle.scan.specs.Run.{run_length}
use Rattle.scan.specs.Separated.{all_placed_from, without_separators}
use Rattle.scan.specs.Text.{has, same_text}
use Rattle.utf8.specs.Table.{fits, size_in, char_length}
use Rattle.utf8.specs.Code.{code_of, encoded}
use Rattle.utf8.specs.Text.{chars_past, size_of}
use Rattle.utf8.specs.Answers.{validity_of, admitted}
use Rattle.scan.specs.Sign.{is_sign}
use Rattle.scan.specs.Digits.{value_from}
use Rattle.decimal.specs.Grammar.{has_digits, exponent_has_digits, is_numeral, is_infinite, is_nan}
use Rattle.decimal.specs.Value.{bits_of, is_scaled, is_some, is_exact_range, is_in_exact, numeral_read, decimal_in, decimal_of}
use Rattle.number.specs.White.{is_white, kept_of}
use Rattle.number.specs.Signed.{is_i64}
use Rattle.number.specs.Integer.{is_digits, is_whole, integer_of}
use Rattle.number.specs.Number.{has_decimal_mark, is_zero_led, is_marked, notation_of, follows_mark, marked_read, number_of, is_placed, number_in, parsing_of}
use Rattle.exports.specs.Packed.{packed_as}
use Rattle.exports.specs.Number.{parse_code, parse_left}
use Rattle.exports.specs.Reading.{reading_of}
use Rattle.exports.proofs.numbers.simmerpath_parse_str_radix.Kinds as simmerpath_parse_str_radix
use Rattle.exports.proofs.numbers.simmerpath_parse_str_radix.Reads as simmerpath_parse_str_radix_reads

-- what computes at a text
reading : Unit {0}
unfolding reading_of parsing_of number_in is_placed all_placed_from without_separators number_of is_marked is_zero_led has_decimal_mark marked_read notation_of follows_mark integer_of is_whole is_digits is_i64 is_white kept_of admitted validity_of chars_past size_of char_length size_in fits code_of encoded is_within is_hex_digit is_digit_in digit_of has same_text decimal_of decimal_in is_infinite is_nan is_numeral has_digits exponent_has_digits is_sign lowered is_in run_length value_from numeral_read is_in_exact is_exact_range is_some is_scaled bits_of Ieee.is_nan to_bits of_int round size span climb units odd count_trailing_zeros
reading = tt

abbrev simmerpath_parse_str_radix_gives : List ℕ → ℕ → ℕ → Type 0
simmerpath_parse_str_radix_gives xs documented v =
    Answers simmerpath_parse_str_radix.ps simmerpath_parse_str_radix.r simmerpath_parse_str_radix_reads.Post (λ κs a. (a.0.now ≡ xs) × (a.1.0 ≡ documented)) (λ κs. v)

simmerpath_parse_str_radix_at : (xs : List ℕ) (documented : ℕ) → simmerpath_parse_str_radix_gives xs documented (parse_code (parsing_of (reading_of documented) xs))
simmerpath_parse_str_radix_at xs documented κs a x e p h = cc (p.0, h.0, h.1)

pub decimal_is_answered_with_zero : simmerpath_parse_str_radix_gives (ascii "2") 0 0
unfolding reading
decimal_is_answered_with_zero = simmerpath_parse_str_radix_at _ _

pub hex_is_not_answered_as_octal : simmerpath_parse_str_radix_gives (ascii "0x2") 0 1
unfolding reading
hex_is_not_answered_as_octal = simmerpath_parse_str_radix_at _ _

pub octal_is_answered_with_two : simmerpath_parse_str_radix_gives (ascii "02") 0 2
unfolding reading
octal_is_answered_with_two = simmerpath_parse_str_radix_at _ _

pub letter_is_no_number : simmerpath_parse_str_radix_gives (ascii "a") 0 (packed_as 60 0 0)
unfolding reading
letter_is_no_number = simmerpath_parse_str_radix_at _ _

pub zero_is_the_crate_reading : simmerpath_parse_str_radix_gives (ascii "0_2") 0 (packed_as 60 0 0)
unfolding reading
zero_is_the_crate_reading = simmerpath_parse_str_radix_at _ _

pub one_is_the_documented_reading : simmerpath_parse_str_radix_gives (ascii "0_2") 1 2
unfolding reading
one_is_the_documented_reading = simmerpath_parse_str_radix_at _ _

abbrev simmerpath_parse_str_radix_leaves_bits : List ℕ → ℕ → ℕ → ℕ → Type 0
simmerpath_parse_str_radix_leaves_bits xs documented old v =
    Leaves simmerpath_parse_str_radix.ps simmerpath_parse_str_radix.r simmerpath_parse_str_radix_reads.Post (λ κs a. (a.0.now ≡ xs) × (a.1.0 ≡ documented) × (a.1.1.0.now ≡ old)) (λ κs e. e.1.1.0.now) v

simmerpath_parse_str_radix_left_bits : (xs : List ℕ) (documented old : ℕ) → simmerpath_parse_str_radix_leaves_bits xs documented old (parse_left (parsing_of (reading_of documented) xs) old)
simmerpath_parse_str_radix_left_bits xs documented old κs a x e p h = cc (p.1, h.0, h.1, h.2)

pub bits_of_the_value_are_written : simmerpath_parse_str_radix_leaves_bits (ascii "2") 0 9 0x4000000000000000
unfolding reading
bits_of_the_value_are_written = simmerpath_parse_str_radix_left_bits _ _ _

pub bits_are_written_without_the_separator : simmerpath_parse_str_radix_leaves_bits (ascii "0x_2") 1 9 0x4000000000000000
unfolding reading
bits_are_written_without_the_separator = simmerpath_parse_str_radix_left_bits _ _ _

pub no_number_leaves_the_bits : simmerpath_parse_str_radix_leaves_bits (ascii "a") 0 9 9
unfolding reading
no_number_leaves_the_bits = simmerpath_parse_str_radix_left_bits _ _ _
