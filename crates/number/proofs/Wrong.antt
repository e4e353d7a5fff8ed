-- The answer that the promise leaves at a telling input: a program that answers otherwise there, as the theorem's name says, cannot be
-- proved. `parse_str_radix_gives` is what the promise answers at a text, which is the definition's value there.
use Rattle.std.specs.Prelude.{Err, Ok, Result}
use Rattle.std.proofs.Common.{◌≡◌, ℕ, true, false, List, ◌∷◌, pos, ◌∙◌, ap₂}
use lib.Count.{count_trailing_zeros}
use lib.Ieee.{Float, fin, inf, round, size, span, climb, units, odd, of_int}
use Rattle.scan.specs.Ascii.{ascii}
use Rattle.scan.specs.Byte.{is_within, digit_of, is_hex_digit, is_digit_in, lowered, is_in}
use Rattle.proving.proofs.One.{Answers}
use Rattle.scan.specs.Run.{run_length}
use Rattle.scan.specs.Separated.{all_placed_from, without_separators}
use Rattle.scan.specs.Text.{has, same_text}
use Rattle.scan.specs.Sign.{is_sign}
use Rattle.scan.specs.Digits.{value_from}
use Rattle.utf8.specs.Table.{fits, size_in, char_length}
use Rattle.utf8.specs.Text.{chars_past, size_of}
use Rattle.utf8.specs.Answers.{validity_of, admitted, at_start}
use Rattle.utf8.specs.Code.{code_of, encoded, six_bits}
use Rattle.decimal.specs.declared.Notation.{Notation}
use Rattle.decimal.specs.declared.Notation.TheVariants.{Hex, Octal}
use Rattle.decimal.specs.declared.Number.{Number}
use Rattle.decimal.specs.Grammar.{has_digits, exponent_has_digits, is_numeral, is_infinite, is_nan}
use Rattle.decimal.specs.Value.{plain, is_scaled, is_some, is_exact_range, is_in_exact, numeral_read, decimal_in, decimal_of}
use Rattle.number.specs.White.{is_white, kept_of}
use Rattle.number.specs.Signed.{is_i64}
use Rattle.number.specs.Integer.{is_digits, is_whole, integer_of}
use Rattle.number.specs.Number.{has_decimal_mark, is_zero_led, is_marked, notation_of, follows_mark, marked_read, number_of, is_placed, number_in, parsing_of}
use Rattle.utf8.specs.declared.Reading.{Reading}
use Rattle.utf8.specs.declared.Reading.TheVariants.{Crate, Documented}
use Rattle.utf8.specs.declared.Refusal.{Refusal}
use Rattle.number.proofs.parse_str_radix.Kinds as parse_str_radix
use Rattle.number.proofs.parse_str_radix.Reads as parse_str_radix_reads

abbrev number : Notation → Float → Number
number n x = record { value = x; notation = n }

abbrev parse_str_radix_gives : List ℕ → Reading → Result Number Refusal → Type 0
parse_str_radix_gives s r v =
    Answers parse_str_radix.ps parse_str_radix.r parse_str_radix_reads.Post (λ κs a. (a.0.now ≡ s) × (a.1.0 ≡ r)) (λ κs. v)

parse_str_radix_at : (s : List ℕ) (r : Reading) → parse_str_radix_gives s r (parsing_of r s)
unfolding parsing_of number_in is_placed all_placed_from without_separators admitted validity_of chars_past size_of char_length size_in fits code_of is_within kept_of is_white lowered encoded six_bits number_of is_marked is_zero_led has_decimal_mark has is_sign decimal_of decimal_in is_infinite is_nan is_numeral has_digits exponent_has_digits same_text is_in run_length digit_of value_from numeral_read is_in_exact is_exact_range is_some is_scaled round size span climb units odd count_trailing_zeros marked_read notation_of follows_mark integer_of is_whole is_digits is_digit_in is_hex_digit is_i64 of_int
parse_str_radix_at s r κs a x e p h = p ∙ ap₂ parsing_of h.1 h.0

pub one_is_a_number : parse_str_radix_gives (ascii "1") Crate (Ok (plain (fin false 1 (pos 0))))
unfolding parse_str_radix_at
one_is_a_number = parse_str_radix_at _ _

pub hex_one_is_one : parse_str_radix_gives (ascii "0x1") Crate (Ok (number Hex (fin false 1 (pos 0))))
unfolding parse_str_radix_at
hex_one_is_one = parse_str_radix_at _ _

pub double_zero_is_octal : parse_str_radix_gives (ascii "00") Crate (Ok (number Octal (fin false 0 (pos 0))))
unfolding parse_str_radix_at
double_zero_is_octal = parse_str_radix_at _ _

pub hex_zero_behind_a_minus_has_no_sign : parse_str_radix_gives (ascii "-0x0") Crate (Ok (number Hex (fin false 0 (pos 0))))
unfolding parse_str_radix_at
hex_zero_behind_a_minus_has_no_sign = parse_str_radix_at _ _

pub two_to_63_behind_a_minus_is_refused : parse_str_radix_gives (ascii "-0x8000000000000000") Crate (Err (at_start 61))
unfolding parse_str_radix_at
two_to_63_behind_a_minus_is_refused = parse_str_radix_at _ _

pub least_integer_negated_is_refused : parse_str_radix_gives (ascii "-0x-8000000000000000") Crate (Err (at_start 61))
unfolding parse_str_radix_at
least_integer_negated_is_refused = parse_str_radix_at _ _

pub g_behind_a_hex_digit_is_refused : parse_str_radix_gives (ascii "0x1g") Crate (Err (at_start 60))
unfolding parse_str_radix_at
g_behind_a_hex_digit_is_refused = parse_str_radix_at _ _

pub zero_e5_is_no_number : parse_str_radix_gives (ascii "0e5") Crate (Err (at_start 60))
unfolding parse_str_radix_at
zero_e5_is_no_number = parse_str_radix_at _ _

-- U+180E before a digit
pub vowel_separator_is_no_white_space : parse_str_radix_gives (0xe1 ∷ 0xa0 ∷ 0x8e ∷ ascii "1") Crate (Err (at_start 60))
unfolding parse_str_radix_at
vowel_separator_is_no_white_space = parse_str_radix_at _ _

-- U+1680 before a digit
pub ogham_space_is_dropped : parse_str_radix_gives (0xe1 ∷ 0x9a ∷ 0x80 ∷ ascii "1") Crate (Ok (plain (fin false 1 (pos 0))))
unfolding parse_str_radix_at
ogham_space_is_dropped = parse_str_radix_at _ _

pub minus_of_infinity_stays : parse_str_radix_gives (ascii "-Inf") Crate (Ok (plain (inf true)))
unfolding parse_str_radix_at
minus_of_infinity_stays = parse_str_radix_at _ _

pub separator_in_the_crate_reading_is_refused : parse_str_radix_gives (ascii "1_0") Crate (Err (at_start 60))
unfolding parse_str_radix_at
separator_in_the_crate_reading_is_refused = parse_str_radix_at _ _

pub separator_between_digits_has_no_effect : parse_str_radix_gives (ascii "1_0") Documented (Ok (plain (fin false 5 (pos 1))))
unfolding parse_str_radix_at
separator_between_digits_has_no_effect = parse_str_radix_at _ _

pub white_space_beside_a_separator_is_dropped : parse_str_radix_gives (ascii "1 _ 0") Documented (Ok (plain (fin false 5 (pos 1))))
unfolding parse_str_radix_at
white_space_beside_a_separator_is_dropped = parse_str_radix_at _ _

pub separator_behind_a_hex_prefix_has_no_effect : parse_str_radix_gives (ascii "0x_5") Documented (Ok (number Hex (fin false 5 (pos 0))))
unfolding parse_str_radix_at
separator_behind_a_hex_prefix_has_no_effect = parse_str_radix_at _ _

pub sign_before_a_prefix_is_passed : parse_str_radix_gives (ascii "-0x_5") Documented (Ok (number Hex (fin true 5 (pos 0))))
unfolding parse_str_radix_at
sign_before_a_prefix_is_passed = parse_str_radix_at _ _

pub digits_behind_an_own_sign_have_separators : parse_str_radix_gives (ascii "0x-5_0") Documented (Ok (number Hex (fin true 5 (pos 4))))
unfolding parse_str_radix_at
digits_behind_an_own_sign_have_separators = parse_str_radix_at _ _

pub separator_behind_an_octal_zero_has_no_effect : parse_str_radix_gives (ascii "0_17") Documented (Ok (number Octal (fin false 15 (pos 0))))
unfolding parse_str_radix_at
separator_behind_an_octal_zero_has_no_effect = parse_str_radix_at _ _

pub separator_before_an_eight_leaves_a_decimal : parse_str_radix_gives (ascii "0_8") Documented (Ok (plain (fin false 1 (pos 3))))
unfolding parse_str_radix_at
separator_before_an_eight_leaves_a_decimal = parse_str_radix_at _ _

pub exponent_has_separators : parse_str_radix_gives (ascii "1_0e1_0") Documented (Ok (plain (fin false 48828125 (pos 11))))
unfolding parse_str_radix_at
exponent_has_separators = parse_str_radix_at _ _

pub separator_behind_an_own_sign_is_refused : parse_str_radix_gives (ascii "0x-_5") Documented (Err (at_start 60))
unfolding parse_str_radix_at
separator_behind_an_own_sign_is_refused = parse_str_radix_at _ _

pub separator_in_a_prefix_is_refused : parse_str_radix_gives (ascii "0_x5") Documented (Err (at_start 60))
unfolding parse_str_radix_at
separator_in_a_prefix_is_refused = parse_str_radix_at _ _

pub separator_before_an_exponent_is_refused : parse_str_radix_gives (ascii "1_e5") Documented (Err (at_start 60))
unfolding parse_str_radix_at
separator_before_an_exponent_is_refused = parse_str_radix_at _ _

pub separator_in_a_name_is_refused : parse_str_radix_gives (ascii "i_nf") Documented (Err (at_start 60))
unfolding parse_str_radix_at
separator_in_a_name_is_refused = parse_str_radix_at _ _

pub separator_before_the_first_digit_is_refused : parse_str_radix_gives (ascii "_1") Documented (Err (at_start 60))
unfolding parse_str_radix_at
separator_before_the_first_digit_is_refused = parse_str_radix_at _ _

pub separator_behind_the_last_digit_is_refused : parse_str_radix_gives (ascii "1_") Documented (Err (at_start 60))
unfolding parse_str_radix_at
separator_behind_the_last_digit_is_refused = parse_str_radix_at _ _

pub two_separators_are_refused : parse_str_radix_gives (ascii "1__0") Documented (Err (at_start 60))
unfolding parse_str_radix_at
two_separators_are_refused = parse_str_radix_at _ _

pub unit_behind_digits_with_a_separator_is_refused : parse_str_radix_gives (ascii "1_000m") Documented (Err (at_start 60))
unfolding parse_str_radix_at
unit_behind_digits_with_a_separator_is_refused = parse_str_radix_at _ _

pub x_behind_digits_with_a_separator_is_refused : parse_str_radix_gives (ascii "1_0x") Documented (Err (at_start 60))
unfolding parse_str_radix_at
x_behind_digits_with_a_separator_is_refused = parse_str_radix_at _ _

pub prefix_behind_an_octal_zero_and_a_separator_is_refused : parse_str_radix_gives (ascii "0_0x5") Documented (Err (at_start 60))
unfolding parse_str_radix_at
prefix_behind_an_octal_zero_and_a_separator_is_refused = parse_str_radix_at _ _

pub digits_without_separators_are_read_alike : parse_str_radix_gives (ascii "10") Documented (Ok (plain (fin false 5 (pos 1))))
unfolding parse_str_radix_at
digits_without_separators_are_read_alike = parse_str_radix_at _ _
