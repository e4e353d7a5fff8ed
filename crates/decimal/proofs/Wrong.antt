-- The answer that each promise leaves at a telling input: a program that answers otherwise there, as the theorem's name says, cannot be
-- proved. `FUNCTION_gives` is what the promise of FUNCTION answers at arguments, which is the definition's value there; `FUNCTION_at` computes it.
use Prim.Native.Nat.{ℕ, min}
use mathlib.Core.Bool.{true, false}
use mathlib.Core.List.{List, []}
use mathlib.Core.Path.{◌≡◌, ap, ◌∙◌}
use lib.Count.{count_trailing_zeros}
use lib.IntN.{pos, negsuc}
use lib.Ieee as Ieee
use lib.Ieee.{Float, nan, inf, fin, round, size, span, climb, units, odd, to_bits}
use Rattle.scan.specs.Ascii.{ascii}
use Rattle.scan.specs.Byte.{is_within, digit_of, lowered, is_in}
use Rattle.proving.proofs.One.{Answers}
use Rattle.scan.specs.Run.{run_length}
use Rattle.scan.specs.Text.{same_text}
use Rattle.scan.specs.Sign.{is_sign}
use Rattle.scan.specs.Digits.{value_from}
use Rattle.utf8.specs.Table.{fits, size_in, char_length}
use Rattle.utf8.specs.Text.{chars_past, size_of}
use Rattle.utf8.specs.Code.{code_of}
use Rattle.decimal.specs.declared.Notation.{Notation}
use Rattle.decimal.specs.declared.Notation.TheVariants as notation
use Rattle.decimal.specs.declared.Decimal.{Decimal}
use Rattle.decimal.specs.declared.Decimal.TheVariants.{NotDecimal, Named, Exact, Outside}
use Rattle.decimal.specs.Grammar.{has_digits, exponent_has_digits, is_numeral, is_infinite, is_nan}
use Rattle.decimal.specs.Value.{bits_of, radix_of, most_told, plain, is_scaled, is_some, is_exact_range, is_in_exact, numeral_read, decimal_in, decimal_of}
use Rattle.decimal.specs.steps.Scale.{ten_to}
use Rattle.decimal.proofs.bits_of.Kinds as bits_of_kinds
use Rattle.decimal.proofs.bits_of.Reads as bits_of_reads
use Rattle.decimal.proofs.radix.Kinds as radix
use Rattle.decimal.proofs.radix.Reads as radix_reads
use Rattle.decimal.proofs.digits_value.Kinds as digits_value
use Rattle.decimal.proofs.digits_value.Reads as digits_value_reads
use Rattle.decimal.proofs.read_decimal.Kinds as read_decimal
use Rattle.decimal.proofs.read_decimal.Reads as read_decimal_reads

abbrev bits_of_gives : Float → ℕ → Type 0
bits_of_gives x v = Answers bits_of_kinds.ps bits_of_kinds.r bits_of_reads.Post (λ κs a. a.0 ≡ x) (λ κs. v)

bits_of_at : (x : Float) → bits_of_gives x (bits_of x)
unfolding bits_of Ieee.is_nan to_bits size span climb
bits_of_at x κs a y e p h = p ∙ ap bits_of h

pub nan_has_no_sign_bit : bits_of_gives nan 0x7ff8000000000000
unfolding bits_of_at
nan_has_no_sign_bit = bits_of_at _

pub one_has_its_own_bits : bits_of_gives (fin false 1 (pos 0)) 0x3ff0000000000000
unfolding bits_of_at
one_has_its_own_bits = bits_of_at _

pub negative_zero_has_a_sign_bit : bits_of_gives (fin true 0 (pos 0)) 0x8000000000000000
unfolding bits_of_at
negative_zero_has_a_sign_bit = bits_of_at _

abbrev radix_gives : Notation → ℕ → Type 0
radix_gives n v = Answers radix.ps radix.r radix_reads.Post (λ κs a. a.0 ≡ n) (λ κs. v)

radix_at : (n : Notation) → radix_gives n (radix_of n)
radix_at n κs a x e p h = p ∙ ap radix_of h

pub decimal_has_ten_digits : radix_gives notation.Decimal 10
decimal_has_ten_digits = radix_at _

pub hex_has_sixteen_digits : radix_gives notation.Hex 16
hex_has_sixteen_digits = radix_at _

pub octal_has_eight_digits : radix_gives notation.Octal 8
octal_has_eight_digits = radix_at _

-- what the digits before amount to, the notation, and the digits
abbrev digits_value_gives : ℕ → Notation → List ℕ → ℕ → Type 0
digits_value_gives start n digits v =
    Answers digits_value.ps digits_value.r digits_value_reads.Post (λ κs a. (a.0 ≡ start) × (a.1.0 ≡ n) × (a.1.1.0.now ≡ digits)) (λ κs. v)

digits_value_at : (start : ℕ) (n : Notation) (digits : List ℕ) → digits_value_gives start n digits (min most_told (value_from (radix_of n) start digits))
digits_value_at start n digits κs a x e p h = cc (p, h.0, h.1, h.2)

-- 2^63, of which the digits but the last come before
pub one_digit_more_keeps_within_bounds : digits_value_gives 922337203685477580 notation.Decimal (ascii "8") 9223372036854775808
unfolding value_from digit_of is_within
one_digit_more_keeps_within_bounds = digits_value_at _ _ _

-- 2^63 + 1
pub greater_value_is_told_as_the_most : digits_value_gives 922337203685477581 notation.Decimal (ascii "0") 9223372036854775809
unfolding value_from digit_of is_within
greater_value_is_told_as_the_most = digits_value_at _ _ _

pub hex_digit_f_counts_for_fifteen : digits_value_gives 1 notation.Hex (ascii "f") 31
unfolding value_from digit_of is_within
hex_digit_f_counts_for_fifteen = digits_value_at _ _ _

pub octal_digits_count_by_eights : digits_value_gives 1 notation.Octal (ascii "7") 15
unfolding value_from digit_of is_within
octal_digits_count_by_eights = digits_value_at _ _ _

abbrev read_decimal_gives : List ℕ → Decimal → Type 0
read_decimal_gives s v = Answers read_decimal.ps read_decimal.r read_decimal_reads.Post (λ κs a. a.0.now ≡ s) (λ κs. v)

read_decimal_at : (s : List ℕ) → read_decimal_gives s (decimal_of s)
unfolding decimal_of decimal_in chars_past size_of char_length size_in fits code_of is_within is_infinite is_nan is_numeral has_digits exponent_has_digits is_sign lowered same_text is_in run_length digit_of value_from numeral_read is_in_exact is_exact_range is_some is_scaled round size span climb units odd count_trailing_zeros
read_decimal_at s κs a x e p h = p ∙ ap decimal_of h

pub empty_text_is_no_decimal : read_decimal_gives [] NotDecimal
unfolding read_decimal_at
empty_text_is_no_decimal = read_decimal_at _

pub point_alone_is_no_decimal : read_decimal_gives (ascii ".") NotDecimal
unfolding read_decimal_at
point_alone_is_no_decimal = read_decimal_at _

pub exponent_needs_digits : read_decimal_gives (ascii "1e") NotDecimal
unfolding read_decimal_at
exponent_needs_digits = read_decimal_at _

pub infinity_keeps_its_sign : read_decimal_gives (ascii "-inf") (Named (plain (inf true)))
unfolding read_decimal_at
infinity_keeps_its_sign = read_decimal_at _

pub nan_is_named : read_decimal_gives (ascii "nan") (Named (plain nan))
unfolding read_decimal_at
nan_is_named = read_decimal_at _

pub zero_keeps_its_sign : read_decimal_gives (ascii "-0") (Exact (plain (fin true 0 (pos 0))))
unfolding read_decimal_at
zero_keeps_its_sign = read_decimal_at _

pub half_is_one_over_two : read_decimal_gives (ascii ".5") (Exact (plain (fin false 1 (negsuc 0))))
unfolding read_decimal_at
half_is_one_over_two = read_decimal_at _

pub ten_to_22_is_exact : read_decimal_gives (ascii "1e22") (Exact (plain (ten_to 22)))
unfolding read_decimal_at
ten_to_22_is_exact = read_decimal_at _

pub ten_to_23_is_outside : read_decimal_gives (ascii "1e23") (Outside false)
unfolding read_decimal_at
ten_to_23_is_outside = read_decimal_at _

pub last_zero_raises_the_exponent : read_decimal_gives (ascii "10e22") (Outside false)
unfolding read_decimal_at
last_zero_raises_the_exponent = read_decimal_at _

pub two_to_53_is_exact : read_decimal_gives (ascii "9007199254740992") (Exact (plain (fin false 1 (pos 53))))
unfolding read_decimal_at
two_to_53_is_exact = read_decimal_at _

pub past_two_to_53_is_outside : read_decimal_gives (ascii "9007199254740993") (Outside false)
unfolding read_decimal_at
past_two_to_53_is_outside = read_decimal_at _
