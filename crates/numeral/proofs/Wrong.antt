-- The answer that the promise leaves at a telling input: a program that answers otherwise there, as the theorem's name says, cannot be
-- proved. `scan_number_gives` is what the promise answers at bytes, which is the definition's value there.
use Prim.Native.Nat.{ℕ}
use mathlib.Core.List.{List}
use mathlib.Core.Path.{◌≡◌, ap, ap₂, ◌∙◌}
use Rattle.scan.specs.Ascii.{ascii}
use Rattle.scan.specs.Byte.{is_within, is_hex_digit, lowered, is_alpha, is_in}
use Rattle.proving.proofs.One.{Answers}
use Rattle.scan.specs.declared.separated.Separators.{Separators}
use Rattle.scan.specs.declared.separated.Separators.TheVariants.{Never, Between, Before}
use Rattle.scan.specs.Separated.{separated_length}
use Rattle.scan.specs.Text.{has}
use Rattle.utf8.specs.declared.Reading.{Reading}
use Rattle.utf8.specs.declared.Reading.TheVariants.{Crate, Documented}
use Rattle.scan.specs.Sign.{is_sign}
use Rattle.numeral.specs.declared.Numeral.{Numeral}
use Rattle.numeral.specs.declared.Numeral.TheVariants.{Number, Duration, Neither}
use Rattle.numeral.specs.Numeral.{between_digits, behind_prefix, is_hex, fraction_end, exponent_end, number_end, is_unit, stop_of, turn_of, duration_from, numeral_of, taken}
use Rattle.numeral.proofs.between_digits.Kinds as between_digits_kinds
use Rattle.numeral.proofs.between_digits.Reads as between_digits_reads
use Rattle.numeral.proofs.behind_prefix.Kinds as behind_prefix_kinds
use Rattle.numeral.proofs.behind_prefix.Reads as behind_prefix_reads
use Rattle.numeral.proofs.scan_number.Kinds as scan_number
use Rattle.numeral.proofs.scan_number.Reads as scan_number_reads
use Rattle.numeral.proofs.taken.Kinds as taken
use Rattle.numeral.proofs.taken.Reads as taken_reads

abbrev scan_number_gives : Reading → List ℕ → Numeral → Type 0
scan_number_gives r s v = Answers scan_number.ps scan_number.r scan_number_reads.Post (λ κs a. (a.0.now ≡ s) × (a.1.0 ≡ r)) (λ κs. v)

scan_number_at : (r : Reading) (s : List ℕ) → scan_number_gives r s (numeral_of r s)
unfolding numeral_of number_end is_hex fraction_end exponent_end is_sign separated_length has is_in is_alpha is_within lowered is_unit duration_from turn_of stop_of is_hex_digit
scan_number_at r s κs a x e p h = p ∙ ap₂ numeral_of h.1 h.0

pub digit_is_a_number_of_one_byte : scan_number_gives Crate (ascii "1") (Number 1)
unfolding scan_number_at
digit_is_a_number_of_one_byte = scan_number_at _ _

pub digit_and_unit_are_a_duration : scan_number_gives Crate (ascii "1s") (Duration 2)
unfolding scan_number_at
digit_and_unit_are_a_duration = scan_number_at _ _

pub duration_does_not_end_with_digits : scan_number_gives Crate (ascii "1s2") (Neither 3)
unfolding scan_number_at
duration_does_not_end_with_digits = scan_number_at _ _

pub sign_of_an_exponent_is_taken : scan_number_gives Crate (ascii "1e+5") (Number 4)
unfolding scan_number_at
sign_of_an_exponent_is_taken = scan_number_at _ _

pub sign_behind_an_exponent_is_left : scan_number_gives Crate (ascii "1e5+1") (Number 3)
unfolding scan_number_at
sign_behind_an_exponent_is_left = scan_number_at _ _

pub hex_digit_is_taken_behind_the_mark : scan_number_gives Crate (ascii "0xf") (Number 3)
unfolding scan_number_at
hex_digit_is_taken_behind_the_mark = scan_number_at _ _

pub letter_that_is_no_unit_fails : scan_number_gives Crate (ascii "1x") (Neither 1)
unfolding scan_number_at
letter_that_is_no_unit_fails = scan_number_at _ _

pub second_s_behind_a_unit_fails : scan_number_gives Crate (ascii "1mss") (Neither 3)
unfolding scan_number_at
second_s_behind_a_unit_fails = scan_number_at _ _

pub duration_begins_with_years : scan_number_gives Crate (ascii "1y") (Duration 2)
unfolding scan_number_at
duration_begins_with_years = scan_number_at _ _

pub second_point_fails : scan_number_gives Crate (ascii "1..") (Neither 2)
unfolding scan_number_at
second_point_fails = scan_number_at _ _

pub crate_reading_has_no_separators : scan_number_gives Crate (ascii "1_0") (Neither 1)
unfolding scan_number_at
crate_reading_has_no_separators = scan_number_at _ _

pub separators_stand_in_digits : scan_number_gives Documented (ascii "1_000") (Number 5)
unfolding scan_number_at
separators_stand_in_digits = scan_number_at _ _

pub separators_stand_in_a_fraction_and_an_exponent : scan_number_gives Documented (ascii "1.5_0e1_0") (Number 9)
unfolding scan_number_at
separators_stand_in_a_fraction_and_an_exponent = scan_number_at _ _

pub one_separator_stands_behind_a_prefix : scan_number_gives Documented (ascii "0x_1f") (Number 5)
unfolding scan_number_at
one_separator_stands_behind_a_prefix = scan_number_at _ _

pub two_separators_do_not_stand_together : scan_number_gives Documented (ascii "1__0") (Neither 1)
unfolding scan_number_at
two_separators_do_not_stand_together = scan_number_at _ _

pub no_separator_ends_a_number : scan_number_gives Documented (ascii "1_") (Neither 1)
unfolding scan_number_at
no_separator_ends_a_number = scan_number_at _ _

pub no_separator_stands_before_a_point : scan_number_gives Documented (ascii "1_.5") (Neither 1)
unfolding scan_number_at
no_separator_stands_before_a_point = scan_number_at _ _

pub no_separator_stands_behind_a_point : scan_number_gives Documented (ascii "1._5") (Neither 2)
unfolding scan_number_at
no_separator_stands_behind_a_point = scan_number_at _ _

pub no_separator_begins_an_exponent : scan_number_gives Documented (ascii "1e_5") (Neither 2)
unfolding scan_number_at
no_separator_begins_an_exponent = scan_number_at _ _

pub no_separator_stands_in_a_prefix : scan_number_gives Documented (ascii "0_x1") (Neither 1)
unfolding scan_number_at
no_separator_stands_in_a_prefix = scan_number_at _ _

pub prefix_and_separator_alone_are_no_number : scan_number_gives Documented (ascii "0x_") (Neither 2)
unfolding scan_number_at
prefix_and_separator_alone_are_no_number = scan_number_at _ _

pub number_with_a_separator_begins_no_duration : scan_number_gives Documented (ascii "1_000m") (Neither 5)
unfolding scan_number_at
number_with_a_separator_begins_no_duration = scan_number_at _ _

pub nor_does_one_with_a_bare_exponent : scan_number_gives Documented (ascii "1_0em") (Neither 4)
unfolding scan_number_at
nor_does_one_with_a_bare_exponent = scan_number_at _ _

pub number_without_one_begins_a_duration : scan_number_gives Documented (ascii "1em") (Duration 3)
unfolding scan_number_at
number_without_one_begins_a_duration = scan_number_at _ _

pub digits_of_a_duration_have_no_separators : scan_number_gives Documented (ascii "1h3_0m") (Neither 3)
unfolding scan_number_at
digits_of_a_duration_have_no_separators = scan_number_at _ _

abbrev taken_gives : Numeral → ℕ → Type 0
taken_gives n v = Answers taken.ps taken.r taken_reads.Post (λ κs a. a.0 ≡ n) (λ κs. v)

taken_at : (n : Numeral) → taken_gives n (taken n)
taken_at n κs a x e p h = p ∙ ap taken h

pub duration_takes_its_length : taken_gives (Duration 2) 2
duration_takes_its_length = taken_at _

pub neither_takes_what_was_read : taken_gives (Neither 3) 3
neither_takes_what_was_read = taken_at _

abbrev between_digits_gives : Reading → Separators → Type 0
between_digits_gives r v = Answers between_digits_kinds.ps between_digits_kinds.r between_digits_reads.Post (λ κs a. a.0 ≡ r) (λ κs. v)

between_digits_at : (r : Reading) → between_digits_gives r (between_digits r)
between_digits_at r κs a x e p h = p ∙ ap between_digits h

pub crate_reading_has_none_between_digits : between_digits_gives Crate Never
crate_reading_has_none_between_digits = between_digits_at _

pub none_stands_before_the_first_digit : between_digits_gives Documented Between
none_stands_before_the_first_digit = between_digits_at _

abbrev behind_prefix_gives : Reading → Separators → Type 0
behind_prefix_gives r v = Answers behind_prefix_kinds.ps behind_prefix_kinds.r behind_prefix_reads.Post (λ κs a. a.0 ≡ r) (λ κs. v)

behind_prefix_at : (r : Reading) → behind_prefix_gives r (behind_prefix r)
behind_prefix_at r κs a x e p h = p ∙ ap behind_prefix h

pub crate_reading_has_none_behind_a_prefix : behind_prefix_gives Crate Never
crate_reading_has_none_behind_a_prefix = behind_prefix_at _

pub one_stands_before_the_first_digit_of_a_hex_number : behind_prefix_gives Documented Before
one_stands_before_the_first_digit_of_a_hex_number = behind_prefix_at _
