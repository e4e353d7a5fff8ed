-- The answer that the promise leaves at a telling input: a program that answers otherwise there, as the theorem's name says, cannot be
-- proved. `parse_duration_gives` is what the promise answers at a text, which is the definition's value there.
use Prim.Native.Nat.{ℕ}
use mathlib.Core.List.{List, []}
use mathlib.Core.Path.{◌≡◌, refl, ap, ◌∙◌}
use lib.Count.{count_trailing_zeros}
use lib.Ieee.{round, size, span, climb, units as float_units, odd, lt, le}
use Rattle.std.specs.Prelude.{Err, Ok, Result}
use Rattle.scan.specs.Ascii.{ascii}
use Rattle.scan.specs.Byte.{is_within, digit_of, lowered, is_in, is_alpha}
use Rattle.proving.proofs.One.{Answers}
use Rattle.scan.specs.Run.{run_length}
use Rattle.scan.specs.Text.{same_text}
use Rattle.scan.specs.Sign.{is_sign}
use Rattle.scan.specs.Digits.{value_from}
use Rattle.utf8.specs.Table.{fits, size_in, char_length}
use Rattle.utf8.specs.Text.{chars_past, size_of}
use Rattle.utf8.specs.Answers.{validity_of, admitted, at_start}
use Rattle.utf8.specs.Code.{code_of}
use Rattle.decimal.specs.Grammar.{has_digits, exponent_has_digits, is_numeral, is_infinite, is_nan}
use Rattle.decimal.specs.Value.{is_scaled, is_some, is_exact_range, is_in_exact, numeral_read, decimal_in, decimal_of}
use Rattle.duration.specs.declared.span.Duration.{Duration}
use Rattle.duration.specs.Units.{is_part, behind, sum_by, has_oversized, counted, is_unit_text, units_of}
use Rattle.duration.specs.Duration.{duration_read, timing_by, timing_of, exact_timing_of}
use Rattle.utf8.specs.declared.Refusal.{Refusal}
use Rattle.writing.specs.Decimal.{decimal_text, digits_within, digit_for}
use Rattle.duration.specs.Display.{count_text, part_text, rest_of, duration_text}
use Rattle.duration.specs.laws.Exact.{PastBound}
use Rattle.duration.proofs.parse_duration.Kinds as parse_duration
use Rattle.duration.proofs.parse_duration.Reads as parse_duration_reads
use Rattle.duration.proofs.parse_duration_exact.Kinds as parse_duration_exact
use Rattle.duration.proofs.parse_duration_exact.Reads as parse_duration_exact_reads

abbrev duration : ℕ → ℕ → Duration
duration s n = record { secs = s; nanos = n }

abbrev parse_duration_gives : List ℕ → Result Duration Refusal → Type 0
parse_duration_gives s v = Answers parse_duration.ps parse_duration.r parse_duration_reads.Post (λ κs a. a.0.now ≡ s) (λ κs. v)

parse_duration_at : (s : List ℕ) → parse_duration_gives s (timing_of s)
unfolding timing_by duration_read admitted validity_of chars_past size_of char_length size_in fits code_of is_within same_text decimal_of decimal_in is_infinite is_nan is_numeral has_digits exponent_has_digits is_sign lowered is_in run_length digit_of value_from numeral_read is_in_exact is_exact_range is_some is_scaled round size span climb float_units odd count_trailing_zeros lt le units_of is_unit_text behind sum_by has_oversized is_part counted is_alpha
parse_duration_at s κs a x e p h = p ∙ ap timing_of h

pub empty_text_is_refused_with_fifty : parse_duration_gives [] (Err (at_start 50))
unfolding parse_duration_at
empty_text_is_refused_with_fifty = parse_duration_at _

pub zero_is_refused : parse_duration_gives (ascii "0") (Err (at_start 51))
unfolding parse_duration_at
zero_is_refused = parse_duration_at _

pub one_is_a_second : parse_duration_gives (ascii "1") (Ok (duration 1 0))
unfolding parse_duration_at
one_is_a_second = parse_duration_at _

pub half_is_half_a_second : parse_duration_gives (ascii "0.5") (Ok (duration 0 500000000))
unfolding parse_duration_at
half_is_half_a_second = parse_duration_at _

pub positive_decimal_outside_is_refused_with_fifty_three : parse_duration_gives (ascii "1e23") (Err (at_start 53))
unfolding parse_duration_at
positive_decimal_outside_is_refused_with_fifty_three = parse_duration_at _

pub negative_decimal_outside_is_refused_with_fifty_four : parse_duration_gives (ascii "-1e23") (Err (at_start 54))
unfolding parse_duration_at
negative_decimal_outside_is_refused_with_fifty_four = parse_duration_at _

pub oversized_part_counts_for_nothing : parse_duration_gives (ascii "1d4294967296ms") (Ok (duration 86400 0))
unfolding parse_duration_at
oversized_part_counts_for_nothing = parse_duration_at _

pub zero_sum_is_refused : parse_duration_gives (ascii "0s") (Err (at_start 51))
unfolding parse_duration_at
zero_sum_is_refused = parse_duration_at _

pub one_second_is_a_duration : parse_duration_gives (ascii "1s") (Ok (duration 1 0))
unfolding parse_duration_at
one_second_is_a_duration = parse_duration_at _

pub infinity_is_out_of_range : parse_duration_gives (ascii "inf") (Err (at_start 54))
unfolding parse_duration_at
infinity_is_out_of_range = parse_duration_at _

pub letter_is_no_duration : parse_duration_gives (ascii "x") (Err (at_start 52))
unfolding parse_duration_at
letter_is_no_duration = parse_duration_at _

abbrev parse_duration_exact_gives : List ℕ → Result Duration Refusal → Type 0
parse_duration_exact_gives s v = Answers parse_duration_exact.ps parse_duration_exact.r parse_duration_exact_reads.Post (λ κs a. a.0.now ≡ s) (λ κs. v)

parse_duration_exact_at : (s : List ℕ) → parse_duration_exact_gives s (exact_timing_of s)
parse_duration_exact_at s κs a x e p h = p ∙ ap exact_timing_of h

pub day_and_5000000000_milliseconds_are_refused : parse_duration_exact_gives (ascii "1d5000000000ms") (Err (at_start 55))
unfolding parse_duration_at
day_and_5000000000_milliseconds_are_refused = parse_duration_exact_at _

pub part_of_2_to_32_is_refused : parse_duration_exact_gives (ascii "1d4294967296ms") (Err (at_start 55))
unfolding parse_duration_at
part_of_2_to_32_is_refused = parse_duration_exact_at _

pub part_below_2_to_32_is_read : parse_duration_exact_gives (ascii "1d4294967295ms") (Ok (duration 4381367 295000000))
unfolding parse_duration_at
part_below_2_to_32_is_read = parse_duration_exact_at _

pub oversized_part_is_named_before_a_zero_sum : parse_duration_exact_gives (ascii "4294967296s") (Err (at_start 55))
unfolding parse_duration_at
oversized_part_is_named_before_a_zero_sum = parse_duration_exact_at _

pub oversized_part_is_not_forgotten : parse_duration_exact_gives (ascii "4294967296y0w") (Err (at_start 55))
unfolding parse_duration_at
oversized_part_is_not_forgotten = parse_duration_exact_at _

pub text_that_is_none_is_named_before_its_part : parse_duration_exact_gives (ascii "4294967296s1") (Err (at_start 52))
unfolding parse_duration_at
text_that_is_none_is_named_before_its_part = parse_duration_exact_at _

pub decimal_may_be_greater : parse_duration_exact_gives (ascii "4294967296") (Ok (duration 4294967296 0))
unfolding parse_duration_at
decimal_may_be_greater = parse_duration_exact_at _

-- one day more than the bound, as it is written and read
pub past_bound_holds : PastBound
unfolding parse_duration_at duration_text part_text rest_of count_text decimal_text digits_within digit_for
past_bound_holds = (refl, refl, refl)
