-- The answer, and the content of what is lent, that each promise leaves at a telling input: a program that answers or writes otherwise
-- there, as the theorem's name says, cannot be proved. `FUNCTION-gives` and `FUNCTION-leaves-PARAMETER` say what, at the arguments.
use Prim.Native.Nat.{ℕ}
use mathlib.Core.List.{List}
use mathlib.Core.Path.{◌≡◌}
use lib.ListN.{length}
use contract.Lifetimes.{Lfts}
use borrow.Fn.Kinds.{Dens}
use Rattle.scan.specs.Ascii.{ascii}
use Rattle.scan.specs.Byte.{is_within, digit_of, lowered, is_in, is_alpha}
use Rattle.proving.proofs.One.{Answers, Leaves}
use Rattle.scan.specs.Run.{run_length}
use Rattle.scan.specs.Text.{same_text}
use Rattle.utf8.specs.Table.{fits, size_in, char_length}
use Rattle.utf8.specs.Code.{code_of}
use Rattle.utf8.specs.Text.{chars_past, size_of}
use Rattle.utf8.specs.Answers.{validity_of, admitted}
use Rattle.utf8.specs.Writing.{left_by}
use Rattle.scan.specs.Sign.{is_sign}
use Rattle.scan.specs.Digits.{value_from}
use Rattle.decimal.specs.Grammar.{has_digits, exponent_has_digits, is_numeral, is_infinite, is_nan}
use Rattle.decimal.specs.Value.{decimal_in, decimal_of}
use Rattle.duration.specs.Units.{is_part, behind, sum_by, counted, has_oversized, is_unit_text, units_of}
use Rattle.duration.specs.Duration.{duration_read, timing_by, timing_of, exact_timing_of}
use Rattle.writing.specs.Decimal.{digit_for, digits_within, decimal_text}
use Rattle.duration.specs.Display.{count_text, part_text, rest_of, duration_text, displaying_of}
use Rattle.exports.specs.Packed.{packed_as, counted_code}
use Rattle.exports.specs.Duration.{duration_code, secs_left, nanos_left, duration_of}
use Rattle.exports.proofs.durations.simmerpath_parse_duration.Kinds as simmerpath_parse_duration
use Rattle.exports.proofs.durations.simmerpath_parse_duration.Reads as simmerpath_parse_duration_reads
use Rattle.exports.proofs.durations.simmerpath_parse_duration_exact.Kinds as simmerpath_parse_duration_exact
use Rattle.exports.proofs.durations.simmerpath_parse_duration_exact.Reads as simmerpath_parse_duration_exact_reads
use Rattle.exports.proofs.durations.simmerpath_display_duration.Kinds as simmerpath_display_duration
use Rattle.exports.proofs.durations.simmerpath_display_duration.Reads as simmerpath_display_duration_reads

-- what computes at a text, and at a duration
reading : Unit {0}
unfolding timing_by duration_read admitted validity_of chars_past size_of char_length size_in fits code_of is_within same_text decimal_of decimal_in is_infinite is_nan is_numeral has_digits exponent_has_digits is_sign lowered is_in is_alpha run_length digit_of value_from units_of is_unit_text behind sum_by has_oversized is_part counted
reading = tt

displaying : Unit {0}
unfolding displaying_of duration_text part_text rest_of count_text decimal_text digits_within digit_for
displaying = tt

abbrev simmerpath_parse_duration_gives : List ℕ → ℕ → Type 0
simmerpath_parse_duration_gives xs v =
    Answers simmerpath_parse_duration.ps simmerpath_parse_duration.r simmerpath_parse_duration_reads.Post (λ κs a. a.0.now ≡ xs) (λ κs. v)

simmerpath_parse_duration_at : (xs : List ℕ) → simmerpath_parse_duration_gives xs (duration_code (timing_of xs))
simmerpath_parse_duration_at xs κs a x e p h = cc (p.0, h)

pub duration_is_answered_with_zero : simmerpath_parse_duration_gives (ascii "1ms") 0
unfolding reading
duration_is_answered_with_zero = simmerpath_parse_duration_at _

pub zero_is_no_duration : simmerpath_parse_duration_gives (ascii "0") (packed_as 51 0 0)
unfolding reading
zero_is_no_duration = simmerpath_parse_duration_at _

abbrev simmerpath_parse_duration_leaves_secs : List ℕ → ℕ → ℕ → Type 0
simmerpath_parse_duration_leaves_secs xs old v =
    Leaves simmerpath_parse_duration.ps simmerpath_parse_duration.r simmerpath_parse_duration_reads.Post (λ κs a. (a.0.now ≡ xs) × (a.1.0.now ≡ old)) (λ κs e. e.1.0.now) v

simmerpath_parse_duration_left_secs : (xs : List ℕ) (old : ℕ) → simmerpath_parse_duration_leaves_secs xs old (secs_left (timing_of xs) old)
simmerpath_parse_duration_left_secs xs old κs a x e p h = cc (p.1.0, h.0, h.1)

pub seconds_are_written : simmerpath_parse_duration_leaves_secs (ascii "1m") 9 60
unfolding reading
seconds_are_written = simmerpath_parse_duration_left_secs _ _

pub no_duration_leaves_the_seconds : simmerpath_parse_duration_leaves_secs (ascii "0") 9 9
unfolding reading
no_duration_leaves_the_seconds = simmerpath_parse_duration_left_secs _ _

abbrev simmerpath_parse_duration_leaves_nanos : List ℕ → ℕ → ℕ → Type 0
simmerpath_parse_duration_leaves_nanos xs old v =
    Leaves simmerpath_parse_duration.ps simmerpath_parse_duration.r simmerpath_parse_duration_reads.Post (λ κs a. (a.0.now ≡ xs) × (a.1.1.0.now ≡ old)) (λ κs e. e.1.1.0.now) v

simmerpath_parse_duration_left_nanos : (xs : List ℕ) (old : ℕ) → simmerpath_parse_duration_leaves_nanos xs old (nanos_left (timing_of xs) old)
simmerpath_parse_duration_left_nanos xs old κs a x e p h = cc (p.1.1, h.0, h.1)

pub nanoseconds_are_written : simmerpath_parse_duration_leaves_nanos (ascii "1ms") 9 1000000
unfolding reading
nanoseconds_are_written = simmerpath_parse_duration_left_nanos _ _

pub no_duration_leaves_the_nanoseconds : simmerpath_parse_duration_leaves_nanos (ascii "0") 9 9
unfolding reading
no_duration_leaves_the_nanoseconds = simmerpath_parse_duration_left_nanos _ _

abbrev simmerpath_parse_duration_exact_gives : List ℕ → ℕ → Type 0
simmerpath_parse_duration_exact_gives xs v =
    Answers simmerpath_parse_duration_exact.ps simmerpath_parse_duration_exact.r simmerpath_parse_duration_exact_reads.Post (λ κs a. a.0.now ≡ xs) (λ κs. v)

simmerpath_parse_duration_exact_at : (xs : List ℕ) → simmerpath_parse_duration_exact_gives xs (duration_code (exact_timing_of xs))
simmerpath_parse_duration_exact_at xs κs a x e p h = cc (p.0, h)

pub oversized_part_is_refused : simmerpath_parse_duration_exact_gives (ascii "4294967296s") (packed_as 55 0 0)
unfolding reading
oversized_part_is_refused = simmerpath_parse_duration_exact_at _

pub part_below_2_to_32_is_a_duration : simmerpath_parse_duration_exact_gives (ascii "4294967295s") 0
unfolding reading
part_below_2_to_32_is_a_duration = simmerpath_parse_duration_exact_at _

abbrev simmerpath_parse_duration_exact_leaves_secs : List ℕ → ℕ → ℕ → Type 0
simmerpath_parse_duration_exact_leaves_secs xs old v =
    Leaves simmerpath_parse_duration_exact.ps simmerpath_parse_duration_exact.r simmerpath_parse_duration_exact_reads.Post (λ κs a. (a.0.now ≡ xs) × (a.1.0.now ≡ old)) (λ κs e. e.1.0.now) v

simmerpath_parse_duration_exact_left_secs : (xs : List ℕ) (old : ℕ) → simmerpath_parse_duration_exact_leaves_secs xs old (secs_left (exact_timing_of xs) old)
simmerpath_parse_duration_exact_left_secs xs old κs a x e p h = cc (p.1.0, h.0, h.1)

pub most_seconds_are_written : simmerpath_parse_duration_exact_leaves_secs (ascii "4294967295s") 9 4294967295
unfolding reading
most_seconds_are_written = simmerpath_parse_duration_exact_left_secs _ _

pub oversized_part_leaves_the_seconds : simmerpath_parse_duration_exact_leaves_secs (ascii "1d4294967296s") 9 9
unfolding reading
oversized_part_leaves_the_seconds = simmerpath_parse_duration_exact_left_secs _ _

abbrev simmerpath_parse_duration_exact_leaves_nanos : List ℕ → ℕ → ℕ → Type 0
simmerpath_parse_duration_exact_leaves_nanos xs old v =
    Leaves simmerpath_parse_duration_exact.ps simmerpath_parse_duration_exact.r simmerpath_parse_duration_exact_reads.Post (λ κs a. (a.0.now ≡ xs) × (a.1.1.0.now ≡ old)) (λ κs e. e.1.1.0.now) v

simmerpath_parse_duration_exact_left_nanos : (xs : List ℕ) (old : ℕ) → simmerpath_parse_duration_exact_leaves_nanos xs old (nanos_left (exact_timing_of xs) old)
simmerpath_parse_duration_exact_left_nanos xs old κs a x e p h = cc (p.1.1, h.0, h.1)

pub milliseconds_are_written : simmerpath_parse_duration_exact_leaves_nanos (ascii "1ms") 9 1000000
unfolding reading
milliseconds_are_written = simmerpath_parse_duration_exact_left_nanos _ _

pub oversized_part_leaves_the_nanoseconds : simmerpath_parse_duration_exact_leaves_nanos (ascii "4294967296ms") 9 9
unfolding reading
oversized_part_leaves_the_nanoseconds = simmerpath_parse_duration_exact_left_nanos _ _

-- the duration, and the buffer that is lent
abbrev Given : ℕ → ℕ → List ℕ → (κs : Lfts 1) → Dens κs simmerpath_display_duration.ps → Type 0
Given secs nanos out κs a = (a.0 ≡ secs) × (a.1.0 ≡ nanos) × (a.1.1.0.now ≡ out)

abbrev simmerpath_display_duration_gives : ℕ → ℕ → List ℕ → ℕ → Type 0
simmerpath_display_duration_gives secs nanos out v =
    Answers simmerpath_display_duration.ps simmerpath_display_duration.r simmerpath_display_duration_reads.Post (Given secs nanos out) (λ κs. v)

simmerpath_display_duration_at : (secs nanos : ℕ) (out : List ℕ) → simmerpath_display_duration_gives secs nanos out (counted_code (displaying_of (length out) (duration_of secs nanos)))
simmerpath_display_duration_at secs nanos out κs a x e p h = cc (p.0, h.0, h.1, h.2)

pub duration_fits_just_its_length : simmerpath_display_duration_gives 2 0 (ascii "..") 2
unfolding displaying
duration_fits_just_its_length = simmerpath_display_duration_at _ _ _

pub duration_lacks_room_by_a_byte : simmerpath_display_duration_gives 2 0 (ascii ".") (packed_as 3 0 0)
unfolding displaying
duration_lacks_room_by_a_byte = simmerpath_display_duration_at _ _ _

pub nanoseconds_of_a_whole_second_are_refused : simmerpath_display_duration_gives 2 1000000000 (ascii "....") (packed_as 54 0 0)
unfolding displaying
nanoseconds_of_a_whole_second_are_refused = simmerpath_display_duration_at _ _ _

abbrev simmerpath_display_duration_leaves_out : ℕ → ℕ → List ℕ → List ℕ → Type 0
simmerpath_display_duration_leaves_out secs nanos out v =
    Leaves simmerpath_display_duration.ps simmerpath_display_duration.r simmerpath_display_duration_reads.Post (Given secs nanos out) (λ κs e. e.1.1.0.now) v

simmerpath_display_duration_left_out : (secs nanos : ℕ) (out : List ℕ) → simmerpath_display_duration_leaves_out secs nanos out (left_by (displaying_of (length out) (duration_of secs nanos)) (duration_text (duration_of secs nanos)) out)
simmerpath_display_duration_left_out secs nanos out κs a x e p h = cc (p.1, h.0, h.1, h.2)

pub seconds_are_displayed : simmerpath_display_duration_leaves_out 2 0 (ascii "....") (ascii "2s..")
unfolding displaying
seconds_are_displayed = simmerpath_display_duration_left_out _ _ _

pub refused_duration_leaves_the_buffer : simmerpath_display_duration_leaves_out 2 1000000000 (ascii "....") (ascii "....")
unfolding displaying
refused_duration_leaves_the_buffer = simmerpath_display_duration_left_out _ _ _
