-- The answer that the promise leaves at a telling input: a program that answers otherwise there, as the theorem's name says, cannot be
-- proved. `read_units_gives` is what the promise answers at a text, which is the definition's value there.
use Prim.Native.Nat.{ℕ}
use mathlib.Core.Bool.{Bool, true, false}
use mathlib.Core.List.{List, []}
use mathlib.Core.Path.{◌≡◌, ap, ◌∙◌}
use Rattle.std.specs.Prelude.{None, Option, Some}
use Rattle.scan.specs.Ascii.{ascii}
use Rattle.scan.specs.Byte.{is_within, digit_of, is_in, is_alpha}
use Rattle.proving.proofs.One.{Answers}
use Rattle.scan.specs.Run.{run_length}
use Rattle.scan.specs.Text.{same_text}
use Rattle.scan.specs.Digits.{value_from}
use Rattle.duration.specs.declared.span.Duration.{Duration}
use Rattle.duration.specs.declared.units.Sum.{Sum}
use Rattle.duration.specs.Units.{is_part, behind, sum_by, has_oversized, counted, is_unit_text, units_of}
use Rattle.duration.proofs.units.read_units.Kinds as read_units
use Rattle.duration.proofs.units.read_units.Reads as read_units_reads

abbrev duration : ℕ → ℕ → Duration
duration s n = record { secs = s; nanos = n }

abbrev sum : Duration → Bool → Option Sum
sum d over = Some (record { lasts = d; oversized = over })

abbrev read_units_gives : List ℕ → Option Sum → Type 0
read_units_gives s v = Answers read_units.ps read_units.r read_units_reads.Post (λ κs a. a.0.now ≡ s) (λ κs. v)

read_units_at : (s : List ℕ) → read_units_gives s (units_of s)
unfolding units_of is_unit_text behind sum_by has_oversized is_part counted run_length same_text is_in is_alpha is_within value_from digit_of
read_units_at s κs a x e p h = p ∙ ap units_of h

pub part_of_2_to_32_counts_for_nothing : read_units_gives (ascii "4294967296s") (sum (duration 0 0) true)
unfolding read_units_at
part_of_2_to_32_counts_for_nothing = read_units_at _

pub part_below_2_to_32_counts : read_units_gives (ascii "4294967295s") (sum (duration 4294967295 0) false)
unfolding read_units_at
part_below_2_to_32_counts = read_units_at _

pub digits_behind_a_part_are_no_units : read_units_gives (ascii "1s2") None
unfolding read_units_at
digits_behind_a_part_are_no_units = read_units_at _

pub seconds_before_minutes_are_no_units : read_units_gives (ascii "1s1m") None
unfolding read_units_at
seconds_before_minutes_are_no_units = read_units_at _

pub minutes_before_seconds_are_units : read_units_gives (ascii "1m1s") (sum (duration 61 0) false)
unfolding read_units_at
minutes_before_seconds_are_units = read_units_at _

pub year_has_365_days : read_units_gives (ascii "1y") (sum (duration 31536000 0) false)
unfolding read_units_at
year_has_365_days = read_units_at _

pub millisecond_is_a_million_nanoseconds : read_units_gives (ascii "1ms") (sum (duration 0 1000000) false)
unfolding read_units_at
millisecond_is_a_million_nanoseconds = read_units_at _

pub no_parts_amount_to_nothing : read_units_gives [] (sum (duration 0 0) false)
unfolding read_units_at
no_parts_amount_to_nothing = read_units_at _
