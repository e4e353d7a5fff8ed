-- The answer that the promise leaves at a telling input, and the content of the buffer: a program that answers or writes otherwise there, as
-- the theorem's name says, cannot be proved. `display_duration_gives` is what the promise answers at arguments, which is the definition's value.
use Prim.Native.Nat.{ℕ}
use mathlib.Core.List.{List}
use mathlib.Core.Path.{◌≡◌}
use lib.ListN.{length}
use Rattle.utf8.specs.declared.Refusal.{Refusal}
use Rattle.std.specs.Prelude.{Err, Ok, Result}
use Rattle.scan.specs.Ascii.{ascii}
use Rattle.proving.proofs.One.{Answers, Leaves}
use Rattle.utf8.specs.Answers.{at_start, no_room}
use Rattle.utf8.specs.Writing.{left_by}
use Rattle.writing.specs.Decimal.{digit_for, digits_within, decimal_text}
use Rattle.duration.specs.declared.span.Duration.{Duration}
use Rattle.duration.specs.Display.{count_text, part_text, rest_of, duration_text, displaying_of}
use Rattle.duration.proofs.display.display_duration.Kinds as display_duration
use Rattle.duration.proofs.display.display_duration.Reads as display_duration_reads

-- what computes at a duration
shown : Unit {0}
unfolding displaying_of duration_text part_text rest_of count_text decimal_text digits_within digit_for
shown = tt

abbrev duration : ℕ → ℕ → Duration
duration s n = record { secs = s; nanos = n }

-- a duration, and how long the buffer is
abbrev display_duration_gives : Duration → ℕ → Result ℕ Refusal → Type 0
display_duration_gives d room v =
    Answers display_duration.ps display_duration.r display_duration_reads.Post (λ κs a. (a.0 ≡ d) × (length a.1.0.now ≡ room)) (λ κs. v)

display_duration_at : (d : Duration) (room : ℕ) → display_duration_gives d room (displaying_of room d)
display_duration_at d room κs a x e p h = cc (p.0, h.0, h.1)

pub room_of_just_the_length_is_enough : display_duration_gives (duration 1 0) 2 (Ok 2)
unfolding shown
room_of_just_the_length_is_enough = display_duration_at _ _

pub room_to_spare_is_no_refusal : display_duration_gives (duration 1 0) 30 (Ok 2)
unfolding shown
room_to_spare_is_no_refusal = display_duration_at _ _

pub no_room_is_refused_with_three : display_duration_gives (duration 1 0) 1 (Err no_room)
unfolding shown
no_room_is_refused_with_three = display_duration_at _ _

pub whole_second_of_nanoseconds_is_over_range : display_duration_gives (duration 0 1000000000) 30 (Err (at_start 54))
unfolding shown
whole_second_of_nanoseconds_is_over_range = display_duration_at _ _

pub most_nanoseconds_are_written : display_duration_gives (duration 0 999999999) 30 (Ok 5)
unfolding shown
most_nanoseconds_are_written = display_duration_at _ _

-- a duration, and what the buffer holds before and after
abbrev display_duration_leaves_out : Duration → List ℕ → List ℕ → Type 0
display_duration_leaves_out d out left =
    Leaves display_duration.ps display_duration.r display_duration_reads.Post (λ κs a. (a.0 ≡ d) × (a.1.0.now ≡ out)) (λ κs e. e.1.0.now) left

display_duration_left_out : (d : Duration) (out : List ℕ) → display_duration_leaves_out d out (left_by (displaying_of (length out) d) (duration_text d) out)
display_duration_left_out d out κs a x e p h = cc (p.0, p.1, h.0, h.1)

pub second_is_written_and_the_rest_stays : display_duration_leaves_out (duration 1 0) (ascii "?????") (ascii "1s???")
unfolding shown
second_is_written_and_the_rest_stays = display_duration_left_out _ _

pub zero_is_written_as_no_seconds : display_duration_leaves_out (duration 0 0) (ascii "?????") (ascii "0s???")
unfolding shown
zero_is_written_as_no_seconds = display_duration_left_out _ _

pub sixty_seconds_are_a_minute : display_duration_leaves_out (duration 60 0) (ascii "?????") (ascii "1m???")
unfolding shown
sixty_seconds_are_a_minute = display_duration_left_out _ _

pub one_day_is_a_day : display_duration_leaves_out (duration 86400 0) (ascii "?????") (ascii "1d???")
unfolding shown
one_day_is_a_day = display_duration_left_out _ _

pub eight_days_are_no_week_and_a_day : display_duration_leaves_out (duration 691200 0) (ascii "?????") (ascii "8d???")
unfolding shown
eight_days_are_no_week_and_a_day = display_duration_left_out _ _

pub minute_is_taken_away_from_the_seconds : display_duration_leaves_out (duration 61 0) (ascii "???????") (ascii "1m1s???")
unfolding shown
minute_is_taken_away_from_the_seconds = display_duration_left_out _ _

pub refusal_for_room_writes_nothing : display_duration_leaves_out (duration 1 0) (ascii "?") (ascii "?")
unfolding shown
refusal_for_room_writes_nothing = display_duration_left_out _ _

pub refusal_for_range_writes_nothing : display_duration_leaves_out (duration 1 1000000000) (ascii "?????") (ascii "?????")
unfolding shown
refusal_for_range_writes_nothing = display_duration_left_out _ _
