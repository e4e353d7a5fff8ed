-- The answer by the tests of the code: nanoseconds over range first, then the room for the text.
use Prim.Native.Nat.{ℕ, ◌≤◌, ◌<◌}
use mathlib.Core.Logic.{inl, inr}
use mathlib.Core.Path.{◌≡◌, refl}
use lib.Dec.{leb}
use lib.ListN.{length}
use borrow.Author.Tests.{le-leb, lt-leb, leb-true}
use Rattle.utf8.specs.declared.Refusal.{Refusal}
use Rattle.std.specs.Prelude.{Err, Ok, Result}
use Rattle.proving.proofs.Choice.{either}
use Rattle.utf8.specs.Answers.{no_room}
use Rattle.duration.specs.declared.span.Duration.{Duration}
use Rattle.duration.specs.Unit.{nanos_a_second}
use Rattle.duration.specs.Duration.{out_of_range}
use Rattle.duration.specs.Display.{duration_text, displaying_of}
use Rattle.duration.specs.laws.Display.{DisplayTells, DisplayAnswers}

pub over_range : (room : ℕ) (d : Duration) → nanos_a_second ≤ d.nanos → displaying_of room d ≡ Err out_of_range
unfolding displaying_of
over_range room d h = rw (le-leb nanos_a_second d.nanos h)

module _ (d : Duration) (few : d.nanos < nanos_a_second) where
  pub no_room_left : (room : ℕ) → room < length (duration_text d) → displaying_of room d ≡ Err no_room
  unfolding displaying_of
  no_room_left room h = rw (lt-leb nanos_a_second d.nanos few, lt-leb (length (duration_text d)) room h)

  pub fits : (room : ℕ) → length (duration_text d) ≤ room → displaying_of room d ≡ Ok (length (duration_text d))
  unfolding displaying_of
  fits room h = rw (lt-leb nanos_a_second d.nanos few, le-leb (length (duration_text d)) room h)

pub display_answers : DisplayAnswers
unfolding displaying_of
display_answers room d =
    let P : Result ℕ Refusal → Type 0 = DisplayTells room d in
    either P (leb nanos_a_second d.nanos) (λ e. inl refl)
    (λ e. either P (leb (length (duration_text d)) room) (λ f. (refl, leb-true (length (duration_text d)) room f)) (λ f. inr refl))
