-- What holds of writing a duration, as statements: document 01's rows 54 and 3 for it, each given exactly when, how long a text is, and
-- what it denotes. Their proofs stand in `proofs/display`: `Given`, `Answers`, `Bounds` and `Denotes`.
use Rattle.utf8.specs.declared.Refusal.{Refusal}
use Rattle.std.specs.Prelude.{ℕ, ◌%◌, ◌^◌, ◌≤◌, ◌<◌, [], ◌↔◌, ◌⊎◌, ◌≡◌, length, Err, Ok, Result}
use Rattle.utf8.specs.Answers.{no_room}
use Rattle.utf8.specs.laws.Refusals.{NoRoom}
use Rattle.duration.specs.declared.span.Duration.{Duration}
use Rattle.duration.specs.Unit.{units, nanos_a_milli, nanos_a_second}
use Rattle.duration.specs.Units.{behind, sum_by, lasting}
use Rattle.duration.specs.Duration.{out_of_range}
use Rattle.duration.specs.Display.{millis_of, duration_text, displaying_of}

-- 54 "nanoseconds over range in writing"
abbrev pub OverRange : Duration → Type 0
OverRange d = nanos_a_second ≤ d.nanos

abbrev pub DisplayingGiven : Type 0
DisplayingGiven =
    (room : ℕ) (d : Duration) →
    (displaying_of room d ≡ Err out_of_range ↔ OverRange d)
    × (displaying_of room d ≡ Err no_room ↔ (¬ (OverRange d)) × NoRoom room (duration_text d))
    × (displaying_of room d ≡ Ok (length (duration_text d)) ↔ (¬ (OverRange d)) × (¬ (NoRoom room (duration_text d))))

-- what each answer tells: the text was written, no more bytes than there was room for; or it is refused with 54 or 3
abbrev pub DisplayTells : ℕ → Duration → Result ℕ Refusal → Type 0
DisplayTells room d (Ok n) = (n ≡ length (duration_text d)) × (n ≤ room)
DisplayTells room d (Err r) = (r ≡ out_of_range) ⊎ (r ≡ no_room)

abbrev pub DisplayAnswers : Type 0
DisplayAnswers = (room : ℕ) (d : Duration) → DisplayTells room d (displaying_of room d)

-- no text is longer
abbrev pub longest_text : ℕ
longest_text = 30

abbrev pub TextFew : Type 0
TextFew = (d : Duration) → d.secs < 2 ^ 64 → d.nanos < nanos_a_second → length (duration_text d) ≤ longest_text

-- every text that is written is a unit text, and its parts amount to the duration's milliseconds, counting each number for what it is
abbrev pub Denotes : Type 0
Denotes = (d : Duration) → (behind units (duration_text d) ≡ []) × (sum_by (λ v. v) units (duration_text d) ≡ millis_of d)

-- so it denotes the duration again, where that is a whole number of milliseconds; what is read of it is said in `laws/Exact`
abbrev pub DenotesAgain : Type 0
DenotesAgain = (d : Duration) → d.nanos < nanos_a_second → d.nanos % nanos_a_milli ≡ 0 → lasting (sum_by (λ v. v) units (duration_text d)) ≡ d
