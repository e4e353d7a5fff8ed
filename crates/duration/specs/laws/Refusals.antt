-- Document 01's rows 1, 2 and 50 to 54, and document 02's 55, as conditions on a duration's text, and the statement that each answer is given
-- exactly when its row holds, in both readings; `proofs/Given` has the proof.
use Rattle.std.specs.Prelude.{ℕ, ◌≤◌, true, false, List, ◌↔◌, ◌⊎◌, ◌≡◌, pos, Float, length, Err, Ok}
use Rattle.std.specs.Float.{fin}
use Rattle.std.specs.Float.Ieee.{lt, le}
use Rattle.scan.specs.Ascii.{ascii}
use Rattle.utf8.specs.Text.{prefix_end}
use Rattle.utf8.specs.declared.Refusal.{Refusal}
use Rattle.utf8.specs.Answers.{place_at, too_long, not_utf8}
use Rattle.utf8.specs.laws.Refusals.{TooLong, NotUtf8, Taken}
use Rattle.scan.specs.Sign.{is_minus}
use Rattle.decimal.specs.Value.{outside_exact, decimal_limit, nearest_of}
use Rattle.decimal.specs.laws.Decimal.{Infinite, Nan, Numeric, Spelled, InExact, OutsideExact}
use Rattle.duration.specs.declared.span.Duration.{Duration}
use Rattle.duration.specs.Unit.{units}
use Rattle.duration.specs.Spans.{two_to64, nanos_of, duration_at}
use Rattle.duration.specs.Units.{has_oversized, is_unit_text, unit_sum, lasting}
use Rattle.duration.specs.declared.Oversized.{Oversized}
use Rattle.duration.specs.Duration.{empty_text, zero_duration, not_duration, out_of_range, oversized_part, refuses_oversized, timing_by}

-- 50 "empty duration"
abbrev pub Empty : List ℕ → Type 0
Empty xs = length xs ≡ 0

-- the text `0`
abbrev pub ZeroText : List ℕ → Type 0
ZeroText xs = xs ≡ ascii "0"

-- a text that is read as a decimal or as parts with units
abbrev pub Read : List ℕ → Type 0
Read xs = Taken decimal_limit xs × (¬ (Empty xs)) × (¬ (ZeroText xs))

-- the seconds of a decimal in the exact range, and whether they are a duration: neither "negative" nor "2^64 and over"
abbrev pub seconds_of : List ℕ → Float
seconds_of xs = (nearest_of xs).value

abbrev pub InTime : List ℕ → Type 0
InTime xs = (lt (seconds_of xs) two_to64 ≡ true) × (le (fin false 0 (pos 0)) (seconds_of xs) ≡ true)

-- a unit text, one that amounts to nothing, and one with a part above 4,294,967,295 that is refused for it (`laws/Spelling` says what these are)
abbrev pub UnitText : List ℕ → Type 0
UnitText xs = (¬ (Spelled xs)) × (is_unit_text xs ≡ true)

abbrev pub Nothing : List ℕ → Type 0
Nothing xs = unit_sum xs ≡ 0

abbrev pub Over : Oversized → List ℕ → Type 0
Over o xs = (refuses_oversized o ≡ true) × (has_oversized units xs ≡ true)

-- 51 "duration text `0`, or a unit sum of zero"
abbrev pub ZeroDuration : Oversized → List ℕ → Type 0
ZeroDuration o xs = (Taken decimal_limit xs × ZeroText xs) ⊎ (Read xs × UnitText xs × (¬ (Over o xs)) × Nothing xs)

-- 52 "neither decimal nor unit text"
abbrev pub NotDuration : List ℕ → Type 0
NotDuration xs = Read xs × (¬ (Spelled xs)) × (¬ (UnitText xs))

-- 54 "seconds negative, infinite, NaN, or 2^64 and over"; "infinity or NaN by name, or negative nonzero, is tested before 53"
abbrev pub OutOfRange : List ℕ → Type 0
OutOfRange xs =
    Read xs
    × ((Infinite xs ⊎ Nan xs)
    ⊎ ((Numeric xs × InExact xs × (¬ (InTime xs)))
    ⊎ (OutsideExact xs × (is_minus xs 0 ≡ true))))

-- a decimal's duration: the nearest nanosecond, ties to even; and that of parts with units
abbrev pub SecondsAre : List ℕ → Duration → Type 0
SecondsAre xs d = Numeric xs × InExact xs × InTime xs × (d ≡ duration_at (nanos_of (seconds_of xs)))

abbrev pub UnitsAre : Oversized → List ℕ → Duration → Type 0
UnitsAre o xs d = UnitText xs × (¬ (Over o xs)) × (¬ (Nothing xs)) × (d ≡ lasting (unit_sum xs))

abbrev pub TimingGiven : Type 0
TimingGiven =
    (o : Oversized) (xs : List ℕ) →
    let t = timing_by o xs in
    (t ≡ Err too_long ↔ TooLong decimal_limit xs)
    × (t ≡ Err (not_utf8 (place_at xs (prefix_end xs))) ↔ (¬ (TooLong decimal_limit xs)) × NotUtf8 xs)
    × (t ≡ Err empty_text ↔ Taken decimal_limit xs × Empty xs)
    × (t ≡ Err zero_duration ↔ ZeroDuration o xs)
    × (t ≡ Err not_duration ↔ NotDuration xs)
    × (t ≡ Err oversized_part ↔ Read xs × UnitText xs × Over o xs)
    × (t ≡ Err outside_exact ↔ Read xs × OutsideExact xs × (is_minus xs 0 ≡ false))
    × (t ≡ Err out_of_range ↔ OutOfRange xs)
    × ((d : Duration) → t ≡ Ok d ↔ Read xs × (SecondsAre xs d ⊎ UnitsAre o xs d))

-- how far refusals reach: none has a greater number, and no place lies beyond the longest text
abbrev pub TimingBound : Type 0
TimingBound =
    (o : Oversized) (xs : List ℕ) (r : Refusal) → timing_by o xs ≡ Err r →
    (r.number ≤ oversized_part.number) × (r.place.byte.0 ≤ decimal_limit) × (r.place.character.0 ≤ decimal_limit)
