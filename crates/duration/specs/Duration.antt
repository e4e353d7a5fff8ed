-- What a duration's text is read as: document 01, "Durations are seconds and nanoseconds", in the order of its refusals. The exact reading of
-- document 02, L13, parts from it in one place: what becomes of a part above 4,294,967,295.
use Rattle.duration.specs.declared.span.Duration.{Duration}
use Rattle.utf8.specs.declared.CharNumber.{CharNumber}
use Rattle.std.specs.Prelude.{ℕ, Bool, true, false, cond, ◌&&◌, List, eqb, length, Err, None, Ok, Option, Result, Some}
use Rattle.scan.specs.Ascii.{ascii}
use Rattle.scan.specs.Text.{same_text}
use Rattle.utf8.specs.declared.Refusal.{Refusal}
use Rattle.utf8.specs.Answers.{at_start, admitted}
use Rattle.decimal.specs.declared.Number.{Number}
use Rattle.decimal.specs.declared.Decimal.{Decimal}
use Rattle.decimal.specs.declared.Decimal.TheVariants.{NotDecimal, Named, Exact, Outside}
use Rattle.decimal.specs.Value.{outside_exact, decimal_limit, decimal_of}
use Rattle.duration.specs.Spans.{is_zero, from_secs}
use Rattle.duration.specs.declared.units.Sum.{Sum}
use Rattle.duration.specs.Units.{units_of}
use Rattle.duration.specs.declared.Oversized.{Oversized}
use Rattle.duration.specs.declared.Oversized.TheVariants as oversized

-- 50 "empty duration", 51 "duration text `0`, or a unit sum of zero", 52 "neither decimal nor unit text", 54 "seconds negative, infinite, NaN,
-- or 2^64 and over"
abbrev pub empty_text : Refusal
empty_text = at_start 50

abbrev pub zero_duration : Refusal
zero_duration = at_start 51

abbrev pub not_duration : Refusal
not_duration = at_start 52

abbrev pub out_of_range : Refusal
out_of_range = at_start 54

-- document 02, L13: "55 for a part above 4,294,967,295"
abbrev pub oversized_part : Refusal
oversized_part = at_start 55

-- "A decimal text's f64 is seconds, rounded to the nearest nanosecond, ties to even"
abbrev pub converted : Option Duration → Result Duration Refusal
converted (Some d) = Ok d
converted None = Err out_of_range

abbrev pub seconds_read : Number → Result Duration Refusal
seconds_read n = converted (from_secs n.value)

-- an oversized part "counts as nothing", or is refused
abbrev pub refuses_oversized : Oversized → Bool
refuses_oversized oversized.Ignored = false
refuses_oversized oversized.Refused = true

-- "after 52 and before the zero sum's 51"
abbrev pub units_read : Oversized → Option Sum → Result Duration Refusal
units_read o (Some s) =
    cond (refuses_oversized o && s.oversized) (Err oversized_part) (cond (is_zero s.lasts) (Err zero_duration) (Ok s.lasts))
units_read o None = Err not_duration

-- "infinity or NaN by name, or negative nonzero, is tested before 53, 2^64 after"
abbrev pub timed_decimal : Oversized → List ℕ → Decimal → Result Duration Refusal
timed_decimal o xs NotDecimal = units_read o (units_of xs)
timed_decimal o xs (Named n) = Err out_of_range
timed_decimal o xs (Exact n) = seconds_read n
timed_decimal o xs (Outside negative) = Err (cond negative out_of_range outside_exact)

unfoldable pub duration_read : Oversized → List ℕ → Result Duration Refusal
duration_read o xs =
    cond (eqb (length xs) 0) (Err empty_text)
    (cond (same_text xs (ascii "0")) (Err zero_duration)
    (timed_decimal o xs (decimal_of xs)))

-- "Order: 1, 2, the reading"
abbrev pub timing_for : Oversized → Result CharNumber Refusal → List ℕ → Result Duration Refusal
timing_for o (Ok n) xs = duration_read o xs
timing_for o (Err r) xs = Err r

unfoldable pub timing_by : Oversized → List ℕ → Result Duration Refusal
timing_by o xs = timing_for o (admitted decimal_limit xs) xs

-- the present reading, and the exact one
abbrev pub timing_of : List ℕ → Result Duration Refusal
timing_of xs = timing_by oversized.Ignored xs

abbrev pub exact_timing_of : List ℕ → Result Duration Refusal
exact_timing_of xs = timing_by oversized.Refused xs
