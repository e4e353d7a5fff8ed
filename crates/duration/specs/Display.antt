-- Writing a duration, by document 01.
use Rattle.utf8.specs.declared.Refusal.{Refusal}
use Rattle.std.specs.Prelude.{ℕ, ◌+◌, ◌*◌, ◌/◌, ◌%◌, Bool, cond, ◌&&◌, not, List, [], ◌∷◌, ◌++◌, leb, ltb, eqb, Err, Result}
use Rattle.scan.specs.Ascii.{ascii}
use Rattle.utf8.specs.Writing.{fitted}
use Rattle.writing.specs.Decimal.{decimal_text}
use Rattle.duration.specs.declared.span.Duration.{Duration}
use Rattle.duration.specs.Duration.{out_of_range}
use Rattle.duration.specs.Unit.{Unit, units, second, day, nanos_a_milli, nanos_a_second}
use Rattle.duration.specs.Spans.{is_zero}

-- "drop what is under a millisecond (999,999 ns writes nothing)"
abbrev pub millis_of : Duration → ℕ
millis_of d = d.secs * second + d.nanos / nanos_a_milli

-- "years, then weeks, only where nothing remains; then d h m s ms": a unit longer than a day is left out where something remains
abbrev pub is_left_out : Unit → ℕ → Bool
is_left_out u remains = ltb day u.size && not (eqb remains 0)

-- "zero parts omitted"
unfoldable pub count_text : ℕ → List ℕ → List ℕ
count_text v text = cond (eqb v 0) [] (decimal_text v ++ text)

-- what is written of a unit in so many milliseconds, and how many are left then
unfoldable pub part_text : Unit → ℕ → List ℕ
part_text u ms = cond (is_left_out u (ms % u.size)) [] (count_text (ms / u.size) u.text)

unfoldable pub rest_of : Unit → ℕ → ℕ
rest_of u ms = let remains = ms % u.size in cond (is_left_out u remains) ms remains

abbrev pub written : List Unit → ℕ → List ℕ
written [] ms = []
written (u ∷ us) ms = part_text u ms ++ written us (rest_of u ms)

-- "`0s` for zero"
unfoldable pub duration_text : Duration → List ℕ
duration_text d = cond (is_zero d) (ascii "0s") (written units (millis_of d))

-- "Writing refuses nanoseconds of 1,000,000,000 and over with 54, then only 3."
unfoldable pub displaying_of : ℕ → Duration → Result ℕ Refusal
displaying_of room d = cond (leb nanos_a_second d.nanos) (Err out_of_range) (fitted room (duration_text d))
