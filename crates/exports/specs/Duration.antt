-- What the C function that reads a duration answers, and what it leaves in what was lent, by cases over `duration`'s answer; and the
-- duration that the one that writes it is given.
use Rattle.utf8.specs.declared.Refusal.{Refusal}
use Rattle.std.specs.Prelude.{ℕ, Err, Ok, Result}
use Rattle.duration.specs.declared.span.Duration.{Duration}
use Rattle.exports.specs.Packed.{packed_of}

-- 0, or the refusal
abbrev pub duration_code : Result Duration Refusal → ℕ
duration_code (Ok d) = 0
duration_code (Err r) = packed_of r

-- what `secs` and `nanos` hold then
abbrev pub secs_left : Result Duration Refusal → ℕ → ℕ
secs_left (Ok d) old = d.secs
secs_left (Err r) old = old

abbrev pub nanos_left : Result Duration Refusal → ℕ → ℕ
nanos_left (Ok d) old = d.nanos
nanos_left (Err r) old = old

abbrev pub duration_of : ℕ → ℕ → Duration
duration_of s n = record { secs = s; nanos = n }
