-- A number of seconds as a duration: document 01, "A decimal text's f64 is seconds, rounded to the nearest nanosecond, ties to even".
use Rattle.std.specs.Prelude.{ℕ, ◌*◌, ◌/◌, ◌%◌, Bool, false, cond, ◌&&◌, eqb, pos, negsuc, Float, None, Option, Some}
use Rattle.std.specs.Float.{fin}
use Rattle.std.specs.Float.Ieee.{lt, le}
use Rattle.std.specs.Float.Ieee.Nearest.{closest}
use Rattle.std.specs.Float.Ieee.Positive.{num, den}
use Rattle.duration.specs.Unit.{nanos_a_second}
use Rattle.duration.specs.declared.span.Duration.{Duration}

-- 2 ^ -31, below which a number of seconds is less than half a nanosecond; and 2 ^ 64
abbrev pub least_timed : Float
least_timed = fin false 1 (negsuc 30)

abbrev pub two_to64 : Float
two_to64 = fin false 1 (pos 64)

-- the nanoseconds nearest to x seconds, a tie to the even number: x is num x / den x
abbrev pub nanos_of : Float → ℕ
nanos_of x = closest (num x * nanos_a_second) (den x)

abbrev pub duration_at : ℕ → Duration
duration_at n = record { secs = n / nanos_a_second; nanos = n % nanos_a_second }

-- a NaN, what is below zero, and what is 2 ^ 64 or more, an infinity among them, are refused
abbrev pub from_secs : Float → Option Duration
from_secs x = cond (lt x two_to64 && le (fin false 0 (pos 0)) x) (Some (duration_at (nanos_of x))) None

-- no time at all
abbrev pub is_zero : Duration → Bool
is_zero d = eqb d.secs 0 && eqb d.nanos 0
