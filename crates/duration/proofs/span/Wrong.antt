-- The answer that each promise leaves at a telling input: a program that answers otherwise there, as the theorem's name says, cannot be
-- proved. `FUNCTION_gives` is what the promise of FUNCTION answers at arguments, which is the definition's value there.
use Prim.Native.Nat.{ℕ}
use mathlib.Core.Bool.{Bool, true, false}
use mathlib.Core.Path.{◌≡◌, ap, ◌∙◌}
use lib.IntN.{pos, negsuc}
use lib.Ieee.{Float, nan, fin, lt, le}
use Rattle.std.specs.Prelude.{None, Option, Some}
use Rattle.proving.proofs.One.{Answers}
use Rattle.duration.specs.declared.span.Duration.{Duration}
use Rattle.duration.specs.Spans.{from_secs, is_zero, two_to64}
use Rattle.duration.proofs.span.is_zero.Kinds as is_zero_kinds
use Rattle.duration.proofs.span.is_zero.Reads as is_zero_reads
use Rattle.duration.proofs.span.from_secs_f64.Kinds as from_secs_f64
use Rattle.duration.proofs.span.from_secs_f64.Reads as from_secs_f64_reads

abbrev duration : ℕ → ℕ → Duration
duration s n = record { secs = s; nanos = n }

abbrev is_zero_gives : Duration → Bool → Type 0
is_zero_gives d v = Answers is_zero_kinds.ps is_zero_kinds.r is_zero_reads.Post (λ κs a. a.0 ≡ d) (λ κs. v)

is_zero_at_gives : (d : Duration) → is_zero_gives d (is_zero d)
is_zero_at_gives d κs a x e p h = p ∙ ap is_zero h

pub nanosecond_is_not_nothing : is_zero_gives (duration 0 1) false
nanosecond_is_not_nothing = is_zero_at_gives _

pub second_is_not_nothing : is_zero_gives (duration 1 0) false
second_is_not_nothing = is_zero_at_gives _

pub no_seconds_and_no_nanoseconds_are_nothing : is_zero_gives (duration 0 0) true
no_seconds_and_no_nanoseconds_are_nothing = is_zero_at_gives _

abbrev from_secs_f64_gives : Float → Option Duration → Type 0
from_secs_f64_gives x v = Answers from_secs_f64.ps from_secs_f64.r from_secs_f64_reads.Post (λ κs a. a.0 ≡ x) (λ κs. v)

from_secs_f64_at : (x : Float) → from_secs_f64_gives x (from_secs x)
from_secs_f64_at x κs a y e p h = p ∙ ap from_secs h

-- 2^-30 seconds are 0.93 nanoseconds
pub more_than_half_a_nanosecond_is_rounded_up : from_secs_f64_gives (fin false 1 (negsuc 29)) (Some (duration 0 1))
unfolding lt le
more_than_half_a_nanosecond_is_rounded_up = from_secs_f64_at _

-- 2^-31 seconds are 0.47 nanoseconds
pub less_than_half_a_nanosecond_is_dropped : from_secs_f64_gives (fin false 1 (negsuc 30)) (Some (duration 0 0))
unfolding lt le
less_than_half_a_nanosecond_is_dropped = from_secs_f64_at _

-- 1/1024 of a second is 976,562.5 nanoseconds
pub tie_goes_down_to_an_even_number : from_secs_f64_gives (fin false 1 (negsuc 9)) (Some (duration 0 976562))
unfolding lt le
tie_goes_down_to_an_even_number = from_secs_f64_at _

-- 3/1024 of a second are 2,929,687.5 nanoseconds
pub tie_goes_up_to_an_even_number : from_secs_f64_gives (fin false 3 (negsuc 9)) (Some (duration 0 2929688))
unfolding lt le
tie_goes_up_to_an_even_number = from_secs_f64_at _

pub two_to_64_is_refused : from_secs_f64_gives two_to64 None
unfolding lt le
two_to_64_is_refused = from_secs_f64_at _

-- 2^64 - 2^11 seconds
pub greatest_below_two_to_64_is_taken : from_secs_f64_gives (fin false 0x1fffffffffffff (pos 11)) (Some (duration 0xfffffffffffff800 0))
unfolding lt le
greatest_below_two_to_64_is_taken = from_secs_f64_at _

pub negative_second_is_refused : from_secs_f64_gives (fin true 1 (pos 0)) None
unfolding lt le
negative_second_is_refused = from_secs_f64_at _

pub negative_zero_is_no_time : from_secs_f64_gives (fin true 0 (pos 0)) (Some (duration 0 0))
unfolding lt le
negative_zero_is_no_time = from_secs_f64_at _

pub nan_is_refused : from_secs_f64_gives nan None
unfolding lt le
nan_is_refused = from_secs_f64_at _
