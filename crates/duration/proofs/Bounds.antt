-- How far the refusals of a duration reach: they are those of its text's admission, 1 and 2, at places within it, and 50 to 54, at none.
use Prim.Native.Nat.{ℕ}
use native.Mathlib.Omega.{arith}
use mathlib.Core.Bool.{true, false, ◌&&◌}
use mathlib.Core.List.{List}
use mathlib.Core.Path.{subst}
use lib.Dec.{eqb}
use lib.ListN.{length}
use Rattle.utf8.specs.declared.Refusal.{Refusal}
use Rattle.duration.specs.declared.span.Duration.{Duration}
use Rattle.utf8.specs.declared.CharNumber.{CharNumber}
use Rattle.std.specs.Prelude.{Err, None, Ok, Option, Result, Some}
use Rattle.scan.specs.Ascii.{ascii}
use Rattle.scan.specs.Text.{same_text}
use Rattle.proving.proofs.Choice.{either}
use Rattle.utf8.specs.Answers.{admitted}
use Rattle.utf8.specs.laws.Bounds as within
use Rattle.utf8.proofs.Bounds.{admitted_bound}
use Rattle.decimal.specs.declared.Decimal.{Decimal}
use Rattle.decimal.specs.declared.Decimal.TheVariants.{NotDecimal, Named, Exact, Outside}
use Rattle.decimal.specs.Value.{decimal_limit, decimal_of}
use Rattle.duration.specs.Spans.{is_zero, from_secs}
use Rattle.duration.specs.declared.units.Sum.{Sum}
use Rattle.duration.specs.Units.{units_of}
use Rattle.duration.specs.laws.Refusals.{TimingBound}
use Rattle.duration.specs.declared.Oversized.{Oversized}
use Rattle.duration.specs.Duration.{converted, refuses_oversized, units_read, timed_decimal, duration_read, timing_for, timing_by}

abbrev Bounded : Result Duration Refusal → Type 0
Bounded (Ok d) = Unit {0}
Bounded (Err r) = within.Placed 55 decimal_limit r

timed_bound : (t : Option Duration) → Bounded (converted t)
timed_bound (Some d) = tt
timed_bound None = omega arith

units_bound : (o : Oversized) (u : Option Sum) → Bounded (units_read o u)
units_bound o (Some s) = either Bounded (refuses_oversized o && s.oversized) (λ e. omega arith) (λ e. either Bounded (is_zero s.lasts) (λ e. omega arith) (λ e. tt))
units_bound o None = omega arith

decimal_bound : (o : Oversized) (xs : List ℕ) (d : Decimal) → Bounded (timed_decimal o xs d)
decimal_bound o xs NotDecimal = units_bound o (units_of xs)
decimal_bound o xs (Named n) = omega arith
decimal_bound o xs (Exact n) = timed_bound (from_secs n.value)
decimal_bound o xs (Outside true) = omega arith
decimal_bound o xs (Outside false) = omega arith

read_bound : (o : Oversized) (xs : List ℕ) → Bounded (duration_read o xs)
unfolding duration_read
read_bound o xs =
    either Bounded (eqb (length xs) 0) (λ e. omega arith)
    (λ e. either Bounded (same_text xs (ascii "0")) (λ e. omega arith) (λ e. decimal_bound o xs (decimal_of xs)))

bound : (o : Oversized) (xs : List ℕ) → Bounded (timing_by o xs)
unfolding timing_by
bound o xs = go (admitted decimal_limit xs) (admitted_bound decimal_limit xs)
  where
    go : (a : Result CharNumber Refusal) → within.Bounded decimal_limit a → Bounded (timing_for o a xs)
    go (Ok n) h = read_bound o xs
    go (Err r) h = omega (arith, h.number, h.byte, h.character)

pub timing_bound : TimingBound
timing_bound o xs r e = let p = subst Bounded e (bound o xs) in (p.number, p.byte, p.character)
