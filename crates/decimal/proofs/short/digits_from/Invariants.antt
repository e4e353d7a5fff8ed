use Prim.Native.Nat.{◌^◌, ◌<◌}
use mathlib.Core.Path.{◌≡◌}
use Rattle.decimal.specs.steps.Short.{digits_from}
use Rattle.decimal.proofs.short.digits_from.Given as goal

abbrev pub invariant-loop-end : goal.invariant-loop-end
invariant-loop-end l = (digits_from l.s l.from l.start ≡ digits_from l.s l.end l.value) × (l.value < 10 ^ l.end)
