use mathlib.Core.Path.{◌≡◌}
use lib.ListN.{drop}
use Rattle.scan.specs.Digits.{value_from}
use Rattle.decimal.proofs.digits_value.Given as goal

abbrev pub invariant-loop-digit : goal.invariant-loop-digit
invariant-loop-digit l = value_from l.radix l.start l.digits ≡ value_from l.radix l.value (drop l.digit-index l.digits)
