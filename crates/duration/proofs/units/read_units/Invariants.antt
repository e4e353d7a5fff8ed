use Rattle.std.proofs.Common.{map, drop}
use Rattle.duration.specs.steps.Units.{unit_of}
use Rattle.duration.proofs.units.Steps.{Reached}
use Rattle.duration.proofs.units.read_units.Given as goal

abbrev pub invariant-loop-unit : goal.invariant-loop-unit
invariant-loop-unit l = Reached l.s (map unit_of (drop l.unit-index l.unit-items)) l.unit-index l.rest l.secs l.millis l.oversized
