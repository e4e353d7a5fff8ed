-- The bytes that are left, read behind the part that was read last, say what the duration is.
use Rattle.std.proofs.Common.{◌≡◌, drop}
use Rattle.numeral.specs.declared.Part.{Part}
use Rattle.numeral.specs.Numeral.{duration_from}
use Rattle.numeral.proofs.duration.Given as goal

abbrev pub invariant-loop-n : goal.invariant-loop-n
invariant-loop-n l = duration_from Part.Unit l.from (drop l.from l.s) ≡ duration_from l.part l.n (drop l.n l.s)
