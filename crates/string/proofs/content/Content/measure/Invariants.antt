use Rattle.std.proofs.Common.{◌-◌, length}
use Rattle.string.proofs.Passed.{Passed}
use Rattle.string.proofs.content.Content.measure.Given as goal

abbrev pub invariant-loop-from : goal.invariant-loop-from
invariant-loop-from l = Passed l.self.reading l.self.sign l.self.inner.now l.from l.n

abbrev pub decreases-loop-from : goal.decreases-loop-from
decreases-loop-from l = length l.self.inner.now - l.from
