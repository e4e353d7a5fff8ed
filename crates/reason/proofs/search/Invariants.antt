use Prim.Native.Nat.{◌-◌}
use lib.ListN.{length}
use Rattle.reason.proofs.Looks.{Looks}
use Rattle.reason.proofs.search.Given as goal

abbrev pub invariant-loop-length : goal.invariant-loop-length
invariant-loop-length l = Looks l.reading l.query l.wanted l.at l.i l.mode l.found

abbrev pub decreases-loop-length : goal.decreases-loop-length
decreases-loop-length l = length l.query - l.at
