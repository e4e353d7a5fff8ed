-- The run from `from` ends where the one from the n-th byte does.
use mathlib.Core.Path.{◌≡◌}
use Rattle.scan.specs.Byte.{is_in}
use Rattle.scan.specs.Run.{run_end}
use Rattle.scan.proofs.run_end.Given as goal

abbrev pub invariant-loop-n : goal.invariant-loop-n
invariant-loop-n l = run_end (is_in l.k) l.s l.from ≡ run_end (is_in l.k) l.s l.n
