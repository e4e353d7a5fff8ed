-- The run from the first byte ends where the one from the n-th does.
use Rattle.std.proofs.Common.{◌≡◌}
use Rattle.scan.specs.Run.{run_end}
use Rattle.munch.specs.steps.Leads.{is_from}
use Rattle.munch.proofs.lead.run_length.Given as goal

abbrev pub invariant-loop-n : goal.invariant-loop-n
invariant-loop-n l = run_end (is_from l.leads l.least) l.s 0 ≡ run_end (is_from l.leads l.least) l.s l.n
