-- A byte whose lead is high enough takes the run one further (`run_on`); any other stops it (`run_off`), and so does the end (`run_out`).
use Rattle.std.proofs.Common.{◌∙◌, arith}
use borrow.Author.Tests.{le-leb, lt-leb}
use Rattle.munch.specs.steps.Leads.{is_from}
use Rattle.munch.proofs.Runs.{run_on, run_off, run_out}
use Rattle.munch.proofs.lead.run_length.Goals as goal

pub loop-n-preserved : goal.loop-n-preserved
loop-n-preserved c = let a = c.args in c.loop-n.invariant ∙ run_on (is_from a.leads.now a.least) a.s.now c.loop-n.n (omega arith) (le-leb _ _ c.if-leads-c.false)

pub returns-then-leads-c-clause-value : goal.returns-then-leads-c-clause-value
returns-then-leads-c-clause-value c = let a = c.args in omega (arith, c.loop-n.invariant, run_off (is_from a.leads.now a.least) a.s.now c.loop-n.n (omega arith) (lt-leb _ _ c.if-leads-c.true))

pub returns-clause-value : goal.returns-clause-value
returns-clause-value c = let a = c.args in omega (arith, c.loop-n.invariant, run_out (is_from a.leads.now a.least) a.s.now c.loop-n.n (omega arith))
