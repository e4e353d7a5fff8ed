use Prim.Native.Nat.{◌-◌, ◌≤◌}
use lib.ListN.{length}
use Rattle.munch.specs.declared.Inside.TheVariants.{Nothing}
use Rattle.munch.specs.Munch.{mode}
use Rattle.lex.specs.Outcome.{outcome_of}
use Rattle.lex.specs.steps.Pass.{state}
use Rattle.lex.proofs.Turns.{Stands}
use Rattle.lex.proofs.query.Query.pass.Given as goal

abbrev pub invariant-loop-kind : goal.invariant-loop-kind
invariant-loop-kind l =
    (l.i ≤ l.at) × (l.depth ≤ l.at) × Stands l.self.reading (state l.initial.kinds l.initial.starts l.initial.lengths l.initial.depths 0 (outcome_of l.self.reading l.self.text.now)) l.self.text.now l.kinds l.starts l.lengths l.depths l.i l.at (mode l.depth Nothing)

abbrev pub decreases-loop-kind : goal.decreases-loop-kind
decreases-loop-kind l = length l.self.text.now - l.at
