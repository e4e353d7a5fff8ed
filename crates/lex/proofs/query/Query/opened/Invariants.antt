use Prim.Native.Nat.{◌-◌, ◌≤◌}
use lib.ListN.{length}
use Rattle.munch.specs.Munch.{mode}
use Rattle.lex.specs.steps.Pass.{inside_by, outcome_at, state}
use Rattle.lex.proofs.Turns.{Stands}
use Rattle.lex.proofs.query.Query.opened.Given as goal

abbrev pub invariant-loop-kind : goal.invariant-loop-kind
invariant-loop-kind l =
    (l.from ≤ l.at) × (l.i ≤ l.at) × Stands l.self.reading (state l.initial.kinds l.initial.starts l.initial.lengths l.initial.depths l.first (outcome_at l.self.reading l.self.text.now l.from (mode l.depth (inside_by l.braces l.initial.seen l.initial.fresh)))) l.self.text.now l.kinds l.starts l.lengths l.depths l.i l.at (mode l.depth (inside_by l.braces l.seen l.fresh))

abbrev pub decreases-loop-kind : goal.decreases-loop-kind
decreases-loop-kind l = length l.self.text.now - l.at
