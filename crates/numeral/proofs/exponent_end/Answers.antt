-- Where an `e` stands there, there is a byte.
use native.Mathlib.Omega.{arith}
use mathlib.Core.Path.{sym, ap, ◌∙◌}
use borrow.Author.Tests.{eq-eqb}
use Rattle.scan.specs.Byte.{lowered}
use Rattle.scan.proofs.Edges.{ascii_inside}
use Rattle.numeral.proofs.Within.{letter_ascii}
use Rattle.numeral.proofs.exponent_end.Goals as goal
use Rattle.numeral.proofs.exponent_end.Goals.{After-lowered}

pub overflow_add-at : goal.overflow_add-at
overflow_add-at c =
    let b = (goal.at.overflow_add-at c).After-lowered in
    let a = b.args in
    omega (arith, ascii_inside a.s.now a.at (letter_ascii _ (eq-eqb _ _ (ap lowered (sym b.peek.ensures) ∙ sym b.lowered.ensures ∙ c.if-lowered.true))))
