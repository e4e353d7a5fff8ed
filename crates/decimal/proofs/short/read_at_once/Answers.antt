-- What is told in one walk is so, and what is not is read as any text is.
use mathlib.Core.Path.{sym, ap, subst, ◌∙◌}
use Rattle.decimal.specs.declared.Decimal.TheVariants.{Exact}
use Rattle.decimal.specs.steps.Short.{Tells}
use Rattle.decimal.proofs.short.read_at_once.Goals as goal
use Rattle.decimal.proofs.short.read_at_once.Goals.{After-read_short-r}

pub returns-in-Value : goal.returns-in-Value
returns-in-Value c =
    let d = (goal.at.returns-in-Value c).After-read_short-r in
    ap Exact c.plain.ensures ∙ sym (subst (Tells d.args.s.now) c.in-Value.is d.read_short-r.ensures)

pub returns-in-NotDecimal : goal.returns-in-NotDecimal
returns-in-NotDecimal c =
    let d = (goal.at.returns-in-NotDecimal c).After-read_short-r in
    sym (subst (Tells d.args.s.now) c.in-NotDecimal.is d.read_short-r.ensures)
