-- Where an `e` stands there is a byte.
use native.Mathlib.Omega.{arith}
use mathlib.Core.Path.{sym, ◌∙◌}
use Rattle.decimal.proofs.Places.{exponent_inside}
use Rattle.decimal.proofs.past_exponent.Goals as goal

pub overflow_add-at : goal.overflow_add-at
overflow_add-at c = let a = c.args in omega (arith, exponent_inside a.s.now a.at (sym c.is_exponent.ensures ∙ c.if-is_exponent.true))
