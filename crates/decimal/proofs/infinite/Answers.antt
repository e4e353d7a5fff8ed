-- The infinity of each sign.
use mathlib.Core.Path.{sym, ap}
use lib.Ieee.{inf, div, neg, of_bits}
use Rattle.decimal.proofs.infinite.Goals as goal

pub returns-then-negative : goal.returns-then-negative
unfolding div neg of_bits
returns-then-negative c = ap inf (sym c.if-negative.true)

pub returns-else-negative : goal.returns-else-negative
unfolding div neg of_bits
returns-else-negative c = ap inf (sym c.if-negative.false)
