-- The zero of each sign.
use mathlib.Core.Path.{sym, ap}
use mathlib.Core.Bool.{Bool}
use lib.IntN.{pos}
use lib.Ieee.{fin, neg, of_bits}
use Rattle.decimal.proofs.zero.Goals as goal

pub returns-then-negative : goal.returns-then-negative
unfolding neg of_bits
returns-then-negative c = ap (λ (s : Bool). fin s 0 (pos 0)) (sym c.if-negative.true)
