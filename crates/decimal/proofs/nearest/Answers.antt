-- A sign goes through rounding.
use Prim.Native.Nat.{ℕ, ◌*◌, ◌^◌}
use mathlib.Core.Bool.{Bool, true, false}
use mathlib.Core.Path.{◌≡◌, ap, sym, ◌∙◌}
use lib.Ieee.{binary64, neg}
use Rattle.decimal.specs.steps.Scale.{nearest}
use Rattle.decimal.proofs.Signs.{neg_round}
use Rattle.decimal.proofs.nearest.Goals as goal

negated : (w up down : ℕ) → neg (nearest false w up down) ≡ nearest true w up down
unfolding nearest
negated w up down = neg_round binary64 false (w * 10 ^ up) (10 ^ down)

pub returns-then-negative : goal.returns-then-negative
returns-then-negative c =
    let a = c.args in
    ap neg c.magnitude-r.ensures ∙ negated a.w a.raised a.reduced ∙ ap (λ (n : Bool). nearest n a.w a.raised a.reduced) (sym c.if-negative.true)

pub returns-else-negative : goal.returns-else-negative
returns-else-negative c =
    let a = c.args in
    c.magnitude-r.ensures ∙ ap (λ (n : Bool). nearest n a.w a.raised a.reduced) (sym c.if-negative.false)
