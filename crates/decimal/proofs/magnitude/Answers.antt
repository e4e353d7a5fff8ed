-- The casts are exact up to 2^53, and so is each power of the table, so that the one operation rounds the exact value.
use mathlib.Core.Bool.{false}
use mathlib.Core.Path.{ap, ◌∙◌}
use Prim.Native.Nat.{◌-◌}
use native.Mathlib.Omega.{arith}
use lib.IntN.{pos}
use lib.Ieee.{binary64, mul, div, of_int}
use Rattle.decimal.specs.steps.Scale.{nearest}
use Rattle.decimal.proofs.Values.{times, over, raise, reduce}
use Rattle.decimal.proofs.magnitude.Goals as goal
use Rattle.decimal.proofs.magnitude.Goals.{Start}

pub returns-then-reduced-raised : goal.returns-then-reduced-raised
unfolding nearest
returns-then-reduced-raised c =
    let s = (goal.at.returns-then-reduced-raised c).Start in
    let a = s.args in
    let e = a.raised - a.reduced in
    ap (mul binary64 (of_int binary64 (pos a.w))) c.power.ensures ∙ times a.w e s.requires.0 ∙ raise false a.w a.raised a.reduced c.if-reduced-raised.true

pub returns : goal.returns
unfolding nearest
returns c =
    let s = (goal.at.returns c).Start in
    let a = s.args in
    let e = a.reduced - a.raised in
    ap (div binary64 (of_int binary64 (pos a.w))) c.power-2.ensures ∙ over a.w e s.requires.0 ∙ reduce false a.w a.raised a.reduced (omega (arith, c.if-reduced-raised.false))
