-- A NaN, and only a NaN, differs from itself: an infinity has its sign, and a finite value its magnitude.
use Prim.Native.Nat.{◌*◌}
use mathlib.Core.Bool.{true, false}
use mathlib.Core.Path.{◌≡◌, refl, ◌∙◌}
use lib.Ieee.{Float, nan, inf, fin, up, down, ne, is_nan}
use borrow.Author.Tests.{eq-eqb}
use Rattle.decimal.specs.Value.{bits_of}
use Rattle.decimal.proofs.bits_of.Goals as goal

nan_is : (x : Float) → is_nan x ≡ ne x x
unfolding ne is_nan
nan_is nan = refl
nan_is (inf true) = refl
nan_is (inf false) = refl
nan_is (fin true m e) = rw (eq-eqb (m * up e * down e) (m * up e * down e) refl)
nan_is (fin false m e) = rw (eq-eqb (m * up e * down e) (m * up e * down e) refl)

pub returns-then-value : goal.returns-then-value
unfolding bits_of
returns-then-value c = rw (nan_is c.args.value ∙ c.if-value.true)

pub float_to_bits-result : goal.float_to_bits-result
float_to_bits-result c = rw (nan_is c.args.value ∙ c.if-value.false) tt

pub returns : goal.returns
unfolding bits_of
returns c = rw (nan_is c.args.value ∙ c.if-value.false)
