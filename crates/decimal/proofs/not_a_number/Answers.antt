-- Zero over zero is the one NaN.
use mathlib.Core.Path.{refl}
use lib.Ieee.{div, of_bits}
use Rattle.decimal.proofs.not_a_number.Goals as goal

pub returns : goal.returns
unfolding div of_bits
returns c = refl
