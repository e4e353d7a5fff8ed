-- Laws of the test of texts: it is equality, as std has it, so it is false where the lengths differ, and goes byte by byte.
use native.Mathlib.Numerals.{add-one}
use mathlib.Core.Path.{ap}
use lib.ListN.{length, drop_of_length-le}
use lib.Pointwise.{bytes_decides}
use lib.Seq.{drop-cons}
use Rattle.std.proofs.lemmas.Bool.{false_from_ne_true}
use Rattle.scan.specs.Text.{same_text}
use Rattle.scan.specs.laws.Text.{SameIsEqual, SameNot, SameTurn, SameOut}

pub same_is_equal : SameIsEqual
unfolding same_text
same_is_equal = bytes_decides

pub same_not : SameNot
same_not xs ys h = false_from_ne_true _ (λ e. h (ap length ((same_is_equal xs ys).0 e)))

pub same_turn : SameTurn
unfolding same_text
same_turn xs ys i h k = rw (drop-cons xs i 0 h, drop-cons ys i 0 k, add-one)

pub same_out : SameOut
unfolding same_text
same_out xs ys i h k = rw (drop_of_length-le xs h, drop_of_length-le ys k)
