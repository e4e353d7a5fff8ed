-- Each half of the integer is a float exactly, and so is the upper half times 2 ^ 32: only their sum rounds.
use lib.Bits.{and_mask}
use Rattle.std.proofs.Common.{lit≤}
use lib.Ieee.{binary64}
use Rattle.std.proofs.num.Nearest.{upper_in, lower_in, halves_masked, two_to_32}
use Rattle.number.proofs.whole.Goals as goal
use Rattle.number.proofs.whole.Goals.{Start}

pub int_to_float-result : goal.int_to_float-result
int_to_float-result c = upper_in binary64 32 c.args.n (lit≤ tt) c.ranges.n.fits

pub int_to_float-result-2 : goal.int_to_float-result-2
int_to_float-result-2 c =
    let n = c.args.n in
    rw (← and_mask n 32) (lower_in binary64 32 n (lit≤ tt))

pub returns : goal.returns
returns c =
    let a = (goal.at.returns c).Start in
    rw (← and_mask a.args.n 32) (halves_masked binary64 32 a.args.n _ two_to_32 (lit≤ tt) (lit≤ tt) a.ranges.n.fits)
