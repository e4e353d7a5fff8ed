-- Eight digits at most fit 32 bits.
use Rattle.std.proofs.Common.{arith}
use Rattle.scan.proofs.byte.Classes.{digit_bound}
use Rattle.string.proofs.tile.Digits.{within}
use Rattle.string.proofs.tile.read_digits.Goals as goal

pub overflow_mul-value : goal.overflow_mul-value
overflow_mul-value c =
    let l = c.loop-i in
    omega (arith, within l.value l.i c.args.radix 0 l.invariant.small (omega arith) (omega arith) (omega arith))

pub overflow_add-value : goal.overflow_add-value
overflow_add-value c =
    let l = c.loop-i in
    omega (arith, within l.value l.i c.args.radix c.digit_of.result l.invariant.small (omega arith) (omega arith) (omega (arith, c.digit_of.ensures, digit_bound c.peek-c.result)))
