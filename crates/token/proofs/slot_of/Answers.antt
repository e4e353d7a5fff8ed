-- The first and the last letter are bytes, in lower case too.
use Rattle.std.proofs.Common.{rules, ◌<◌, arith}
use Rattle.scan.proofs.byte.Classes.{lowered_below}
use Rattle.token.proofs.slot_of.Goals as goal
use Rattle.token.proofs.slot_of.Goals.{After-lowered-last}

module _ (c : After-lowered-last) where
  first_few : c.lowered-first.result < 256
  first_few = rw c.lowered-first.ensures (lowered_below _ 256 (omega arith) (search rules))

  last_few : c.lowered-last.result < 256
  last_few = rw c.lowered-last.ensures (lowered_below _ 256 (omega arith) (search rules))

pub overflow_mul-result : goal.overflow_mul-result
overflow_mul-result c = omega (arith, first_few c)

pub overflow_add-result : goal.overflow_add-result
overflow_add-result c = omega (arith, first_few c, last_few c)

pub overflow_add-result-2 : goal.overflow_add-result-2
overflow_add-result-2 c = omega (arith, first_few c, last_few c)
