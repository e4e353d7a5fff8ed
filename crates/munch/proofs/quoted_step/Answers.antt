-- A string, or its refusal, ends within its bytes (`string_ends`).
use Rattle.std.proofs.Common.{arith}
use Rattle.munch.proofs.Ends.{string_ends}
use Rattle.munch.proofs.quoted_step.Goals as goal

pub overflow_add-n : goal.overflow_add-n
overflow_add-n c = let a = c.args in omega (arith, rw (← c.accept_string.ensures, c.in-Ok.is) at (string_ends a.reading a.s.now c.requires))

pub overflow_add-fault : goal.overflow_add-fault
overflow_add-fault c = let a = c.args in omega (arith, rw (← c.accept_string.ensures, c.in-Err.is) at (string_ends a.reading a.s.now c.requires))
