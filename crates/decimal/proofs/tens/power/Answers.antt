-- The entry is that of the table of powers.
use native.Mathlib.Omega.{arith}
use Rattle.decimal.proofs.Powers.{power_at}
use Rattle.decimal.proofs.tens.power.Goals as goal

pub returns : goal.returns
returns c = power_at c.args.e (omega arith)
