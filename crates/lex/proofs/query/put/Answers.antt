-- Where there is no room a store changes nothing.
use native.Mathlib.Omega.{arith}
use mathlib.Core.Path.{refl, sym}
use lib.Seq.{set_out}
use Rattle.lex.proofs.query.put.Goals as goal

pub returns-then-i-kinds : goal.returns-then-i-kinds
returns-then-i-kinds c = record {
  kinds_after = refl;
  starts_after = refl;
  lengths_after = refl;
  depths_after = refl;
}

pub returns-else-i-kinds : goal.returns-else-i-kinds
returns-else-i-kinds c = record {
  kinds_after = sym (set_out _ _ _ (omega arith));
  starts_after = sym (set_out _ _ _ (omega arith));
  lengths_after = sym (set_out _ _ _ (omega arith));
  depths_after = sym (set_out _ _ _ (omega arith));
}
