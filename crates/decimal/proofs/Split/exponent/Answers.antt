-- The digits of the exponent lie within the text.
use Rattle.decimal.proofs.Places.{ordered}
use Rattle.decimal.proofs.Split.exponent.Goals as goal

pub value_between-requires : goal.value_between-requires
value_between-requires c = let s = c.args.self in let o = ordered s.text.now s.parts s.lies in (o.exponent, o.exponent_in)
