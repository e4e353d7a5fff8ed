-- Each place is where the one before it leads, within the text.
use native.Mathlib.Omega.{arith}
use mathlib.Core.Path.{◌≡◌, ap, ◌∙◌}
use Rattle.scan.specs.declared.byte.Class.TheVariants.{Digit}
use Rattle.scan.specs.Byte.{is_in}
use Rattle.scan.specs.Run.{run_end}
use Rattle.decimal.specs.Grammar.{past_point, whole_to, fraction_from, fraction_to}
use Rattle.decimal.proofs.Places.{whole_within, fraction_within}
use Rattle.decimal.proofs.parts_of.Goals as goal
use Rattle.decimal.proofs.parts_of.Goals.{After-past_point-fraction_from, After-run_end-fraction_to, After-run_end-whole_to}

whole : (c : After-run_end-whole_to) → c.run_end-whole_to.result ≡ whole_to c.args.s.now
whole c = c.run_end-whole_to.ensures ∙ ap (run_end (is_in Digit) c.args.s.now) c.past_sign-whole_from.ensures

pub past_point-fraction_from-requires : goal.past_point-fraction_from-requires
past_point-fraction_from-requires c = omega (arith, whole c, whole_within c.args.s.now)

fraction : (c : After-past_point-fraction_from) → c.past_point-fraction_from.result ≡ fraction_from c.args.s.now
fraction c = c.past_point-fraction_from.ensures ∙ ap (past_point c.args.s.now) (whole (goal.at.After-past_point-fraction_from c).After-run_end-whole_to)

fraction_end : (c : After-run_end-fraction_to) → c.run_end-fraction_to.result ≡ fraction_to c.args.s.now
fraction_end c = c.run_end-fraction_to.ensures ∙ ap (run_end (is_in Digit) c.args.s.now) (fraction (goal.at.After-run_end-fraction_to c).After-past_point-fraction_from)

pub past_exponent-exponent_from-requires : goal.past_exponent-exponent_from-requires
past_exponent-exponent_from-requires c = omega (arith, fraction_end c, fraction_within c.args.s.now)
