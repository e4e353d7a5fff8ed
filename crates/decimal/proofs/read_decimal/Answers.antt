-- Too long, a numeral, or a name or none. A numeral is no name, so that it may come first.
use native.Mathlib.Omega.{arith}
use mathlib.Core.Path.{sym, ap, ◌∙◌}
use lib.ListN.{length}
use borrow.Author.Tests.{lt-ltb}
use Rattle.decimal.specs.Grammar.{is_numeral}
use Rattle.decimal.specs.Value.{decimal_limit, numeral_read, decimal_of}
use Rattle.decimal.proofs.Given as given
use Rattle.decimal.proofs.read_decimal.Goals as goal

pub returns-then-s-gt-LIMIT : goal.returns-then-s-gt-LIMIT
unfolding decimal_of
returns-then-s-gt-LIMIT c = rw (lt-ltb decimal_limit (length c.args.s.now) c.if-s-gt-LIMIT.true)

pub returns-then-is_numeral : goal.returns-then-is_numeral
returns-then-is_numeral c =
    let e = c.new-split.ensures in
    c.numeral.ensures
    ∙ ap numeral_read e
    ∙ sym (given.numeral c.args.s.now (omega (arith, c.if-s-gt-LIMIT.false)) (ap is_numeral (sym e) ∙ sym c.is_numeral.ensures ∙ c.if-is_numeral.true))
