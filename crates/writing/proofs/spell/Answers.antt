-- The invariant: the digits of the number are those of the rest and those written. There is room for the rest, by the powers of ten.
use Rattle.writing.proofs.Decimals.{spelled_more, spelled_all}
use Rattle.writing.proofs.spell.Goals as goal

pub loop-rest-preserved : goal.loop-rest-preserved
loop-rest-preserved c = spelled_more c.loop-rest.invariant c.loop-rest-test.true c.digit_for.ensures

pub returns-clause-digits_after : goal.returns-clause-digits_after
returns-clause-digits_after c = spelled_all c.loop-rest.invariant c.loop-rest-test.false c.digit_for-2.ensures
