-- Each turn looks for the part of the next unit (`Steps`), and no unit is longer than a year.
use Rattle.std.proofs.Common.{◌≤◌, get_or, sym, ◌∙◌, arith}
use Rattle.duration.specs.declared.unit.Unit.TheVariants.{Year}
use Rattle.duration.specs.Unit.{year}
use Rattle.duration.specs.Units.{most_counted}
use Rattle.proving.proofs.Lists.{rest_of}
use Rattle.duration.proofs.units.Parts.{counted_most, seconds_fit, millis_fit}
use Rattle.duration.proofs.units.Steps.{all, next, stepped, passed, unit_few, no_units, all_units}
use Rattle.duration.proofs.units.read_units.Goals as goal
use Rattle.duration.proofs.units.read_units.Goals.{After-size}

few : (c : After-size) → c.counted-number.result ≤ most_counted
few c = omega (arith, c.counted-number.ensures, counted_most c.in-Some.part.number)

short : (c : After-size) → c.size.result ≤ year
short c = omega (arith, c.size.ensures, unit_few (get_or all c.loop-unit.unit-index Year))

pub loop-unit-preserved-in_default : goal.loop-unit-preserved-in_default
loop-unit-preserved-in_default c = passed (next c.loop-unit.unit-index c.loop-unit-test.true c.loop-unit.invariant) c.in_default.ensures

pub overflow_mul-secs : goal.overflow_mul-secs
overflow_mul-secs c = omega (arith, seconds_fit c.size.result c.counted-number.result (few c) (short c))

pub overflow_add-secs : goal.overflow_add-secs
overflow_add-secs c = omega (arith, c.loop-unit.invariant.secs_few, seconds_fit c.size.result c.counted-number.result (few c) (short c))

pub overflow_add-millis : goal.overflow_add-millis
overflow_add-millis c = omega (arith, c.loop-unit.invariant.millis_few, millis_fit c.size-in-loop-unit.result c.counted-number.result (omega (arith, c.counted-number.ensures, counted_most c.in-Some.part.number)))

pub loop-unit-preserved : goal.loop-unit-preserved
loop-unit-preserved c =
    let s = stepped (next c.loop-unit.unit-index c.loop-unit-test.true c.loop-unit.invariant) c.in-Some.part (unit_few (get_or all c.loop-unit.unit-index Year)) c.in-Some.ensures in
    rw (rest_of c.loop-unit.rest.now c.in-Some.part.size, c.counted-number.ensures, c.size.ensures, c.size-in-loop-unit.ensures) s

pub returns-then-not-is_empty : goal.returns-then-not-is_empty
returns-then-not-is_empty c = no_units c.loop-unit.invariant c.loop-unit.auto.unit-index-end c.loop-unit-test.false (sym c.is_empty.ensures ∙ c.if-not-is_empty.true)

pub returns : goal.returns
returns c = rw c.lasting.ensures (all_units c.loop-unit.invariant c.loop-unit.auto.unit-index-end c.loop-unit-test.false (sym c.is_empty.ensures ∙ c.if-not-is_empty.false))
