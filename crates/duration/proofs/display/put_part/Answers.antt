-- The unit is stored behind its count, and there is room for both.
use mathlib.Core.Path.{ap}
use native.Mathlib.Omega.{arith}
use lib.ListN.{length, length-append}
use Rattle.writing.specs.Decimal.{decimal_text}
use Rattle.duration.specs.steps.Units.{unit_of}
use Rattle.duration.proofs.display.Steps.{stored_put, stored_on, counted_some}
use Rattle.duration.proofs.display.put_part.Goals as goal

pub returns : goal.returns
returns c =
    let a = c.args in
    let text = (unit_of a.unit).text in
    let some = counted_some a.count text c.if-count-eq0.false in
    let size = length-append (decimal_text a.count) text in
    let d = c.put_decimal-next in
    let s = stored_put (decimal_text a.count) a.out.now a.at {r = d.result} {e = d.new.out} (omega (arith, ap length some)) (d.ensures.value, d.ensures.out_after) in
    rw some (stored_on s (stored_put text d.new.out d.result (omega (arith, ap length some, s.past, d.auto.out)) (rw (← c.text.ensures) (c.put_text.ensures.value, c.put_text.ensures.out_after))))
