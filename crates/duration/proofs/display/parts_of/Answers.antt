-- Years and weeks leave what they are not written of, and the units below them divide what is left.
use mathlib.Core.Path.{◌≡◌, refl, sym, ap, ◌∙◌}
use native.Mathlib.Omega.{arith}
use Prim.Native.Nat.{◌+◌, ◌-◌, ◌*◌, ◌/◌, ◌%◌}
use lib.ListN.{drop}
use Rattle.duration.specs.Unit.{unit, units, second, day, week, year, nanos_a_milli}
use Rattle.duration.specs.Display.{millis_of}
use Rattle.duration.specs.steps.Display.{whole_of}
use Rattle.duration.proofs.display.Days.{whole_unit, below_weeks}
use Rattle.duration.proofs.display.parts_of.Goals as goal

pub returns : goal.returns
returns c =
    let d = c.args.duration in
    let ms = millis_of d in
    let years = c.whole-years.result in
    let weeks = c.whole-weeks.result in
    let all = d.secs / (day / second) in
    let left = all - years * (year / day) in
    let days = left - weeks * (week / day) in
    let under = d.secs % (day / second) * second + d.nanos / nanos_a_milli in
    let start : ms ≡ all * day + under = omega arith in
    let behind : ms - years * year ≡ left * day + under = omega (arith, c.whole-years.ensures.1) in
    let below : ms - years * year - weeks * week ≡ days * day + under = omega (arith, c.whole-weeks.ensures.1, behind) in
    sym
    (whole_unit (unit "y" year) (drop 1 units) ms refl (c.whole-years.ensures.0 ∙ ap (whole_of year) (sym start))
    ∙ rw (whole_unit (unit "w" week) (drop 2 units) (ms - years * year) refl (c.whole-weeks.ensures.0 ∙ ap (whole_of week) (sym behind)), below, below_weeks days under (omega arith)))
