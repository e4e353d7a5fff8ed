-- Each part is stored behind those before it, and there is room for all of them.
use Rattle.std.proofs.Common.{◌<◌, ◌≤◌, ◌≡◌, length, sym, ap, ◌∙◌, arith}
use Rattle.std.proofs.lemmas.List.{take_all}
use Rattle.std.proofs.lemmas.List.Folds.{length-flat_map-take}
use Rattle.std.specs.List.{flat_map}
use Rattle.scan.specs.Ascii.{ascii}
use Rattle.duration.specs.Display.{duration_text}
use Rattle.duration.specs.steps.Display.{counted_text}
use Rattle.duration.proofs.display.Steps.{no_part, stored_put, stored_front, stored_more, text_zero, text_written}
use Rattle.duration.proofs.display.put_duration.Goals as goal
use Rattle.duration.proofs.display.put_duration.Goals.{After-parts_of-count-items}

pub returns-then-is_zero : goal.returns-then-is_zero
returns-then-is_zero c =
    let t = text_zero c.args.duration (sym c.is_zero.ensures ∙ c.if-is_zero.true) in
    let room : 2 ≤ length c.args.out.now = omega (arith, ap length t, c.requires.fits) in
    let s = stored_put (ascii "0s") c.args.out.now 0 room (c.put_text.ensures.value, c.put_text.ensures.out_after) in
    record { within = omega (arith, s.past); text = rw t (stored_front s room) }

all : (c : After-parts_of-count-items) → flat_map counted_text c.parts_of-count-items.result ≡ duration_text c.args.duration
all c = c.parts_of-count-items.ensures ∙ sym (text_written c.args.duration (sym c.is_zero.ensures ∙ c.if-is_zero.false))

pub put_part-at-requires : goal.put_part-at-requires
put_part-at-requires c =
    let h : c.loop-count.count-index < length c.parts_of-count-items.result = omega arith in
    let l = length-flat_map-take counted_text c.parts_of-count-items.result c.loop-count.count-index no_part h in
    omega (arith, c.loop-count.invariant.past, l, ap length (all (goal.at.put_part-at-requires c).After-parts_of-count-items))

pub loop-count-preserved : goal.loop-count-preserved
loop-count-preserved c = stored_more counted_text c.parts_of-count-items.result c.loop-count.count-index no_part (omega arith) c.loop-count.invariant c.put_part-at.ensures

pub returns : goal.returns
returns c =
    let e = all (goal.at.returns c).After-parts_of-count-items in
    let t = take_all c.loop-count.count-index c.parts_of-count-items.result (omega arith) in
    let s = rw (t, e) at c.loop-count.invariant in
    record { within = omega (arith, s.past, c.requires.fits); text = stored_front s c.requires.fits }
