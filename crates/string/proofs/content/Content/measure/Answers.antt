-- A turn passes a tile, and the invariant says what it is for at the end or at a bad one.
use Rattle.std.proofs.Common.{[], ◌∷◌, ◌∙◌, ap, sym, arith}
use Rattle.proving.proofs.Lists.{rest_of}
use Rattle.string.specs.Tile.{tile_of}
use Rattle.string.specs.Tiles.{piece_bytes}
use Rattle.string.proofs.Passed.{Turn, turn, turn_one, passed_none, passed_bad, passed_all}
use Rattle.string.proofs.content.Content.measure.Goals as goal
use Rattle.string.proofs.content.Content.measure.Goals.{In-Some, In-Some-unquote_char}

one : (c : In-Some) → Turn c.args.self.now.reading c.args.self.now.sign c.args.self.now.inner.now c.loop-from.from c.loop-from.n c.in-Some.one.size (c.in-Some.one.value ∷ [])
one c =
    let l = c.loop-from in
    turn_one c.args.self.now.reading c.args.self.now.sign c.args.self.now.inner.now c.args.self.now.ascii_sign l.from l.n l.invariant c.loop-from-test.true _ _ c.in-Some.ensures

several : (c : In-Some-unquote_char) → let p = c.in-Some-unquote_char.piece in Turn c.args.self.now.reading c.args.self.now.sign c.args.self.now.inner.now c.loop-from.from c.loop-from.n p.size (piece_bytes c.args.self.now.reading p.form p.value)
several c =
    let l = c.loop-from in
    let here = sym (c.unquote_char.ensures ∙ ap (tile_of c.args.self.now.sign) (rest_of c.args.self.now.inner.now l.from)) ∙ c.in-Some-unquote_char.is in
    (turn c.args.self.now.reading c.args.self.now.sign c.args.self.now.inner.now c.args.self.now.ascii_sign l.from l.n l.invariant c.loop-from-test.true _ _ _ here).0

pub loop-from-init : goal.loop-from-init
loop-from-init c = passed_none _ _ _

pub overflow_add-from : goal.overflow_add-from
overflow_add-from c = omega (arith, (one (goal.at.overflow_add-from c).In-Some).passed.within)

pub loop-from-smaller-in-Some : goal.loop-from-smaller-in-Some
loop-from-smaller-in-Some c =
    let t = one (goal.at.loop-from-smaller-in-Some c).In-Some in
    omega (arith, t.some, t.passed.within)

pub loop-from-preserved-in-Some : goal.loop-from-preserved-in-Some
loop-from-preserved-in-Some c = (one (goal.at.loop-from-preserved-in-Some c).In-Some).passed

pub returns-in_default-unquote_char : goal.returns-in_default-unquote_char
returns-in_default-unquote_char c =
    let l = c.loop-from in
    let here = sym (c.unquote_char.ensures ∙ ap (tile_of c.args.self.now.sign) (rest_of c.args.self.now.inner.now l.from)) ∙ c.in_default-unquote_char.is in
    (passed_bad c.args.self.now.reading c.args.self.now.sign c.args.self.now.inner.now c.args.self.now.ascii_sign l.from l.n l.invariant c.loop-from-test.true here).0

pub overflow_add-n-in-loop-from : goal.overflow_add-n-in-loop-from
overflow_add-n-in-loop-from c =
    let t = several (goal.at.overflow_add-n-in-loop-from c).In-Some-unquote_char in
    omega (arith, c.piece_size-n.ensures, t.passed.few, t.passed.within)

pub overflow_add-from-in-loop-from : goal.overflow_add-from-in-loop-from
overflow_add-from-in-loop-from c = omega (arith, (several (goal.at.overflow_add-from-in-loop-from c).In-Some-unquote_char).passed.within)

pub loop-from-smaller : goal.loop-from-smaller
loop-from-smaller c =
    let t = several (goal.at.loop-from-smaller c).In-Some-unquote_char in
    omega (arith, t.some, t.passed.within)

pub loop-from-preserved : goal.loop-from-preserved
loop-from-preserved c = rw c.piece_size-n.ensures (several (goal.at.loop-from-preserved c).In-Some-unquote_char).passed

pub returns : goal.returns
returns c =
    let l = c.loop-from in
    (passed_all c.args.self.now.reading c.args.self.now.sign c.args.self.now.inner.now l.from l.n l.invariant c.loop-from-test.false).0
