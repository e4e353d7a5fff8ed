-- A turn passes a tile and writes what it gives, and the invariant says what it is for at the end or at a bad one.
use Rattle.std.proofs.Common.{[], ◌∷◌, ◌≡◌, ◌∙◌, ap, sym, refl, arith, true}
use mathlib.Core.Bool.{true≢false}
use lib.ListN.{length-set}
use Rattle.proving.proofs.Lists.{rest_of}
use Rattle.string.specs.Tile.{is_allowed, tile_of}
use Rattle.string.specs.Tiles.{piece_bytes}
use Rattle.string.proofs.Passed.{Turn, turn, turn_one, passed_none, passed_bad, passed_all}
use Rattle.string.proofs.content.Content.write_pieces.Goals as goal
use Rattle.string.proofs.content.Content.write_pieces.Goals.{In-Some, In-Some-unquote_char}

one : (c : In-Some) → Turn c.args.self.now.reading c.args.self.now.sign c.args.self.now.inner.now c.loop-from.from c.loop-from.at c.in-Some.one.size (c.in-Some.one.value ∷ [])
one c =
    let l = c.loop-from in
    turn_one c.args.self.now.reading c.args.self.now.sign c.args.self.now.inner.now c.args.self.now.ascii_sign l.from l.at l.invariant.passed c.loop-from-test.true _ _ c.in-Some.ensures

several : (c : In-Some-unquote_char) → let p = c.in-Some-unquote_char.piece in Turn c.args.self.now.reading c.args.self.now.sign c.args.self.now.inner.now c.loop-from.from c.loop-from.at p.size (piece_bytes c.args.self.now.reading p.form p.value) × (is_allowed p.form p.value ≡ true)
several c =
    let l = c.loop-from in
    let here = sym (c.unquote_char.ensures ∙ ap (tile_of c.args.self.now.sign) (rest_of c.args.self.now.inner.now l.from)) ∙ c.in-Some-unquote_char.is in
    turn c.args.self.now.reading c.args.self.now.sign c.args.self.now.inner.now c.args.self.now.ascii_sign l.from l.at l.invariant.passed c.loop-from-test.true _ _ _ here

pub loop-from-init : goal.loop-from-init
loop-from-init c = record {
  passed = passed_none _ _ _;
  long = refl;
  left = refl;
}

pub bounds-out-at : goal.bounds-out-at
bounds-out-at c = omega (arith, (one c).passed.long, c.loop-from.invariant.long, c.requires)

pub overflow_add-from : goal.overflow_add-from
overflow_add-from c = omega (arith, (one (goal.at.overflow_add-from c).In-Some).passed.within)

pub loop-from-smaller-in-Some : goal.loop-from-smaller-in-Some
loop-from-smaller-in-Some c =
    let t = one (goal.at.loop-from-smaller-in-Some c).In-Some in
    omega (arith, t.some, t.passed.within)

pub loop-from-preserved-in-Some : goal.loop-from-preserved-in-Some
loop-from-preserved-in-Some c =
    let t = one (goal.at.loop-from-preserved-in-Some c).In-Some in
    let l = c.loop-from in
    record {
      passed = t.passed;
      long = length-set l.out l.at _ ∙ l.invariant.long;
      left = l.invariant.left ∙ t.left l.out;
    }

pub returns-in_default-unquote_char : goal.returns-in_default-unquote_char
returns-in_default-unquote_char c =
    let l = c.loop-from in
    let here = sym (c.unquote_char.ensures ∙ ap (tile_of c.args.self.now.sign) (rest_of c.args.self.now.inner.now l.from)) ∙ c.in_default-unquote_char.is in
    let b = passed_bad c.args.self.now.reading c.args.self.now.sign c.args.self.now.inner.now c.args.self.now.ascii_sign l.from l.at l.invariant.passed c.loop-from-test.true here in
    record {
      value = b.0;
      out_after = λ good. absurd (true≢false (sym b.1 ∙ good));
    }

pub put_piece-at-requires : goal.put_piece-at-requires
put_piece-at-requires c =
    let t = several (goal.at.put_piece-at-requires c).In-Some-unquote_char in
    record {
      value_value = t.1;
      value_in_bounds = omega (arith, t.0.passed.long, c.loop-from.invariant.long, c.requires);
    }

pub overflow_add-from-in-loop-from : goal.overflow_add-from-in-loop-from
overflow_add-from-in-loop-from c = omega (arith, (several (goal.at.overflow_add-from-in-loop-from c).In-Some-unquote_char).0.passed.within)

pub loop-from-smaller : goal.loop-from-smaller
loop-from-smaller c =
    let t = (several (goal.at.loop-from-smaller c).In-Some-unquote_char).0 in
    omega (arith, t.some, t.passed.within)

pub loop-from-preserved : goal.loop-from-preserved
loop-from-preserved c =
    let t = (several (goal.at.loop-from-preserved c).In-Some-unquote_char).0 in
    let l = c.loop-from in
    let p = c.put_piece-at in
    record {
      passed = rw p.ensures.value t.passed;
      long = omega (arith, p.auto, l.invariant.long);
      left = l.invariant.left ∙ t.left l.out ∙ rw (p.ensures.out_after, p.ensures.value);
    }

pub returns : goal.returns
returns c =
    let l = c.loop-from in
    let e = passed_all c.args.self.now.reading c.args.self.now.sign c.args.self.now.inner.now l.from l.at l.invariant.passed c.loop-from-test.false in
    record {
      value = e.0;
      out_after = λ good. sym (l.invariant.left ∙ e.1 l.out);
    }
