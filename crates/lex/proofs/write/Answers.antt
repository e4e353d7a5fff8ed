-- A front of n has room for just the n lexemes.
use native.Mathlib.Omega.{arith}
use mathlib.Core.Path.{refl, sym, ◌∙◌}
use lib.Seq.{length-take-le}
use Rattle.lex.specs.Lex.{kind_of, starts_at, length_of, depth_of}
use Rattle.lex.proofs.Lists.{again_all}
use Rattle.lex.proofs.write.Goals as goal

pub slice_bounds-pass-end-2 : goal.slice_bounds-pass-end-2
slice_bounds-pass-end-2 c = sym (length-take-le _ _ (omega arith))

pub slice_bounds-pass-end-4 : goal.slice_bounds-pass-end-4
slice_bounds-pass-end-4 c = sym (length-take-le _ _ (omega arith))

pub slice_bounds-pass-end-6 : goal.slice_bounds-pass-end-6
slice_bounds-pass-end-6 c = sym (length-take-le _ _ (omega arith))

pub slice_bounds-pass-end-8 : goal.slice_bounds-pass-end-8
slice_bounds-pass-end-8 c = sym (length-take-le _ _ (omega arith))

pub pass-requires : goal.pass-requires
pass-requires c =
    let r = c.requires.room in
    let k = length-take-le c.args.n c.args.kinds.now r.0 in
    (length-take-le _ _ r.1 ∙ sym k, length-take-le _ _ r.2 ∙ sym k, length-take-le _ _ r.3 ∙ sym k)

pub returns : goal.returns
returns c =
    let a = c.args in
    let e = c.requires.counted in
    let r = c.requires.room in
    let w = c.pass.ensures in record {
      kinds_after = again_all a.query.now.reading kind_of a.query.now.text.now a.kinds.now a.n e r.0 w.kinds_after refl;
      starts_after = again_all a.query.now.reading starts_at a.query.now.text.now a.starts.now a.n e r.1 w.starts_after refl;
      lengths_after = again_all a.query.now.reading length_of a.query.now.text.now a.lengths.now a.n e r.2 w.lengths_after refl;
      depths_after = again_all a.query.now.reading depth_of a.query.now.text.now a.depths.now a.n e r.3 w.depths_after refl;
    }
