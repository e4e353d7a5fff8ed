-- The invariant: the text so far is that of the first i lexemes, of which each has a bounded length, so that there is room for all.
use Rattle.listing.proofs.Puts.{puts_none, puts_on}
use Rattle.listing.proofs.Few.{lexeme_few}
use Rattle.listing.proofs.Lexemes.{text_more, text_all}
use Rattle.listing.specs.Listing.{lexemes_text}
use mathlib.Core.Path.{refl}
use lib.ListN.{get_or}
use native.Mathlib.Omega.{arith}
use Rattle.listing.proofs.put_lexemes.Goals as goal
use Rattle.listing.proofs.put_lexemes.Goals.{Start}

pub loop-i-init : goal.loop-i-init
unfolding lexemes_text
loop-i-init c = record { same_size = refl; few = omega arith; put = puts_none _ }

pub loop-i-preserved : goal.loop-i-preserved
loop-i-preserved c =
    let g = (goal.at.loop-i-preserved c).Start in
    let a = g.args in
    let w = c.loop-i in
    let l = c.put_lexeme-at in
    let few =
    lexeme_few (get_or a.kinds.now w.i 0) (get_or a.starts.now w.i 0) (get_or a.lengths.now w.i 0) (get_or a.depths.now w.i 0)
    (omega arith)
    (omega arith)
    (omega arith)
    (omega arith) in
    let more = text_more a.kinds.now a.starts.now a.lengths.now a.depths.now g.requires.alike w.i (omega arith) in
    record {
      same_size = omega (arith, l.auto.out);
      few = omega (arith, l.ensures.past);
      put = rw more (puts_on w.invariant.put l.ensures w.invariant.same_size);
    }

pub returns : goal.returns
returns c =
    let g = (goal.at.returns c).Start in
    let a = g.args in
    rw (text_all a.kinds.now a.starts.now a.lengths.now a.depths.now g.requires.alike c.loop-i.i (omega arith)) at c.loop-i.invariant.put
