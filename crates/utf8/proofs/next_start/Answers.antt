-- The characters from the place on stop where those of the whole text do. A block of ASCII bytes before the offset is passed over, and a character that begins
-- before it; past the offset, or where none begins, they stop here.
use Rattle.std.proofs.Common.{ℕ, ◌+◌, ◌-◌, ◌<◌, ◌≤◌, List, true, ◌≡◌, sym, ap, ◌∙◌, length, take, drop, arith}
use lib.ListN.{length-drop}
use lib.Seq.{drop-drop}
use Rattle.proving.proofs.Lists.{rest_of}
use Rattle.utf8.specs.Table.{char_length}
use Rattle.utf8.specs.Text.{char_of, chars_of}
use Rattle.utf8.specs.laws.Ascii.{is_ascii}
use Rattle.utf8.proofs.Ascii.{ascii_on}
use Rattle.utf8.proofs.Chars.{char_bound, chars_none, chars_some, stop, stop_out, stop_more, stop_none}
use Rattle.utf8.proofs.next_start.Goals as goal

module _ (text : List ℕ) (to at k : ℕ) (before : at < to) where
  block : (n : ℕ) → (n ≤ length (drop at text)) × (n ≤ to - at) × (is_ascii (take n (drop at text)) ≡ true) → stop to at k (chars_of (drop at text)) ≡ stop to (at + n) (k + n) (chars_of (drop (at + n) text))
  block n e = rw (← drop-drop) (ascii_on n to at k (drop at text) e.2 e.0 (omega (arith, e)))

  character : (n : ℕ) → n ≡ char_length (drop at text) → 0 < n → stop to at k (chars_of (drop at text)) ≡ stop to (at + n) (k + 1) (chars_of (drop (at + n) text))
  character n e h =
      rw (chars_some (drop at text) (rw (← e) h), ← e, drop-drop)
      (stop_more to at k (char_of n (drop at text)) (chars_of (drop (at + n) text)) before)

pub loop-at-preserved-then-run-gt0 : goal.loop-at-preserved-then-run-gt0
loop-at-preserved-then-run-gt0 c =
    let e = rw (rest_of c.args.text.now c.loop-at.at) at c.ascii_run-run.ensures in
    (omega (arith, e, length-drop c.loop-at.at c.args.text.now), omega arith, c.loop-at.invariant.2 ∙ block _ _ _ _ c.loop-at-test.true _ e)

pub loop-at-preserved : goal.loop-at-preserved
loop-at-preserved c =
    let xs = drop c.loop-at.at c.args.text.now in
    let e = c.char_length-n.ensures ∙ ap char_length (rest_of c.args.text.now c.loop-at.at) in
    (omega (arith, e, char_bound xs, length-drop c.loop-at.at c.args.text.now), omega arith, c.loop-at.invariant.2 ∙ character _ _ _ _ c.loop-at-test.true _ e (omega arith))

pub returns-after-loop-at : goal.returns-after-loop-at
returns-after-loop-at c = sym (c.loop-at.invariant.2 ∙ stop_out _ _ _ (chars_of (drop c.loop-at.at c.args.text.now)) c.loop-at-test.false)

pub returns-then-n-eq0 : goal.returns-then-n-eq0
returns-then-n-eq0 c =
    let e = c.char_length-n.ensures ∙ ap char_length (rest_of c.args.text.now c.loop-at.at) in
    sym (c.loop-at.invariant.2 ∙ rw (chars_none (drop c.loop-at.at c.args.text.now) (sym e ∙ c.if-n-eq0.true)) (stop_none _ c.loop-at.at _))
