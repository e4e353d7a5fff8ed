-- `token::is_row` meets its contract: a letter is compared in a turn (`same_turn`), and nothing is left at the end.
use Rattle.std.proofs.Common.{ℕ, ◌+◌, ◌&&◌, List, map, ◌≡◌, sym, ap, ◌∙◌, length, get_or, take, drop, arith}
use borrow.Author.Tests.{eq-eqb, ne_eqb}
use lib.Dec.{eqb}
use lib.ListN.{length-map}
use lib.Seq.{length-take-le, get_or-take}
use Rattle.scan.specs.Byte.{lowered}
use Rattle.scan.specs.Text.{same_text}
use Rattle.scan.proofs.Same.{same_turn, same_out}
use Rattle.scan.proofs.byte.Classes.{lowered_at}
use Rattle.token.specs.steps.WordRows.{is_row}
use Rattle.token.proofs.is_row.Goals as goal
use Rattle.token.proofs.is_row.Goals.{After-lowered}

-- in a turn, the row holds the word where two letters are the same and what follows them is
module _ (c : After-lowered) where
  abbrev row : List ℕ
  row = c.args.row.now

  abbrev word : List ℕ
  word = c.args.word.now

  abbrev i : ℕ
  i = c.loop-i.i

  turn : is_row row (map lowered word) ≡ eqb c.lowered.result (get_or row i 0) && same_text (drop (i + 1) (map lowered word)) (drop (i + 1) (take (length word) row))
  turn =
      c.loop-i.invariant
      ∙ same_turn (map lowered word) (take (length word) row) i (omega (arith, length-map word lowered)) (omega (arith, length-take-le (length word) row (omega arith)))
      ∙ rw (lowered_at word i, get_or-take (length word) row i 0 (omega arith))
      (ap (λ (x : ℕ). eqb x (get_or row i 0) && same_text (drop (i + 1) (map lowered word)) (drop (i + 1) (take (length word) row))) (sym c.lowered.ensures))

pub returns-then-lowered-row : goal.returns-then-lowered-row
returns-then-lowered-row c = sym (turn (goal.at.returns-then-lowered-row c).After-lowered ∙ simp (ne_eqb _ _ c.if-lowered-row.true))

pub loop-i-preserved : goal.loop-i-preserved
loop-i-preserved c = turn (goal.at.loop-i-preserved c).After-lowered ∙ simp (eq-eqb _ _ c.if-lowered-row.false)

pub returns : goal.returns
returns c =
    let a = c.args in
    let w = a.word.now in
    sym (c.loop-i.invariant ∙ same_out (map lowered w) (take (length w) a.row.now) c.loop-i.i (omega (arith, length-map w lowered)) (omega (arith, length-take-le (length w) a.row.now (omega arith))))
