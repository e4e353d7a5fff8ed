use mathlib.Core.List.{map}
use mathlib.Core.Path.{◌≡◌}
use lib.ListN.{length, take, drop}
use Rattle.scan.specs.Byte.{lowered}
use Rattle.scan.specs.Text.{same_text}
use Rattle.token.specs.steps.WordRows.{is_row}
use Rattle.token.proofs.is_row.Given as goal

abbrev pub invariant-loop-i : goal.invariant-loop-i
invariant-loop-i l =
    is_row l.row (map lowered l.word) ≡ same_text (drop l.i (map lowered l.word)) (drop l.i (take (length l.word) l.row))
