use mathlib.Core.Path.{◌≡◌}
use lib.ListN.{drop}
use Rattle.scan.specs.Byte.{is_in}
use Rattle.scan.specs.Separated.{all_placed_from}
use Rattle.scan.proofs.separated.is_all_placed.Given as goal

abbrev pub invariant-loop-i : goal.invariant-loop-i
invariant-loop-i l = all_placed_from (is_in l.k) l.behind l.initial.allowed l.s ≡ all_placed_from (is_in l.k) l.behind l.allowed (drop l.i l.s)
