use Prim.Native.Nat.{◌-◌, ◌≤◌}
use mathlib.Core.Path.{◌≡◌}
use lib.ListN.{length, drop}
use Rattle.utf8.specs.Text.{chars_of}
use Rattle.utf8.specs.Answers.{next_start}
use Rattle.utf8.proofs.Chars.{stop}
use Rattle.utf8.proofs.next_start.Given as goal

abbrev pub invariant-loop-at : goal.invariant-loop-at
invariant-loop-at l = (l.at ≤ length l.text) × (l.count ≤ l.at) × (next_start l.text l.to ≡ stop l.to l.at l.count (chars_of (drop l.at l.text)))

abbrev pub decreases-loop-at : goal.decreases-loop-at
decreases-loop-at l = length l.text - l.at
