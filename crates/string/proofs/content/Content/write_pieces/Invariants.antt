-- With what the tiles from here on give written from `at` on, the buffer is as with what all of them give written from its front.
use Rattle.std.proofs.Common.{◌-◌, ◌≡◌, length, drop}
use Rattle.std.proofs.lemmas.List.Edits.{sets}
use Rattle.string.specs.Tiles.{tiles_of, bytes_of}
use Rattle.string.proofs.Passed.{Passed}
use Rattle.string.proofs.content.Content.write_pieces.Given as goal

abbrev pub invariant-loop-from : goal.invariant-loop-from
invariant-loop-from l = record {
  passed : Passed l.self.reading l.self.sign l.self.inner.now l.from l.at;
  long : length l.out ≡ length l.initial.out;
  left : sets l.initial.out 0 (bytes_of l.self.reading (tiles_of l.self.sign l.self.inner.now)) ≡ sets l.out l.at (bytes_of l.self.reading (tiles_of l.self.sign (drop l.from l.self.inner.now)));
}

abbrev pub decreases-loop-from : goal.decreases-loop-from
decreases-loop-from l = length l.self.inner.now - l.from
