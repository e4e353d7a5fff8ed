-- The whole is ASCII exactly where the greatest byte so far is, and all that follow.
use Rattle.std.proofs.Common.{◌≡◌, ◌&&◌, drop}
use lib.Dec.{leb}
use Rattle.utf8.specs.laws.Ascii.{is_ascii}
use Rattle.utf8.proofs.is_ascii.Given as goal

abbrev pub invariant-loop-byte : goal.invariant-loop-byte
invariant-loop-byte l = is_ascii l.text ≡ leb l.most 0x7f && is_ascii (drop l.byte-index l.text)
