-- The byte stands in the whole exactly where it was found, or stands from here on.
use Rattle.std.proofs.Common.{◌≡◌, ◌||◌, drop}
use Rattle.scan.specs.Text.{has}
use Rattle.string.proofs.content.has_byte.Given as goal

abbrev pub invariant-loop-byte : goal.invariant-loop-byte
invariant-loop-byte l = has l.c l.s ≡ l.found || has l.c (drop l.byte-index l.s)
