-- With what is left, the bytes so far and what these have more is the length of the whole; and a byte has one more at most.
use Rattle.std.proofs.Common.{◌+◌, ◌≤◌, ◌≡◌, length, drop}
use Rattle.string.specs.steps.Bytes.{escaped_bytes}
use Rattle.string.proofs.escape.escaped_length.Given as goal

abbrev pub invariant-loop-byte : goal.invariant-loop-byte
invariant-loop-byte l = record {
  few : l.more ≤ l.byte-index;
  whole : l.byte-index + l.more + length (escaped_bytes (drop l.byte-index l.text)) ≡ length (escaped_bytes l.text);
}
