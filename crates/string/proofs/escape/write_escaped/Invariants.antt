-- With what is left written from `at` on, the buffer is as with the whole written from its front; and that fits.
use Rattle.std.proofs.Common.{◌+◌, ◌≤◌, ◌≡◌, length, drop}
use Rattle.std.proofs.lemmas.List.Edits.{sets}
use Rattle.string.specs.steps.Bytes.{escaped_bytes}
use Rattle.string.proofs.escape.write_escaped.Given as goal

abbrev pub invariant-loop-byte : goal.invariant-loop-byte
invariant-loop-byte l = record {
  long : length l.out ≡ length l.initial.out;
  fits : l.at + length (escaped_bytes (drop l.byte-index l.text)) ≤ length l.out;
  left : sets l.initial.out 0 (escaped_bytes l.text) ≡ sets l.out l.at (escaped_bytes (drop l.byte-index l.text));
}
