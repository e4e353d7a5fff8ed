use Rattle.listing.specs.steps.Puts.{Puts}
use Rattle.listing.specs.Listing.{longest_lexeme, lexemes_text, zipped}
use mathlib.Core.Path.{◌≡◌}
use lib.ListN.{length, take}
use Prim.Native.Nat.{◌*◌, ◌≤◌}
use Rattle.listing.proofs.put_lexemes.Given as goal

abbrev pub invariant-loop-i : goal.invariant-loop-i
invariant-loop-i l = record {
  same_size : length l.text ≡ length l.initial.text;
  few : l.at ≤ l.i * longest_lexeme;
  put : Puts (lexemes_text (take l.i (zipped l.kinds l.starts l.lengths l.depths))) l.initial.text 0 l.at l.text;
}
