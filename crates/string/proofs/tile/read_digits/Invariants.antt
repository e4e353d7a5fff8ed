-- The digits from here on, read behind the value so far, are the digits of the whole; and i of them amount to less than 16 ^ i.
use Rattle.std.proofs.Common.{◌+◌, ◌-◌, ◌^◌, ◌<◌, ◌≡◌}
use Rattle.string.specs.Tile.{amount_from}
use Rattle.string.proofs.tile.read_digits.Given as goal

abbrev pub invariant-loop-i : goal.invariant-loop-i
invariant-loop-i l = record {
  small : l.value < 16 ^ l.i;
  whole : amount_from l.radix 0 l.count l.at l.s ≡ amount_from l.radix l.value (l.count - l.i) (l.at + l.i) l.s;
}
