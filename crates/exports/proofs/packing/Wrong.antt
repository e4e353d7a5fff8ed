-- The answer that each promise leaves at a telling input: a program that answers otherwise there, as the theorem's name says, cannot be
-- proved. `FUNCTION-gives` is what the promise of FUNCTION answers at arguments, which is the definition's value there.
use Prim.Native.Nat.{ℕ}
use mathlib.Core.Path.{◌≡◌}
use Rattle.utf8.specs.declared.Refusal.{Refusal}
use Rattle.utf8.specs.Answers.{place, at_start, not_utf8}
use Rattle.proving.proofs.One.{Answers}
use Rattle.exports.specs.Packed.{packed_of}
use Rattle.exports.proofs.packing.packed.Kinds as packed
use Rattle.exports.proofs.packing.packed.Reads as packed_reads
use Rattle.exports.proofs.packing.packed_at_start.Kinds as packed_at_start
use Rattle.exports.proofs.packing.packed_at_start.Reads as packed_at_start_reads

abbrev packed_gives : Refusal → ℕ → Type 0
packed_gives r v = Answers packed.ps packed.r packed_reads.Post (λ κs a. a.0 ≡ r) (λ κs. v)

packed_at : (r : Refusal) → packed_gives r (packed_of r)
packed_at r κs a x e p h = cc (p, h)

pub character_stands_behind_the_byte : packed_gives (not_utf8 (place 2 1)) 0x8000000200020001
character_stands_behind_the_byte = packed_at _

pub greatest_place_leaves_the_number : packed_gives (not_utf8 (place 0xffff 0xffff)) 0x80000002ffffffff
greatest_place_leaves_the_number = packed_at _

abbrev packed_at_start_gives : ℕ → ℕ → Type 0
packed_at_start_gives n v = Answers packed_at_start.ps packed_at_start.r packed_at_start_reads.Post (λ κs a. a.0 ≡ n) (λ κs. v)

packed_at_start_at : (n : ℕ) → packed_at_start_gives n (packed_of (at_start n))
packed_at_start_at n κs a x e p h = cc (p, h)

pub number_stands_from_bit_32 : packed_at_start_gives 1 0x8000000100000000
number_stands_from_bit_32 = packed_at_start_at _

pub no_room_is_not_too_long : packed_at_start_gives 3 0x8000000300000000
no_room_is_not_too_long = packed_at_start_at _
