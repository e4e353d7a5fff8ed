-- The laws of packing in `specs/laws/Codes`: the parts of a packed refusal are the digits of one number in base 2^16, below bit 63. With them
-- what the other modules use to show theirs.
use Prim.Native.Nat.{ℕ, ◌*◌, ◌≤◌}
use native.Mathlib.Omega.{arith}
use mathlib.Core.Bool.{false}
use mathlib.Core.Path.{◌≡◌}
use borrow.Author.Tests.{le-leb, lt-leb}
use Rattle.utf8.specs.declared.Refusal.{Refusal}
use Rattle.utf8.specs.Answers.{text_limit}
use Rattle.utf8.specs.laws.Bounds.{Placed}
use Rattle.exports.specs.Packed.{refused_from, number_limit, packed_of, Packable}
use Rattle.exports.specs.laws.Codes.{NothingLost, looks_refused, PackedTold}

pub nothing_lost : NothingLost
nothing_lost r s p q e =
    let n : r.number ≡ s.number = omega arith in
    let b : r.place.byte.0 ≡ s.place.byte.0 = omega arith in
    let c : r.place.character.0 ≡ s.place.character.0 = omega arith in
    λ i. record { number = n i; place = record { byte = record { 0 = b i }; character = record { 0 = c i } } }

pub packed_told : PackedTold
packed_told r = le-leb refused_from (packed_of r) (omega arith)

-- an answer that counts the bytes of a text, or of an escaped one, is well below bit 63
pub small : (n : ℕ) → n ≤ 2 * text_limit → looks_refused n ≡ false
small n h = lt-leb refused_from n (omega arith)

-- a refusal whose number and place reach no further than a part holds
pub placed_kept : {most limit : ℕ} {r : Refusal} → most ≤ number_limit → limit ≤ text_limit → Placed most limit r → Packable r
placed_kept m l p = omega (arith, p.number, p.byte, p.character)
