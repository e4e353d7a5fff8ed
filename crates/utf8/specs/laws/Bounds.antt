-- How far the answers go, as statements. Their proofs stand in `proofs/Bounds` and `proofs/Texts`.
use Rattle.utf8.specs.declared.CharNumber.{CharNumber}
use Rattle.std.specs.Prelude.{ℕ, ◌≤◌, ◌<◌, List, ◌≡◌, length, Err, Ok, Result}
use Rattle.utf8.specs.declared.Refusal.{Refusal}
use Rattle.utf8.specs.declared.Character.TheVariants.{Scalar, IllFormed}
use Rattle.utf8.specs.Text.{prefix_end, char_number}
use Rattle.utf8.specs.Answers.{admitted, character_at}

-- a refusal of a number so great at most, at a place no further than a limit
pub record Placed (most limit : ℕ) (r : Refusal) : Type 0 where
  pub number : r.number ≤ most
  pub byte : r.place.byte.0 ≤ limit
  pub character : r.place.character.0 ≤ limit

-- within a limit an admission counts no more than that, and its refusals are 1 and 2, at places no further
abbrev pub Bounded : ℕ → Result CharNumber Refusal → Type 0
Bounded limit (Ok n) = n.0 ≤ limit
Bounded limit (Err r) = Placed 2 limit r

abbrev pub AdmittedBound : Type 0
AdmittedBound = (limit : ℕ) (xs : List ℕ) → Bounded limit (admitted limit xs)

-- the longest well-formed prefix ends within the text
abbrev pub PrefixBound : Type 0
PrefixBound = (xs : List ℕ) → prefix_end xs ≤ length xs

-- there are no more characters than bytes
abbrev pub NumberBound : Type 0
NumberBound = (xs : List ℕ) (to : ℕ) → char_number xs to ≤ length xs

-- a character is no longer than the text, and what begins none stands within it
abbrev pub CharacterWithin : Type 0
CharacterWithin =
    (xs : List ℕ) (at : ℕ) →
    ((c n : ℕ) → character_at xs at ≡ Scalar c n → n ≤ length xs) × (character_at xs at ≡ IllFormed → at < length xs)
