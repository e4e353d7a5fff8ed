-- Unit texts as document 01 writes them: "y w d h m s ms, each at most once in this order", digits before each; and the statements that these are
-- the texts which are read, and what is read of them. `proofs/units/Spelling` has the proofs.
use Rattle.std.specs.Prelude.{ℕ, ◌+◌, ◌*◌, ◌<◌, true, List, [], ◌∷◌, ◌++◌, ◌↔◌, ◌⊎◌, ◌≡◌}
use Rattle.scan.specs.Digits.{value_of}
use Rattle.decimal.specs.laws.Spelling.{SomeDigits}
use Rattle.duration.specs.Unit.{Unit, units}
use Rattle.duration.specs.Units.{sum_by, most_counted, has_oversized, is_unit_text}

-- a text of parts of units, in their order: of each unit the text has none, or digits and the unit's text; of each part the number, and how many
-- milliseconds its unit has
pub data PartsOf : List Unit → List ℕ → List (ℕ × ℕ) → Type 0 where
  end : PartsOf [] [] []
  none : (u : Unit) (us : List Unit) (xs : List ℕ) (ps : List (ℕ × ℕ)) → PartsOf us xs ps → PartsOf (u ∷ us) xs ps
  one : (u : Unit) (us : List Unit) (ds xs : List ℕ) (ps : List (ℕ × ℕ)) → SomeDigits ds → PartsOf us xs ps
      → PartsOf (u ∷ us) (ds ++ (u.text ++ xs)) ((value_of 10 ds, u.size) ∷ ps)

-- the milliseconds of parts, where a number counts for so much
abbrev pub total_of : (ℕ → ℕ) → List (ℕ × ℕ) → ℕ
total_of count [] = 0
total_of count (p ∷ ps) = count p.0 * p.1 + total_of count ps

-- a part's number is above another
abbrev pub SomeAbove : ℕ → List (ℕ × ℕ) → Type 0
SomeAbove most [] = ⊥
SomeAbove most (p ∷ ps) = (most < p.0) ⊎ SomeAbove most ps

-- what is read is what is so spelled,
abbrev pub UnitsSpelled : Type 0
UnitsSpelled = (xs : List ℕ) → is_unit_text xs ≡ true ↔ ((ps : List (ℕ × ℕ)) × PartsOf units xs ps)

-- and what is taken of it are the parts of the spelling
abbrev pub PartsTaken : Type 0
PartsTaken =
    (xs : List ℕ) (ps : List (ℕ × ℕ)) → PartsOf units xs ps →
    ((count : ℕ → ℕ) → sum_by count units xs ≡ total_of count ps) × (has_oversized units xs ≡ true ↔ SomeAbove most_counted ps)
