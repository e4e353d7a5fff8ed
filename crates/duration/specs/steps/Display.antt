-- Parts of a duration, as the code takes and writes them.
use Rattle.std.specs.Prelude.{ℕ, ◌+◌, ◌/◌, ◌%◌, cond, List, ◌≡◌, eqb, length}
use Rattle.std.proofs.lemmas.List.Edits.{sets}
use Rattle.duration.specs.declared.unit.Unit.{Unit}
use Rattle.duration.specs.Display.{count_text}
use Rattle.duration.specs.steps.Units.{unit_of}

-- a text is stored in a list at a place, and where it ends
pub record Stored (xs d : List ℕ) (at r : ℕ) (e : List ℕ) : Type 0 where
  pub past : r ≡ at + length xs
  pub holds : e ≡ sets d at xs

-- how many there are of a unit in so many milliseconds; none where something remains
abbrev pub whole_of : ℕ → ℕ → ℕ
whole_of size ms = cond (eqb (ms % size) 0) (ms / size) 0

-- what is written of a count and its unit
abbrev pub counted_text : ℕ × Unit → List ℕ
counted_text p = count_text p.0 (unit_of p.1).text
