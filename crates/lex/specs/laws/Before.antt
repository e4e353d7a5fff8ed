-- The lexemes of a query before a place that the reading reaches, and those behind it, as a statement; `proofs/Before` has the proof.
use Rattle.std.specs.Prelude.{ℕ, ◌+◌, ◌≤◌, List, [], ◌∷◌, ◌++◌, ◌≡◌, drop}
use Rattle.utf8.specs.declared.Reading.{Reading}
use Rattle.munch.specs.declared.Mode.{Mode}
use Rattle.lex.specs.Outcome.{Entry, steps_past, read_from}
use Rattle.lex.specs.Lex.{entries, entries_of}
use Rattle.lex.specs.laws.Refusals.{Reaches}

-- all end at an offset or before it, none of them empty; all begin there or behind it
abbrev pub AllEnded : ℕ → List Entry → Type 0
AllEnded at [] = Unit {0}
AllEnded at (e ∷ es) = (1 ≤ e.length) × (e.start + e.length ≤ at) × AllEnded at es

abbrev pub AllLater : ℕ → List Entry → Type 0
AllLater at [] = Unit {0}
AllLater at (e ∷ es) = (at ≤ e.start) × AllLater at es

-- the lexemes from a place on, in a mode
abbrev pub entries_from : Reading → List ℕ → ℕ → Mode → List Entry
entries_from r q at m = entries (read_from at (steps_past r 0 m (drop at q)))

pub record Divided (r : Reading) (q : List ℕ) (at : ℕ) (m : Mode) : Type 0 where
  pub before : List Entry
  pub all : entries_of r q ≡ before ++ entries_from r q at m
  pub ended : AllEnded at before
  pub later : AllLater at (entries_from r q at m)

abbrev pub EntriesDivided : Type 0
EntriesDivided = (r : Reading) (q : List ℕ) (at : ℕ) (m : Mode) → Reaches r q at m → Divided r q at m
