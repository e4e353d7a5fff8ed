-- Bounds of what lexing answers and writes, and the steps of a query one at a time, as statements; `proofs/Bounds`, `proofs/Entries` and
-- `proofs/Steps` have their proofs.
use Rattle.utf8.specs.declared.Refusal.{Refusal}
use Rattle.std.specs.Prelude.{ℕ, ◌+◌, ◌^◌, ◌≤◌, ◌<◌, List, [], ◌∷◌, ◌≡◌, length, drop, Err, Ok, Result}
use Rattle.utf8.specs.Answers.{text_limit}
use Rattle.utf8.specs.declared.Reading.{Reading}
use Rattle.munch.specs.declared.Mode.{Mode}
use Rattle.munch.specs.declared.Step.{Step}
use Rattle.munch.specs.laws.Step.{Goes}
use Rattle.munch.specs.Munch.{munched}
use Rattle.lex.specs.Outcome.{Entry, step_length, step_mode, followed, steps_past}
use Rattle.lex.specs.Lex.{entries_of, lexed}

-- the last number of a row
abbrev pub last_row : ℕ
last_row = 32

-- at most one lexeme more than a text has bytes is counted, and a refusal has a number of at most the last row's and a place within the limit
abbrev pub LexingWithin : Result ℕ Refusal → Type 0
LexingWithin (Ok n) = n ≤ text_limit + 1
LexingWithin (Err r) = (r.number ≤ last_row) × (r.place.byte.0 ≤ text_limit) × (r.place.character.0 ≤ text_limit)

abbrev pub LexingBounded : Type 0
LexingBounded = (r : Reading) (room : ℕ) (q : List ℕ) → LexingWithin (lexed r room q)

-- of a query of so many bytes: a lexeme, and all of a list; a kind has 16 bits, and no more parentheses are open than there are bytes
abbrev pub Within : ℕ → Entry → Type 0
Within size e = (e.kind < 2 ^ 16) × (e.start + e.length ≤ size) × (e.depth ≤ size)

abbrev pub AllWithin : ℕ → List Entry → Type 0
AllWithin size [] = Unit {0}
AllWithin size (e ∷ es) = Within size e × AllWithin size es

abbrev pub EntriesWithin : Type 0
EntriesWithin = (r : Reading) (q : List ℕ) → AllWithin (length q) (entries_of r q) × (length (entries_of r q) ≤ length q + 1)

-- the steps from an offset on are the step there and those from where it leaves off
abbrev pub StepsAt : Type 0
StepsAt =
    (r : Reading) (q : List ℕ) (at : ℕ) (m : Mode) (s : Step) →
    munched r m (drop at q) ≡ s → steps_past r 0 m (drop at q) ≡ followed s (steps_past r 0 (step_mode m s) (drop (at + step_length s) q))

-- and the step there takes a byte at least, of those that are left
abbrev pub GoesAt : Type 0
GoesAt = (r : Reading) (q : List ℕ) (at : ℕ) (m : Mode) (s : Step) → munched r m (drop at q) ≡ s → Goes m (drop at q) s
