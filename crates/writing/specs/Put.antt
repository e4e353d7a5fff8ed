-- Writing a text into a lent list: all of it where it fits, and nothing where not.
use Rattle.std.specs.Prelude.{ℕ, ◌+◌, Bool, cond, List, ◌++◌, length, take, drop, leb}

abbrev pub has_room : List ℕ → ℕ → List ℕ → Bool
has_room d at xs = leb (at + length xs) (length d)

-- what d holds once xs is written at an offset
unfoldable pub put_at : List ℕ → ℕ → List ℕ → List ℕ
put_at d at xs = cond (has_room d at xs) (take at d ++ xs ++ drop (at + length xs) d) d

-- the offset past it
unfoldable pub past_at : List ℕ → ℕ → List ℕ → ℕ
past_at d at xs = cond (has_room d at xs) (at + length xs) at
