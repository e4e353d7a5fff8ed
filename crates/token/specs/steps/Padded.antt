-- A text of a table, padded with the end of a filler so that all rows have one size.
use Rattle.std.specs.Prelude.{ℕ, List, ◌++◌, length, drop}

unfoldable pub padded : List ℕ → List ℕ → List ℕ
padded filler xs = xs ++ drop (length xs) filler
