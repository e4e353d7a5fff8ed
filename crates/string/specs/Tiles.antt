-- The content of a literal as a list of tiles, and what they give: document 01, "String literals (003)". Of a byte escape the crate
-- reading gives a code point, and the documented one a byte: Go's specification, "String literals", has it that these escapes "represent
-- individual bytes of the resulting string", and all others the UTF-8 of a character.
use Rattle.std.specs.Prelude.{ℕ, zero, suc, pred, ◌+◌, Bool, true, false, cond, ◌||◌, List, [], ◌∷◌, ◌++◌, Option, Some, None}
use Rattle.utf8.specs.declared.Reading.{Reading}
use Rattle.utf8.specs.declared.Reading.TheVariants.{Crate, Documented}
use Rattle.utf8.specs.Code.{encoded}
use Rattle.string.specs.declared.tile.Form.{Form}
use Rattle.string.specs.declared.tile.Piece.{Piece}
use Rattle.string.specs.Tile.{is_byte, tile_of}

-- how many bytes a tile has; of a bad one the first is passed
abbrev pub tile_size : Option Piece → ℕ
tile_size (Some p) = p.size
tile_size None = 1

-- k bytes are passed over, which the tile before has taken; then come the tiles
unfoldable pub tiles_past : ℕ → ℕ → List ℕ → List (Option Piece)
tiles_past q k [] = []
tiles_past q (suc k) (x ∷ xs) = tiles_past q k xs
tiles_past q zero (x ∷ xs) = let t = tile_of q (x ∷ xs) in t ∷ tiles_past q (pred (tile_size t)) xs

-- the tiles of the content of a literal with the sign q
abbrev pub tiles_of : ℕ → List ℕ → List (Option Piece)
tiles_of q xs = tiles_past q 0 xs

abbrev pub is_bad : Option Piece → Bool
is_bad (Some p) = false
is_bad None = true

unfoldable pub has_bad : List (Option Piece) → Bool
has_bad [] = false
has_bad (t ∷ ts) = is_bad t || has_bad ts

-- how many bytes the tiles have that come before the first bad one
unfoldable pub good_size : List (Option Piece) → ℕ
good_size [] = 0
good_size (t ∷ ts) = cond (is_bad t) 0 (tile_size t + good_size ts)

-- "Crate reading: `\x` and octal give a code point. Documented reading: one byte; the rest alike."
abbrev pub gives_byte : Reading → Form → Bool
gives_byte Crate f = false
gives_byte Documented f = is_byte f

unfoldable pub piece_bytes : Reading → Form → ℕ → List ℕ
piece_bytes r f v = cond (gives_byte r f) (v ∷ []) (encoded v)

abbrev pub tile_bytes : Reading → Option Piece → List ℕ
tile_bytes r (Some p) = piece_bytes r p.form p.value
tile_bytes r None = []

-- the bytes that tiles give
unfoldable pub bytes_of : Reading → List (Option Piece) → List ℕ
bytes_of r [] = []
bytes_of r (t ∷ ts) = tile_bytes r t ++ bytes_of r ts
