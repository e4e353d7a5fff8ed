-- What the passes test: whether a byte is a tile by itself, whether a tile gives one byte, and what tiles and a content come to; and what is
-- answered and left then. No promise outside rests on it.
use Rattle.std.specs.Prelude.{ℕ, ◌+◌, ◌≤◌, Bool, cond, ◌&&◌, ◌||◌, not, List, ◌++◌, ◌≡◌, eqb, leb, length, drop, Option, Err, Ok, Result}
use Rattle.scan.specs.Byte.{backslash}
use Rattle.utf8.specs.declared.Reading.{Reading}
use Rattle.string.specs.declared.tile.Form.{Form}
use Rattle.string.specs.declared.tile.Piece.{Piece}
use Rattle.string.specs.declared.Unquoted.{Unquoted}
use Rattle.string.specs.declared.Unquoted.TheVariants.{Inner, Written}
use Rattle.string.specs.Tile.{piece, tile_of}
use Rattle.string.specs.Tiles.{tiles_of, has_bad, good_size, gives_byte, bytes_of}
use Rattle.string.specs.Literal.{line_feed, has_newline, first_of, has_escape}

-- an ASCII byte that is neither the sign nor a backslash
unfoldable pub is_plain : ℕ → ℕ → Bool
is_plain q c = not (eqb c backslash) && (not (eqb c q) && leb c 0x7f)

-- bytes begin with a tile that gives one ASCII byte
abbrev pub GivesOne : ℕ → List ℕ → ℕ → ℕ → Type 0
GivesOne q xs v n = (f : Form) × (tile_of q xs ≡ piece f v n) × (v ≤ 0x7f)

unfoldable pub is_single : Reading → Form → ℕ → Bool
is_single r f v = leb v 0x7f || gives_byte r f

-- how many bytes tiles give, or where the first bad one begins
unfoldable pub tiles_extent : Reading → List (Option Piece) → Result ℕ ℕ
tiles_extent r ts = cond (has_bad ts) (Err (good_size ts)) (Ok (length (bytes_of r ts)))

-- what the content of a literal with the sign q comes to, with offsets of its own
unfoldable pub content_extent : Reading → ℕ → List ℕ → Result Unquoted ℕ
content_extent r q ys =
    cond (has_newline q ys) (Err (first_of line_feed ys))
    (cond (has_bad (tiles_of q ys)) (Err (good_size (tiles_of q ys)))
    (cond (has_escape q ys) (Ok (Written (length (bytes_of r (tiles_of q ys)))))
    (Ok (Inner (length ys)))))

-- and counted from the sign before it
abbrev pub behind_sign : Result Unquoted ℕ → Result Unquoted ℕ
behind_sign (Ok t) = Ok t
behind_sign (Err at) = Err (at + 1)

-- what the text buffer holds then: a text that is to be written, where it has room
abbrev pub left_sized : Result ℕ ℕ → List ℕ → List ℕ → List ℕ
left_sized (Ok n) ys d = cond (leb n (length d)) (ys ++ drop n d) d
left_sized (Err at) ys d = d

abbrev pub left_in : Result Unquoted ℕ → List ℕ → List ℕ → List ℕ
left_in (Ok (Inner n)) ys d = d
left_in (Ok (Written n)) ys d = left_sized (Ok n) ys d
left_in (Err at) ys d = d
