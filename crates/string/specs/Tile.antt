-- A tile of a literal's content: what its bytes go on with. Document 01, "String literals (003)", and the rules that it stands on:
-- Prometheus, "Querying basics", "String literals", and Go's specification, "Rune literals", whose escapes they are.
use Rattle.std.specs.Prelude.{ℕ, zero, suc, ◌+◌, ◌*◌, Bool, true, false, cond, ◌&&◌, not, List, eqb, leb, Option, Some, None}
use Prim.Native.Char.{code}
use Rattle.scan.specs.Byte.{peek_at, backslash, is_digit_in, digit_of, backquote}
use Rattle.utf8.specs.declared.Character.{Character}
use Rattle.utf8.specs.declared.Character.TheVariants.{Scalar, Nothing, IllFormed}
use Rattle.utf8.specs.Code.{is_scalar}
use Rattle.utf8.specs.Answers.{character_at}
use Rattle.string.specs.Letters.{letter_value}
use Rattle.string.specs.declared.tile.Form.{Form}
use Rattle.string.specs.declared.tile.Form.TheVariants.{Plain, Letter, Hex, Octal, Point}
use Rattle.string.specs.declared.tile.Piece.{Piece}

-- a tile that is written in a form, stands for v and has n bytes
abbrev pub piece : Form → ℕ → ℕ → Option Piece
piece f v n = Some (record { form = f; value = v; size = n })

-- n digits of a radix from an offset on, read behind those that amount to v
unfoldable pub amount_from : ℕ → ℕ → ℕ → ℕ → List ℕ → Option ℕ
amount_from radix v zero at xs = Some v
amount_from radix v (suc n) at xs =
    let c = peek_at xs at in
    cond (is_digit_in radix c) (amount_from radix (v * radix + digit_of c) n (suc at) xs) None

-- "`\x` and octal": the escapes that stand for one byte in the documented reading
abbrev pub is_byte : Form → Bool
is_byte Plain = false
is_byte Letter = false
is_byte Hex = true
is_byte Octal = true
is_byte Point = false

-- "three octal digits up to 255"; "the last two never surrogates nor above 10FFFF"
unfoldable pub is_allowed : Form → ℕ → Bool
is_allowed f v = cond (is_byte f) (leb v 0xff) (is_scalar v)

abbrev pub numbered_as : Form → ℕ → Option ℕ → Option Piece
numbered_as f size (Some v) = cond (is_allowed f v) (piece f v size) None
numbered_as f size None = None

-- an escape by n digits of a radix from an offset on
unfoldable pub numbered : Form → ℕ → ℕ → ℕ → List ℕ → Option Piece
numbered f radix at n xs = numbered_as f (at + n) (amount_from radix 0 n at xs)

-- an escape by a letter that stands for a character, or another
abbrev pub lettered_or : Option ℕ → Option Piece → Option Piece
lettered_or (Some v) other = piece Letter v 2
lettered_or None other = other

-- "`\xhh`, three octal digits .., `\uhhhh`, `\Uhhhhhhhh`"; what does not begin with three octal digits is none
unfoldable pub escape_of : ℕ → List ℕ → Option Piece
escape_of q xs =
    let c = peek_at xs 1 in
    lettered_or (letter_value q c)
    (cond (eqb c (code "x")) (numbered Hex 16 2 2 xs)
    (cond (eqb c (code "u")) (numbered Point 16 2 4 xs)
    (cond (eqb c (code "U")) (numbered Point 16 2 8 xs)
    (numbered Octal 8 1 3 xs))))

abbrev pub plain_of : Character → Option Piece
plain_of (Scalar c n) = piece Plain c n
plain_of Nothing = None
plain_of IllFormed = None

-- "Backquotes: content taken as it is": between these a backslash is a character
unfoldable pub begins_escape : ℕ → ℕ → Bool
begins_escape q c = eqb c backslash && not (eqb q backquote)

-- the tile that bytes begin with, of a literal with the sign q; it is bad where there is none: "no backquote in it. Else: .. no bare closing
-- sign". Where no character begins it is bad too, which the content of no literal meets that is UTF-8.
unfoldable pub tile_of : ℕ → List ℕ → Option Piece
tile_of q xs =
    let c = peek_at xs 0 in
    cond (eqb c q) None
    (cond (begins_escape q c) (escape_of q xs)
    (plain_of (character_at xs 0)))
