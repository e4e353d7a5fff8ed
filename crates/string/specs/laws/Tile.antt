-- When a tile is bad, by 01's list of escapes, and how many bytes one has that is good; `proofs/tile/Bad` and `proofs/tile/Sizes` have the proofs.
use Rattle.std.specs.Prelude.{ℕ, ◌<◌, ◌≤◌, true, List, ◌↔◌, ◌⊎◌, ◌≡◌, Some, None}
use Prim.Native.Char.{code}
use Rattle.scan.specs.Ascii.{ascii}
use Rattle.scan.specs.Byte.{peek_at, backslash, backquote}
use Rattle.scan.specs.Text.{Stands}
use Rattle.utf8.specs.Table.{char_length}
use Rattle.utf8.specs.Code.{is_scalar}
use Rattle.string.specs.declared.tile.Form.{Form}
use Rattle.string.specs.declared.tile.Form.TheVariants.{Plain, Letter, Hex, Octal, Point}
use Rattle.string.specs.Tile.{piece, amount_from, tile_of}

-- n digits of a radix stand from an offset on, and amount to v
abbrev pub AmountTo : ℕ → ℕ → ℕ → List ℕ → ℕ → Type 0
AmountTo radix at n xs v = amount_from radix 0 n at xs ≡ Some v

-- 01's escapes, by what follows the backslash: "`\a \b \f \n \r \t \v \\`, the literal's own quote sign,
abbrev pub IsLetter : ℕ → List ℕ → Type 0
IsLetter q xs = (peek_at xs 1 ≡ q) ⊎ Stands (peek_at xs 1) (ascii "abfnrtv\\")

-- `\xhh`,
abbrev pub IsHex : List ℕ → Type 0
IsHex xs = (peek_at xs 1 ≡ code "x") × ((v : ℕ) × AmountTo 16 2 2 xs v)

-- three octal digits up to 255,
abbrev pub IsOctal : List ℕ → Type 0
IsOctal xs = (v : ℕ) × AmountTo 8 1 3 xs v × (v ≤ 0xff)

-- `\uhhhh`, `\Uhhhhhhhh`; the last two never surrogates nor above 10FFFF."
abbrev pub IsPoint : List ℕ → Type 0
IsPoint xs =
    ((peek_at xs 1 ≡ code "u") × ((v : ℕ) × AmountTo 16 2 4 xs v × (is_scalar v ≡ true)))
    ⊎ ((peek_at xs 1 ≡ code "U") × ((v : ℕ) × AmountTo 16 2 8 xs v × (is_scalar v ≡ true)))

abbrev pub IsEscape : ℕ → List ℕ → Type 0
IsEscape q xs = IsLetter q xs ⊎ (IsHex xs ⊎ (IsOctal xs ⊎ IsPoint xs))

-- a backslash that is to begin one
abbrev pub EscapeBegun : ℕ → List ℕ → Type 0
EscapeBegun q xs = (peek_at xs 0 ≡ backslash) × (¬ (q ≡ backquote))

-- a tile is bad where the sign stands bare, where a backslash begins no escape, or where no character begins, and only there
abbrev pub BadWhen : Type 0
BadWhen =
    (q : ℕ) (xs : List ℕ) → 0 < q →
    tile_of q xs ≡ None ↔ (peek_at xs 0 ≡ q) ⊎ ((EscapeBegun q xs × (¬ (IsEscape q xs))) ⊎ ((¬ (EscapeBegun q xs)) × (char_length xs ≡ 0)))

-- how many bytes a good tile has: a character those of its own; `\a` and the like two; `\xhh` and three octal digits four; `\uhhhh` six and `\Uhhhhhhhh` ten
abbrev pub SizedAs : Form → List ℕ → ℕ → Type 0
SizedAs Plain xs n = n ≡ char_length xs
SizedAs Letter xs n = n ≡ 2
SizedAs Hex xs n = n ≡ 4
SizedAs Octal xs n = n ≡ 4
SizedAs Point xs n = ((peek_at xs 1 ≡ code "u") × (n ≡ 6)) ⊎ ((peek_at xs 1 ≡ code "U") × (n ≡ 10))

abbrev pub PieceSized : Type 0
PieceSized = (q : ℕ) (xs : List ℕ) (f : Form) (v n : ℕ) → tile_of q xs ≡ piece f v n → SizedAs f xs n
