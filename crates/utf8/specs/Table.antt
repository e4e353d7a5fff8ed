-- The well-formed characters of UTF-8: RFC 3629, section 4, "Syntax of UTF-8 Byte Sequences".
use Rattle.std.specs.Prelude.{ℕ, Bool, true, false, cond, ◌&&◌, List, [], ◌∷◌, length}
use Rattle.scan.specs.Byte.{is_within}

-- the least and the greatest byte that may stand at a place
pub record Bounds : Type 0 where
  pub lo : ℕ
  pub hi : ℕ

infix 90 ◌to◌
abbrev pub ◌to◌ : ℕ → ℕ → Bounds
lo to hi = record { lo = lo; hi = hi }

abbrev pub tail : Bounds
tail = 0x80 to 0xbf

abbrev pub is_tail : ℕ → Bool
is_tail c = is_within tail.lo tail.hi c

-- a row for each alternative of UTF8-1, UTF8-2, UTF8-3 and UTF8-4, with the bounds of each byte of the character
abbrev pub rows : List (List Bounds)
rows =
    (0x00 to 0x7f ∷ [])
    ∷ (0xc2 to 0xdf ∷ tail ∷ [])
    ∷ (0xe0 to 0xe0 ∷ 0xa0 to 0xbf ∷ tail ∷ [])
    ∷ (0xe1 to 0xec ∷ tail ∷ tail ∷ [])
    ∷ (0xed to 0xed ∷ 0x80 to 0x9f ∷ tail ∷ [])
    ∷ (0xee to 0xef ∷ tail ∷ tail ∷ [])
    ∷ (0xf0 to 0xf0 ∷ 0x90 to 0xbf ∷ tail ∷ tail ∷ [])
    ∷ (0xf1 to 0xf3 ∷ tail ∷ tail ∷ tail ∷ [])
    ∷ (0xf4 to 0xf4 ∷ 0x80 to 0x8f ∷ tail ∷ tail ∷ [])
    ∷ []

-- a list begins with bytes within the bounds of a row
unfoldable pub fits : List Bounds → List ℕ → Bool
fits [] xs = true
fits (b ∷ bs) [] = false
fits (b ∷ bs) (x ∷ xs) = is_within b.lo b.hi x && fits bs xs

-- the length of the first row that the bytes of a list fit (they fit at most one), or 0 where they fit none
unfoldable pub size_in : List (List Bounds) → List ℕ → ℕ
size_in [] xs = 0
size_in (r ∷ rs) xs = cond (fits r xs) (length r) (size_in rs xs)

-- the length of the character that a list begins with, or 0 where it begins with none
unfoldable pub char_length : List ℕ → ℕ
char_length xs = size_in rows xs
