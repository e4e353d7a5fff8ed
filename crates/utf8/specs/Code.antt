-- Code points and their bytes: RFC 3629, section 3, "UTF-8 definition".
use Rattle.std.specs.Prelude.{ℕ, ◌+◌, ◌*◌, ◌/◌, ◌%◌, ◌^◌, Bool, cond, ◌&&◌, ◌||◌, List, [], ◌∷◌, ◌++◌, leb, ltb}
use Rattle.scan.specs.Byte.{peek_at}

-- a code point is a character's where it is at most 10FFFF and no surrogate, D800 to DFFF
unfoldable pub is_scalar : ℕ → Bool
is_scalar c = leb c 0x10ffff && (ltb c 0xd800 || ltb 0xdfff c)

-- the code point of the character of n bytes that a list begins with: seven, five, four or three bits of its first byte, and six of
-- each other: 0xxxxxxx, 110xxxxx 10xxxxxx, 1110xxxx 10xxxxxx 10xxxxxx, 11110xxx 10xxxxxx 10xxxxxx 10xxxxxx
unfoldable pub code_of : ℕ → List ℕ → ℕ
code_of n xs =
    let a = peek_at xs 0 in
    let b = peek_at xs 1 % 64 in
    let c = peek_at xs 2 % 64 in
    let d = peek_at xs 3 % 64 in
    cond (leb n 1) (a % 128)
    (cond (leb n 2) (a % 32 * 64 + b)
    (cond (leb n 3) ((a % 16 * 64 + b) * 64 + c)
    (((a % 8 * 64 + b) * 64 + c) * 64 + d)))

-- the last six bits of a number, in a byte that goes on with a character
unfoldable pub six_bits : ℕ → ℕ
six_bits c = 0x80 + c % 64

-- the bytes of a code point that is a character's
unfoldable pub encoded : ℕ → List ℕ
encoded c =
    cond (leb c 0x7f) (c ∷ [])
    (cond (leb c 0x7ff) ((0xc0 + c / 64) ∷ six_bits c ∷ [])
    (cond (leb c 0xffff) ((0xe0 + c / 64 ^ 2) ∷ six_bits (c / 64) ∷ six_bits c ∷ [])
    ((0xf0 + c / 64 ^ 3) ∷ six_bits (c / 64 ^ 2) ∷ six_bits (c / 64) ∷ six_bits c ∷ [])))

-- and those of code points, one after the other
abbrev pub text_of : List ℕ → List ℕ
text_of [] = []
text_of (c ∷ cs) = encoded c ++ text_of cs
