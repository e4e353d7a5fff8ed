-- The letters that stand behind a backslash for a character, in one table: reading looks a letter up, and escaping a character. Document 01
-- has the letters, and Go's specification, "Rune literals", what each stands for.
use Rattle.std.specs.Prelude.{ℕ, Bool, false, cond, ◌&&◌, List, [], ◌∷◌, eqb, ltb, Option, Some, None}
use Prim.Native.Char.{code}
use Rattle.scan.specs.Ascii.{ascii}
use Rattle.scan.specs.Byte.{backslash, double_quote}

-- "escapes `\a \b \f \n \r \t \v \\`": a letter, and the code point that it stands for
abbrev pub letters : List (ℕ × ℕ)
letters =
    (code "a", 0x07) ∷ (code "b", 0x08) ∷ (code "f", 0x0c) ∷ (code "n", 0x0a) ∷ (code "r", 0x0d) ∷ (code "t", 0x09) ∷ (code "v", 0x0b)
    ∷ (backslash, backslash) ∷ []

-- what a letter of a table stands for
unfoldable pub looked_up : List (ℕ × ℕ) → ℕ → Option ℕ
looked_up [] c = None
looked_up (p ∷ ps) c = cond (eqb p.0 c) (Some p.1) (looked_up ps c)

-- "the literal's own quote sign" stands for itself; NUL is no sign
abbrev pub is_own_sign : ℕ → ℕ → Bool
is_own_sign q c = eqb c q && ltb 0 q

-- what a byte behind the backslash stands for, in a literal with the sign q
unfoldable pub letter_value : ℕ → ℕ → Option ℕ
letter_value q c = cond (is_own_sign q c) (Some q) (looked_up letters c)

-- it stands for a character
abbrev pub is_for : ℕ → Option ℕ → Bool
is_for c (Some v) = eqb v c
is_for c None = false

-- the one of some letters that stands for a character between double quotes
unfoldable pub letter_among : List ℕ → ℕ → Option ℕ
letter_among [] c = None
letter_among (l ∷ ls) c = cond (is_for c (letter_value double_quote l)) (Some l) (letter_among ls c)

-- "Escaping writes `\\ \" \n \r \t` and copies the rest": the letter of a character that is not copied
unfoldable pub letter_of : ℕ → Option ℕ
letter_of c = letter_among (ascii "\\\"nrt") c
