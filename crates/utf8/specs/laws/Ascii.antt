-- What the crates above may know of ASCII bytes and characters, as statements. Their proofs stand in `proofs/Laws`, `proofs/Ascii`,
-- `proofs/Inverse` and `proofs/Bounds`.
use Rattle.std.specs.Prelude.{ℕ, suc, ◌≤◌, ◌<◌, Bool, true, false, cond, ◌&&◌, List, [], ◌∷◌, map, ◌≡◌, ltb, length, Ok}
use Rattle.scan.specs.Byte.{peek_at, lowered}
use Rattle.scan.specs.Text.{same_text}
use Rattle.utf8.specs.declared.Character.TheVariants.{Scalar}
use Rattle.utf8.specs.Table.{char_length}
use Rattle.utf8.specs.Code.{code_of}
use Rattle.utf8.specs.Text.{codes_of, prefix_end, WellFormed, is_well_formed, char_number}
use Rattle.utf8.specs.Answers.{count, validity_of, character_at}

-- an ASCII byte is the character at its offset
abbrev pub AsciiAt : Type 0
AsciiAt = (xs : List ℕ) (at : ℕ) → peek_at xs at < 0x80 → character_at xs at ≡ Scalar (peek_at xs at) 1

-- its code point is itself
abbrev pub AsciiCode : Type 0
AsciiCode = (x : ℕ) (xs : List ℕ) → x < 0x80 → code_of 1 (x ∷ xs) ≡ x

-- and what follows it is text where the whole is, and has one character number less
abbrev pub AsciiHead : Type 0
AsciiHead =
    (x : ℕ) (xs : List ℕ) → x < 0x80 →
    (prefix_end (x ∷ xs) ≡ suc (prefix_end xs)) × ((to : ℕ) → char_number (x ∷ xs) (suc to) ≡ suc (char_number xs to))

-- a character of one byte is ASCII
abbrev pub OneByte : Type 0
OneByte = (x : ℕ) (xs : List ℕ) → char_length (x ∷ xs) ≡ 1 → x < 0x80

-- no byte of a longer character is ASCII, and neither is its code point
abbrev pub NoneAscii : Type 0
NoneAscii = (xs : List ℕ) (i : ℕ) → 1 < char_length xs → i < char_length xs → 0x80 ≤ peek_at xs i

abbrev pub LongCode : Type 0
LongCode = (xs : List ℕ) → 1 < char_length xs → 0x80 ≤ code_of (char_length xs) xs

-- ASCII bytes are text, whose code points are the bytes
abbrev pub is_ascii : List ℕ → Bool
is_ascii [] = true
is_ascii (x ∷ xs) = ltb x 0x80 && is_ascii xs

abbrev pub AsciiText : Type 0
AsciiText = (xs : List ℕ) → is_ascii xs ≡ true → WellFormed xs × (codes_of xs ≡ xs)

-- of as many characters as bytes, and a place in them has as many before it
abbrev pub AsciiPlaces : Type 0
AsciiPlaces =
    (xs : List ℕ) → is_ascii xs ≡ true →
    (validity_of xs ≡ Ok (count (length xs))) × ((to : ℕ) → to ≤ length xs → char_number xs to ≡ to)

-- what is said of characters, and takes all that are not ASCII alike, can be read off the bytes
abbrev pub ByBytes : Type 1
ByBytes =
    (A : Type 0) (other : A) (f : List ℕ → A) → ((ys : List ℕ) → is_ascii ys ≡ false → f ys ≡ other) →
    (xs : List ℕ) → f xs ≡ cond (is_well_formed xs) (f (codes_of xs)) other

-- and what is not ASCII is no ASCII text in any case of its letters
abbrev pub LoweredOther : Type 0
LoweredOther = (ys t : List ℕ) → is_ascii ys ≡ false → is_ascii t ≡ true → same_text (map lowered ys) t ≡ false
