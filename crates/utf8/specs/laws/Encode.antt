-- What the crates above may know of the bytes of code points and of writing them, as statements. Their proofs stand in `proofs/Inverse`,
-- `proofs/Ascii`, `proofs/Bounds` and `proofs/encode/Bounds`.
use Rattle.std.specs.Prelude.{ℕ, ◌+◌, ◌≤◌, ◌<◌, true, List, [], ◌∷◌, ◌++◌, ◌≡◌, length, take, Ok}
use Rattle.std.proofs.lemmas.List.Edits.{sets}
use Rattle.utf8.specs.declared.Character.TheVariants.{Scalar}
use Rattle.utf8.specs.Table.{char_length}
use Rattle.utf8.specs.Code.{code_of, is_scalar, encoded}
use Rattle.utf8.specs.Answers.{character_of}
use Rattle.utf8.specs.Writing.{left_at}
use Rattle.utf8.specs.Encode.{encoding_of}

-- the bytes of a code point are one character, which has that code point, whatever follows
abbrev pub EncodeDecode : Type 0
EncodeDecode = (c : ℕ) (ys : List ℕ) → is_scalar c ≡ true → character_of (encoded c ++ ys) ≡ Scalar c (length (encoded c))

-- and the code point of a character is one that has the character's bytes
abbrev pub DecodeEncode : Type 0
DecodeEncode =
    (xs : List ℕ) → 0 < char_length xs →
    let c = code_of (char_length xs) xs in (is_scalar c ≡ true) × (encoded c ≡ take (char_length xs) xs)

-- an ASCII code point has one byte, itself, and no code point has more than four
abbrev pub AsciiBytes : Type 0
AsciiBytes = (c : ℕ) → c < 0x80 → encoded c ≡ c ∷ []

abbrev pub FewBytes : Type 0
FewBytes = (c : ℕ) → length (encoded c) ≤ 4

-- a byte's value is a character's code point
abbrev pub ByteScalar : Type 0
ByteScalar = (c : ℕ) → c ≤ 0xff → is_scalar c ≡ true

-- a character that has room is written
abbrev pub EncodingFits : Type 0
EncodingFits = (c room at : ℕ) → is_scalar c ≡ true → at + length (encoded c) ≤ room → encoding_of c room at ≡ Ok (length (encoded c))

-- at most four bytes are
abbrev pub EncodingBound : Type 0
EncodingBound = (c room at n : ℕ) → encoding_of c room at ≡ Ok n → n ≤ 4

-- and any text that has room is stored byte by byte
abbrev pub WrittenSets : Type 0
WrittenSets = (text d : List ℕ) (at : ℕ) → at + length text ≤ length d → left_at at (Ok (length text)) text d ≡ sets d at text
