-- What the crates above may know of characters, one after the other, as statements. Their proofs stand in `proofs/Laws`, `proofs/Texts` and
-- `proofs/Bounds`.
use Rattle.std.specs.Prelude.{ℕ, ◌+◌, ◌≤◌, ◌<◌, true, List, [], ◌∷◌, ◌++◌, ◌⊎◌, ◌≡◌, length, drop}
use Rattle.utf8.specs.declared.Character.{Character}
use Rattle.utf8.specs.declared.Character.TheVariants.{Scalar, Nothing, IllFormed}
use Rattle.utf8.specs.Table.{char_length}
use Rattle.utf8.specs.Code.{code_of, is_scalar}
use Rattle.utf8.specs.Text.{char_of, chars_of, codes_of, WellFormed}
use Rattle.utf8.specs.Answers.{character_at}

-- the characters are the one that the bytes begin with, and those of the rest; none where they begin with none
abbrev pub Steps : Type 0
Steps =
    (xs : List ℕ) →
    let n = char_length xs in
    (n ≤ length xs) × (n ≡ 0 → chars_of xs ≡ []) × (0 < n → chars_of xs ≡ char_of n xs ∷ chars_of (drop n xs))

-- text of which no character begins is empty
abbrev pub NoneEmpty : Type 0
NoneEmpty = (xs : List ℕ) → char_length xs ≡ 0 → WellFormed xs → xs ≡ []

-- and what the first character of a text leaves is text
abbrev pub RestText : Type 0
RestText = (xs : List ℕ) → 0 < char_length xs → WellFormed xs → WellFormed (drop (char_length xs) xs)

-- the bytes of one character
pub record One (bs : List ℕ) : Type 0 where
  pub some : 0 < length bs
  pub whole : char_length bs ≡ length bs

-- what holds where no character begins, and goes over from a rest to the whole, holds of any bytes
abbrev pub OneByOne : Type 1
OneByOne =
    (P : List ℕ → Type 0) → ((xs : List ℕ) → char_length xs ≡ 0 → P xs) → ((bs ys : List ℕ) → One bs → P ys → P (bs ++ ys)) →
    (xs : List ℕ) → P xs

-- the characters of a character's bytes and of what follows: it, and those of the rest
abbrev pub CharsOne : Type 0
CharsOne = (bs ys : List ℕ) → One bs → chars_of (bs ++ ys) ≡ char_of (length bs) bs ∷ chars_of ys

-- at the front stands it
abbrev pub CharacterOne : Type 0
CharacterOne = (bs ys : List ℕ) → One bs → character_at (bs ++ ys) 0 ≡ Scalar (code_of (length bs) bs) (length bs)

-- by itself it is text, and so is what follows it in one
abbrev pub OneText : Type 0
OneText = (bs : List ℕ) → One bs → WellFormed bs

abbrev pub RestWell : Type 0
RestWell = (bs ys : List ℕ) → One bs → WellFormed (bs ++ ys) → WellFormed ys

-- the character at the front is the one that the bytes begin with; where they begin with none there is none
abbrev pub FirstCharacter : Type 0
FirstCharacter =
    (xs : List ℕ) →
    let n = char_length xs in
    (0 < n → character_at xs 0 ≡ Scalar (code_of n xs) n) × (n ≡ 0 → (character_at xs 0 ≡ Nothing) ⊎ (character_at xs 0 ≡ IllFormed))

-- the character at an offset from which on there is text: its code point and its size, and what there is behind it
pub record Standing (xs : List ℕ) (at c n : ℕ) : Type 0 where
  pub some : 0 < n
  pub within : at + n ≤ length xs
  pub scalar : is_scalar c ≡ true
  pub codes : codes_of (drop at xs) ≡ c ∷ codes_of (drop (at + n) xs)
  pub behind : WellFormed (drop (at + n) xs)

abbrev pub StandsAt : List ℕ → ℕ → Character → Type 0
StandsAt xs at (Scalar c n) = Standing xs at c n
StandsAt xs at Nothing = ⊥
StandsAt xs at IllFormed = ⊥

-- before the end there is one
abbrev pub CharacterStands : Type 0
CharacterStands = (xs : List ℕ) (at : ℕ) → at < length xs → WellFormed (drop at xs) → StandsAt xs at (character_at xs at)
