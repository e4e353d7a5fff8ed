-- What holds of reading a literal, as statements. Their proofs stand in `proofs/Readings` and `proofs/Back`.
use Rattle.std.specs.Prelude.{ℕ, ◌≤◌, Bool, true, false, ◌&&◌, ◌||◌, List, [], ◌∷◌, ◌++◌, ◌≡◌, leb, length, Option, Some, None, Err, Ok, Result}
use Rattle.utf8.specs.declared.Refusal.{Refusal}
use Rattle.scan.specs.Byte.{double_quote}
use Rattle.utf8.specs.declared.Reading.{Reading}
use Rattle.utf8.specs.declared.Reading.TheVariants.{Crate, Documented}
use Rattle.utf8.specs.Text.{WellFormed}
use Rattle.utf8.specs.Answers.{text_limit}
use Rattle.utf8.specs.laws.Refusals.{Taken}
use Rattle.string.specs.declared.tile.Piece.{Piece}
use Rattle.string.specs.Tile.{is_byte}
use Rattle.string.specs.declared.Unquoted.{Unquoted}
use Rattle.string.specs.Escape.{escaped}
use Rattle.string.specs.Tiles.{tiles_of}
use Rattle.string.specs.Literal.{sign_of, inner_of, is_bad_literal, unquoted, unquoting_of, text_by, part_of}

-- an answer that is no refusal names the text of the literal, in the literal or in the buffer as it was left
abbrev pub is_read : Result Unquoted Refusal → Bool
is_read (Ok t) = true
is_read (Err s) = false

abbrev pub PartIsText : Type 0
PartIsText =
    (r : Reading) (xs d : List ℕ) →
    let u = unquoting_of r (length d) xs in
    is_read u ≡ true → part_of u xs (text_by u (unquoted r xs) d) ≡ unquoted r xs

-- and a literal that is not bad is read, where the limit and the room are kept
abbrev pub GoodRead : Type 0
GoodRead =
    (r : Reading) (room : ℕ) (xs : List ℕ) → Taken text_limit xs → is_bad_literal xs ≡ false → length (unquoted r xs) ≤ room →
    is_read (unquoting_of r room xs) ≡ true

-- the two readings give the same where no byte escape has a value of 80 hex or more
abbrev pub is_high_byte : Option Piece → Bool
is_high_byte (Some p) = is_byte p.form && leb 0x80 p.value
is_high_byte None = false

unfoldable pub has_high_byte : List (Option Piece) → Bool
has_high_byte [] = false
has_high_byte (t ∷ ts) = is_high_byte t || has_high_byte ts

abbrev pub ReadingsAgree : Type 0
ReadingsAgree =
    (xs : List ℕ) → has_high_byte (tiles_of (sign_of xs) (inner_of xs)) ≡ false →
    (unquoted Crate xs ≡ unquoted Documented xs) × ((room : ℕ) → unquoting_of Crate room xs ≡ unquoting_of Documented room xs)

-- a text between double quotes
abbrev pub quoted : List ℕ → List ℕ
quoted ys = double_quote ∷ ys ++ (double_quote ∷ [])

-- reading the escape of a text gives the text, in both readings
abbrev pub ReadBack : Type 0
ReadBack =
    (r : Reading) (xs : List ℕ) → WellFormed xs →
    let literal = quoted (escaped xs) in (is_bad_literal literal ≡ false) × (unquoted r literal ≡ xs)

-- and so of joined texts, from their joined escapes
abbrev pub ReadBackJoin : Type 0
ReadBackJoin =
    (r : Reading) (xs ys : List ℕ) → WellFormed xs → WellFormed ys →
    let literal = quoted (escaped xs ++ escaped ys) in (is_bad_literal literal ≡ false) × (unquoted r literal ≡ xs ++ ys)

-- where the limit and the room are kept, it is read, and that is the part which the answer names
abbrev pub ReadBackPart : Type 0
ReadBackPart =
    (r : Reading) (xs d : List ℕ) → WellFormed xs →
    let literal = quoted (escaped xs) in
    let u = unquoting_of r (length d) literal in
    length literal ≤ text_limit → length xs ≤ length d → (is_read u ≡ true) × (part_of u literal (text_by u (unquoted r literal) d) ≡ xs)
