-- What the tests of texts say, as statements; `proofs/Same` and `proofs/Stands` have the proofs.
use Rattle.std.specs.Prelude.{ℕ, ◌+◌, ◌<◌, ◌≤◌, true, false, ◌&&◌, ◌||◌, List, ◌++◌, ◌≡◌, eqb, length, get_or, drop}
use Rattle.scan.specs.Byte.{peek_at}
use Rattle.scan.specs.Text.{same_text, has, Stands}

-- the test of texts is equality
abbrev pub SameIsEqual : Type 0
SameIsEqual = (xs ys : List ℕ) → (same_text xs ys ≡ true → xs ≡ ys) × (xs ≡ ys → same_text xs ys ≡ true)

-- so texts of two lengths are not one
abbrev pub SameNot : Type 0
SameNot = (xs ys : List ℕ) → (length xs ≡ length ys → ⊥) → same_text xs ys ≡ false

-- it goes byte by byte, and is passed where there are no more
abbrev pub SameTurn : Type 0
SameTurn =
    (xs ys : List ℕ) (i : ℕ) → i < length xs → i < length ys →
    same_text (drop i xs) (drop i ys) ≡ eqb (get_or xs i 0) (get_or ys i 0) && same_text (drop (i + 1) xs) (drop (i + 1) ys)

abbrev pub SameOut : Type 0
SameOut = (xs ys : List ℕ) (i : ℕ) → length xs ≤ i → length ys ≤ i → same_text (drop i xs) (drop i ys) ≡ true

-- the test of a byte is whether it stands in the text
abbrev pub HasStands : Type 0
HasStands = (c : ℕ) (ys : List ℕ) → (has c ys ≡ true → Stands c ys) × (Stands c ys → has c ys ≡ true)

-- it stands in a text put together where it stands in a part,
abbrev pub HasAppend : Type 0
HasAppend = (c : ℕ) (u v : List ℕ) → has c (u ++ v) ≡ has c u || has c v

-- and where it does not stand, it stands at no place
abbrev pub NoneAt : Type 0
NoneAt = (c : ℕ) (t : List ℕ) → has c t ≡ false → (i : ℕ) → i < length t → eqb (peek_at t i) c ≡ false
