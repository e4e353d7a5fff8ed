-- What tells that a place is within a list, as statements: where a byte stands there, it is. `proofs/Runs` and `proofs/Edges` have the proofs.
use Rattle.std.specs.Prelude.{ℕ, ◌<◌, ◌≤◌, Bool, true, false, List, ◌∷◌, ◌++◌, ◌≡◌, eqb, length}
use Rattle.scan.specs.Byte.{end, peek_at}

-- what passes a test that the end does not stands within the list
abbrev pub TestInside : Type 0
TestInside = (p : ℕ → Bool) → p end ≡ false → (xs : List ℕ) (n : ℕ) → p (peek_at xs n) ≡ true → n < length xs

-- so do an ASCII byte, and whatever is not the end
abbrev pub AsciiInside : Type 0
AsciiInside = (xs : List ℕ) (n : ℕ) → peek_at xs n < 0x80 → n < length xs

abbrev pub PeekInside : Type 0
PeekInside = (xs : List ℕ) (n : ℕ) → eqb (peek_at xs n) end ≡ false → n < length xs

-- and a test that takes a byte as it takes the end is not changed by what follows that byte
abbrev pub PeekAppend : Type 0
PeekAppend =
    (p : ℕ → Bool) (y : ℕ) → p y ≡ p end → (xs ys : List ℕ) (n : ℕ) → n ≤ length xs → p (peek_at (xs ++ (y ∷ ys)) n) ≡ p (peek_at xs n)
