-- Where a text can be cut with no character cut in two: at its start, at its end, and behind an ASCII byte. `proofs/Edges` has the proofs.
use Rattle.std.specs.Prelude.{ℕ, suc, ◌<◌, ◌≤◌, Bool, true, false, ◌||◌, List, ◌≡◌, eqb, length}
use Rattle.scan.specs.declared.byte.Class.{Class}
use Rattle.scan.specs.declared.byte.Class.TheVariants.{Space, Alpha, Digit, HexDigit, AlphaNumeric, Word, Line}
use Rattle.scan.specs.Byte.{end, peek_at, is_in}
use Rattle.scan.specs.Run.{run_end}

pub data Edge (xs : List ℕ) : ℕ → Type 0 where
  first : Edge xs 0
  last : Edge xs (length xs)
  behind : (n : ℕ) → peek_at xs n < 0x80 → Edge xs (suc n)

-- an edge is within the text
abbrev pub EdgeWithin : Type 0
EdgeWithin = (xs : List ℕ) (n : ℕ) → Edge xs n → n ≤ length xs

-- all that stands in the list are bytes, and not `end`, which is none
abbrev pub Bytes : List ℕ → Type 0
Bytes xs = (i : ℕ) → i < length xs → peek_at xs i < end

-- a test that ASCII bytes alone pass
abbrev pub AsciiAlone : (ℕ → Bool) → Type 0
AsciiAlone p = (c : ℕ) → p c ≡ true → c < 0x80

-- a run of such bytes goes from an edge to an edge
abbrev pub EdgeRun : Type 0
EdgeRun = (p : ℕ → Bool) → AsciiAlone p → (xs : List ℕ) (n : ℕ) → Edge xs n → Edge xs (run_end p xs n)

-- the test of each class is one, but for that of a line, which a comment goes on with
abbrev pub is_ascii_class : Class → Bool
is_ascii_class Space = true
is_ascii_class Alpha = true
is_ascii_class Digit = true
is_ascii_class HexDigit = true
is_ascii_class AlphaNumeric = true
is_ascii_class Word = true
is_ascii_class Line = false

abbrev pub ClassAscii : Type 0
ClassAscii = (k : Class) → is_ascii_class k ≡ true → AsciiAlone (is_in k)

-- and so is that of one ASCII byte, and of either of two such tests
abbrev pub OneAscii : Type 0
OneAscii = (y : ℕ) → y < 0x80 → AsciiAlone (λ c. eqb c y)

abbrev pub OrAscii : Type 0
OrAscii = (p q : ℕ → Bool) → AsciiAlone p → AsciiAlone q → AsciiAlone (λ c. p c || q c)
