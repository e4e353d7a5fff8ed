-- The grammar of a decimal text as it is written, `[+-]? (inf | infinity | nan | (D+ | D+ . D* | D* . D+) (e [+-]? D+)?)` with letters in any
-- case, piece by piece; and the statements that the tests and the places of `Grammar` are it, which `proofs/Spelling` proves.
use Rattle.std.specs.Prelude.{ℕ, ◌<◌, ◌≤◌, true, false, List, [], ◌∷◌, ◌++◌, map, ◌↔◌, ◌⊎◌, ◌≡◌, length, drop}
use Prim.Native.Char.{code}
use Rattle.scan.specs.Ascii.{ascii}
use Rattle.scan.specs.declared.byte.Class.TheVariants.{Digit}
use Rattle.scan.specs.Byte.{peek_at, lowered, is_in}
use Rattle.scan.specs.Sign.{past_sign, is_minus}
use Rattle.decimal.specs.Grammar.{is_numeral, is_infinite, is_nan, fraction_of, digits_of, exponent_of, is_negative_exponent}

-- [+-]?
abbrev pub Sign : List ℕ → Type 0
Sign xs = (xs ≡ []) ⊎ ((xs ≡ ascii "+") ⊎ (xs ≡ ascii "-"))

-- a sign ends where what comes behind it begins with a point or a later byte, as no sign does; and one is found at every place
abbrev pub SignCut : Type 0
SignCut =
    (xs : List ℕ) (n : ℕ) (s ys : List ℕ) → Sign s → code "." ≤ peek_at ys 0 → drop n xs ≡ s ++ ys →
    (drop (past_sign xs n) xs ≡ ys) × (is_minus xs n ≡ true ↔ s ≡ ascii "-")

abbrev pub SignFound : Type 0
SignFound = (xs : List ℕ) (n : ℕ) → (s : List ℕ) × Sign s × (drop n xs ≡ s ++ drop (past_sign xs n) xs)

-- D*
abbrev pub Digits : List ℕ → Type 0
Digits [] = Unit {0}
Digits (x ∷ xs) = (is_in Digit x ≡ true) × Digits xs

-- D+
abbrev pub SomeDigits : List ℕ → Type 0
SomeDigits xs = Digits xs × (0 < length xs)

-- D+ | D+ . D* | D* . D+: the digits a, and b behind a point
abbrev pub Mantissa : (a b xs : List ℕ) → Type 0
Mantissa a b xs =
    (SomeDigits a × (b ≡ []) × (xs ≡ a))
    ⊎ (((SomeDigits a × Digits b) ⊎ (Digits a × SomeDigits b)) × (xs ≡ a ++ (code "." ∷ b)))

-- (e [+-]? D+)?: the sign t and the digits d
abbrev pub Power : (t d xs : List ℕ) → Type 0
Power t d xs =
    ((t ≡ []) × (d ≡ []) × (xs ≡ []))
    ⊎ (Sign t × SomeDigits d × ((e : ℕ) × (lowered e ≡ code "e") × (xs ≡ e ∷ (t ++ d))))

-- [+-]? (D+ | D+ . D* | D* . D+) (e [+-]? D+)?: the sign s, and these parts
abbrev pub NumeralOf : (s a b t d xs : List ℕ) → Type 0
NumeralOf s a b t d xs = (m p : List ℕ) × Sign s × Mantissa a b m × Power t d p × (xs ≡ s ++ (m ++ p))

-- [+-]? name, in any case
abbrev pub NameOf : (name s xs : List ℕ) → Type 0
NameOf name s xs = (w : List ℕ) × Sign s × (map lowered w ≡ name) × (xs ≡ s ++ w)

-- [+-]? (inf | infinity)
abbrev pub InfinityOf : (s xs : List ℕ) → Type 0
InfinityOf s xs = NameOf (ascii "inf") s xs ⊎ NameOf (ascii "infinity") s xs

-- what the tests take is what is so spelled,
abbrev pub NumeralSpelled : Type 0
NumeralSpelled = (xs : List ℕ) → is_numeral xs ≡ true ↔ ((s a b t d : List ℕ) × NumeralOf s a b t d xs)

abbrev pub NamesSpelled : Type 0
NamesSpelled =
    (xs : List ℕ) →
    (is_infinite xs ≡ true ↔ ((s : List ℕ) × InfinityOf s xs))
    × (is_nan xs ≡ true ↔ ((s : List ℕ) × NameOf (ascii "nan") s xs))

-- in one of the three ways only,
abbrev pub SpelledOnce : Type 0
SpelledOnce =
    (xs : List ℕ) →
    (is_infinite xs ≡ true → is_nan xs ≡ false)
    × (is_infinite xs ≡ true → is_numeral xs ≡ false)
    × (is_nan xs ≡ true → is_numeral xs ≡ false)

-- and the parts that a value is taken of are those of the spelling
abbrev pub PartsSpelled : Type 0
PartsSpelled =
    (s a b t d xs : List ℕ) → NumeralOf s a b t d xs →
    (is_minus xs 0 ≡ true ↔ s ≡ ascii "-")
    × (digits_of xs ≡ a ++ b)
    × (fraction_of xs ≡ b)
    × (is_negative_exponent xs ≡ true ↔ t ≡ ascii "-")
    × (exponent_of xs ≡ d)

abbrev pub SignSpelled : Type 0
SignSpelled = (s xs : List ℕ) → InfinityOf s xs → is_minus xs 0 ≡ true ↔ s ≡ ascii "-"
