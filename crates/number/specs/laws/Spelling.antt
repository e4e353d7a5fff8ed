-- An integer as it is written, `[+-]? (0x [+-]? H+ | 0 [+-]? O+)`, piece by piece; and the statements that `Refusals` says this of a text in
-- lower case, and takes the magnitude and the signs of these pieces. `proofs/Spelling` proves them.
use Rattle.std.specs.Prelude.{◌≡◌, ℕ, ◌<◌, true, ◌↔◌, List, [], ◌++◌, length}
use Rattle.scan.specs.Ascii.{ascii}
use Rattle.scan.specs.Sign.{is_minus}
use Rattle.scan.specs.Digits.{value_of}
use Rattle.decimal.specs.declared.Notation.{Notation}
use Rattle.decimal.specs.declared.Notation.TheVariants.{Decimal, Hex, Octal}
use Rattle.decimal.specs.Value.{radix_of}
use Rattle.decimal.specs.laws.Spelling.{Sign}
use Rattle.number.specs.Number.{notation_of}
use Rattle.number.specs.laws.Refusals.{AllDigits, Whole, magnitude, own}

-- what an integer's notation is told by; a decimal has no mark
abbrev pub mark : Notation → List ℕ
mark Hex = ascii "0x"
mark Octal = ascii "0"
mark Decimal = []

-- the outer sign s, the mark, the own sign o, and the digits ds, one at least
abbrev pub IntegerOf : Notation → (s o ds t : List ℕ) → Type 0
IntegerOf n s o ds t =
    (0 < length (mark n))
    × Sign s
    × Sign o
    × AllDigits (radix_of n) ds
    × (0 < length ds)
    × (t ≡ s ++ (mark n ++ (o ++ ds)))

-- a text is an integer where it is so spelled,
abbrev pub WholeSpelled : Type 0
WholeSpelled = (t : List ℕ) → Whole t ↔ ((n : Notation) × (s o ds : List ℕ) × IntegerOf n s o ds t)

-- and what its value is taken of are the parts of the spelling
abbrev pub PiecesSpelled : Type 0
PiecesSpelled =
    (n : Notation) (s o ds t : List ℕ) → IntegerOf n s o ds t →
    (notation_of t ≡ n)
    × (magnitude t ≡ value_of (radix_of n) ds)
    × (own t ≡ true ↔ o ≡ ascii "-")
    × (is_minus t 0 ≡ true ↔ s ≡ ascii "-")
