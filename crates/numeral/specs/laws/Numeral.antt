-- What the crates above may know of numbers and durations, as statements; `proofs/Within`, `proofs/Seam` and
-- `proofs/Readings` have their proofs.
use Rattle.std.specs.Prelude.{ℕ, ◌+◌, ◌<◌, ◌≤◌, true, false, cond, ◌||◌, List, ◌∷◌, ◌++◌, ◌≡◌, eqb, take, drop}
use Prim.Native.Char.{code}
use Rattle.scan.specs.declared.byte.Class.{Class}
use Rattle.scan.specs.declared.byte.Class.TheVariants.{Digit, HexDigit}
use Rattle.scan.specs.Byte.{peek_at, lowered, is_alpha, is_digit, is_in}
use Rattle.scan.specs.Run.{run_end}
use Rattle.scan.specs.Separated.{separator}
use Rattle.scan.specs.Sign.{past_sign}
use Rattle.scan.specs.Text.{has}
use Rattle.scan.specs.laws.Edge.{Edge}
use Rattle.utf8.specs.declared.Reading.{Reading}
use Rattle.utf8.specs.declared.Reading.TheVariants.{Crate, Documented}
use Rattle.numeral.specs.declared.Part.TheVariants.{Unit}
use Rattle.numeral.specs.declared.Numeral.{Numeral}
use Rattle.numeral.specs.declared.Numeral.TheVariants.{Number, Neither}
use Rattle.numeral.specs.Texts.{Begun}
use Rattle.numeral.specs.Numeral.{is_hex, is_first_unit, duration_from, taken, numeral_of}

-- what begins with a digit or a point takes one byte at least, and ends within the bytes, behind one that is ASCII
abbrev pub NumeralWithin : Type 0
NumeralWithin =
    (r : Reading) (xs : List ℕ) → is_digit (peek_at xs 0) || eqb (peek_at xs 0) (code ".") ≡ true → (1 ≤ taken (numeral_of r xs)) × Edge xs (taken (numeral_of r xs))

-- a newline behind the bytes changes nothing
abbrev pub NumeralSeam : Type 0
NumeralSeam = (r : Reading) (xs ys : List ℕ) → numeral_of r (xs ++ code "\n" ∷ ys) ≡ numeral_of r xs

-- document 01's number alone, with runs of digits and no separators
abbrev pub plain_mantissa : Class → List ℕ → ℕ → ℕ
plain_mantissa k xs from = let n = run_end (is_in k) xs from in cond (eqb (peek_at xs n) (code ".")) (run_end (is_in k) xs (n + 1)) n

abbrev pub plain_exponent : List ℕ → ℕ → ℕ
plain_exponent xs at = cond (eqb (lowered (peek_at xs at)) (code "e")) (run_end (is_in Digit) xs (past_sign xs (at + 1))) at

abbrev pub plain_end : List ℕ → ℕ
plain_end xs = plain_exponent xs (cond (is_hex xs) (plain_mantissa HexDigit xs 2) (plain_mantissa Digit xs 0))

abbrev pub plain_numeral : List ℕ → Numeral
plain_numeral xs =
    let n = plain_end xs in
    let c = peek_at xs n in
    cond (eqb c (code ".")) (Neither n)
    (cond (is_alpha c) (cond (is_first_unit c) (duration_from Unit (n + 1) (drop (n + 1) xs)) (Neither n))
    (Number n))

-- the crate reading is that
abbrev pub NumeralAsBefore : Type 0
NumeralAsBefore = (xs : List ℕ) → numeral_of Crate xs ≡ plain_numeral xs

-- where the documented reading takes no separator, both readings are one,
abbrev pub ReadAlike : Type 0
ReadAlike =
    (xs : List ℕ) → Begun xs → has separator (take (taken (numeral_of Documented xs)) xs) ≡ false → numeral_of Documented xs ≡ numeral_of Crate xs

-- and where it takes some, the crate reading is stopped at the first
abbrev pub CrateStopped : Type 0
CrateStopped =
    (xs : List ℕ) → Begun xs → (i : ℕ) → i < taken (numeral_of Documented xs) → peek_at xs i ≡ separator → has separator (take i xs) ≡ false →
    numeral_of Crate xs ≡ Neither i
