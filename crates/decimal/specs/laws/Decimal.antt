-- What the readers of numbers and durations may know of decimals, as statements. `proofs/Exactness`, `proofs/Ranges` and `proofs/Given`
-- have the proofs.
use Rattle.std.specs.Prelude.{ℕ, ◌+◌, ◌*◌, ◌%◌, ◌^◌, ◌≤◌, true, List, ◌↔◌, ◌⊎◌, ◌≡◌, pos, length}
use Rattle.std.specs.Float.{nan, inf, fin}
use Rattle.decimal.specs.declared.Number.{Number}
use Rattle.decimal.specs.declared.Decimal.TheVariants.{NotDecimal, Named, Exact, Outside}
use Rattle.scan.specs.Sign.{is_minus}
use Rattle.decimal.specs.Grammar.{is_numeral, is_infinite, is_nan}
use Rattle.decimal.specs.Value.{numerator, denominator, nearest_of, most_exact, most_exponent, is_in_exact, plain, decimal_limit, decimal_of}

-- "duration and number text 256"; and what the grammar has, which `laws/Spelling` spells out
abbrev pub Short : List ℕ → Type 0
Short xs = length xs ≤ decimal_limit

abbrev pub Infinite : List ℕ → Type 0
Infinite xs = is_infinite xs ≡ true

abbrev pub Nan : List ℕ → Type 0
Nan xs = is_nan xs ≡ true

abbrev pub Numeric : List ℕ → Type 0
Numeric xs = is_numeral xs ≡ true

abbrev pub Spelled : List ℕ → Type 0
Spelled xs = Infinite xs ⊎ (Nan xs ⊎ Numeric xs)

-- a value of zero
abbrev pub Zero : List ℕ → Type 0
Zero xs = numerator xs ≡ 0

-- "A nonzero value is w times 10^E, w not divisible by ten"; E is up less down
pub record Scaled (xs : List ℕ) (w up down : ℕ) : Type 0 where
  pub value : w * 10 ^ up * denominator xs ≡ numerator xs * 10 ^ down
  pub not_by_ten : ¬ (w % 10 ≡ 0)

-- there are such w and E, and no others
abbrev pub SomeScale : Type 0
SomeScale = (xs : List ℕ) → (¬ (Zero xs)) → (w up down : ℕ) × Scaled xs w up down

abbrev pub OneScale : Type 0
OneScale = (xs : List ℕ) (w u d v a b : ℕ) → Scaled xs w u d → Scaled xs v a b → (w ≡ v) × (u + b ≡ a + d)

-- "it is exact if w is at most 2^53 and E lies in -22 to 22"
abbrev pub InRange : ℕ → ℕ → ℕ → Type 0
InRange w up down = (w ≤ most_exact) × ((up ≤ down + most_exponent) × (down ≤ up + most_exponent))

abbrev pub ExactRange : List ℕ → Type 0
ExactRange xs = (w up down : ℕ) × Scaled xs w up down × InRange w up down

-- "Zero is accepted with any exponent"
abbrev pub InExact : List ℕ → Type 0
InExact xs = Zero xs ⊎ ExactRange xs

-- and this is what the definition tests
abbrev pub ExactTold : Type 0
ExactTold = (xs : List ℕ) → is_in_exact xs ≡ true ↔ InExact xs

-- 53 "decimal outside the exact range"
abbrev pub OutsideExact : List ℕ → Type 0
OutsideExact xs = Numeric xs × (¬ (InExact xs))

-- when each answer is given
abbrev pub DecimalGiven : Type 0
DecimalGiven =
    (xs : List ℕ) →
    let d = decimal_of xs in
    (d ≡ Named (plain (inf (is_minus xs 0))) ↔ Short xs × Infinite xs)
    × (d ≡ Named (plain nan) ↔ Short xs × Nan xs)
    × (d ≡ Exact (nearest_of xs) ↔ Short xs × Numeric xs × InExact xs)
    × (d ≡ Outside (is_minus xs 0) ↔ Short xs × OutsideExact xs)
    × (d ≡ NotDecimal ↔ (¬ (Short xs × Spelled xs)))

-- so whatever is accepted is the nearest f64, and zero "keeps its sign"
abbrev pub NearestValue : Type 0
NearestValue = (xs : List ℕ) (n : Number) → decimal_of xs ≡ Exact n → n ≡ nearest_of xs

abbrev pub ZeroKept : Type 0
ZeroKept = (xs : List ℕ) → Short xs → Numeric xs → Zero xs → decimal_of xs ≡ Exact (plain (fin (is_minus xs 0) 0 (pos 0)))
