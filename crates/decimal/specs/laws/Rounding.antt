-- How a decimal's value is rounded, as statements: document 01, "the result is one rounded multiplication or division of two exact values".
-- `proofs/Rounding` and `proofs/Distances` have the proofs.
use Rattle.std.specs.Prelude.{ℕ, ◌+◌, ◌-◌, ◌*◌, ◌^◌, ◌≤◌, Bool, false, cond, List, ◌⊎◌, ◌≡◌, T, pos, Float}
use Rattle.std.specs.Float.{binary64}
use Rattle.std.specs.Float.Ieee.{neg, mul, div, round, of_int, fits}
use Rattle.std.specs.Float.Ieee.Exact.{HasValue}
use Rattle.std.specs.Float.Ieee.Positive.{num, den}
use Rattle.std.specs.Float.Ieee.Scale.{finite}
use Rattle.scan.specs.Sign.{is_minus}
use Rattle.decimal.specs.declared.Number.{Number}
use Rattle.decimal.specs.declared.Decimal.TheVariants.{Exact}
use Rattle.decimal.specs.Value.{numerator, denominator, most_exact, most_exponent, plain, decimal_of}
use Rattle.decimal.specs.laws.Decimal.{Zero, Scaled}

-- a whole number as an f64, and that the f64 is this number: `HasValue x s a c` of the kit says that x is finite, has the sign s, and is
-- a / c in size
abbrev pub float_of : ℕ → Float
float_of n = of_int binary64 (pos n)

abbrev pub Held : ℕ → Type 0
Held n = HasValue (float_of n) false n 1

-- an f64 with a minus or without
abbrev pub signed : Bool → Float → Float
signed minus x = cond minus (neg x) x

-- a sign goes through rounding
abbrev pub SignedRound : Type 0
SignedRound = (minus : Bool) (n d : ℕ) → signed minus (round binary64 false n d) ≡ round binary64 minus n d

-- w and a power of ten are exact; the result is their product where E is not negative, and else their quotient, with the text's sign
abbrev pub OnceRounded : List ℕ → Number → Type 0
OnceRounded xs n =
    (w e : ℕ) × (w ≤ most_exact) × (e ≤ most_exponent) × Held w × Held (10 ^ e)
    × ((Scaled xs w e 0 × (n ≡ plain (signed (is_minus xs 0) (mul binary64 (float_of w) (float_of (10 ^ e))))))
    ⊎ (Scaled xs w 0 e × (n ≡ plain (signed (is_minus xs 0) (div binary64 (float_of w) (float_of (10 ^ e)))))))

abbrev pub OneRounding : Type 0
OneRounding = (xs : List ℕ) (n : Number) → decimal_of xs ≡ Exact n → (¬ (Zero xs)) → OnceRounded xs n

-- how far apart two numbers are
abbrev pub distance : ℕ → ℕ → ℕ
distance a b = a - b + (b - a)

-- x is no farther from n / d than y is, by their sizes, which are `num` over `den`: the denominators are multiplied out
abbrev pub NoFarther : Float → Float → ℕ → ℕ → Type 0
NoFarther x y n d = distance (num x * d) (n * den x) * den y ≤ distance (num y * d) (n * den y) * den x

-- what is accepted has the text's sign, and no f64 is nearer to the value; one of the other sign is farther than its size says
abbrev pub NearestF64 : Type 0
NearestF64 =
    (xs : List ℕ) (n : Number) → decimal_of xs ≡ Exact n →
    HasValue n.value (is_minus xs 0) (num n.value) (den n.value)
    × ((y : Float) → T (fits binary64 y) → T (finite y) → NoFarther n.value y (numerator xs) (denominator xs))
