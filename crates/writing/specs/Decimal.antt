-- The shortest decimal digits of a number.
use Rattle.std.specs.Prelude.{ℕ, zero, suc, ◌+◌, ◌/◌, ◌%◌, Bool, true, false, List, [], ◌∷◌, ◌++◌, ltb}
use Prim.Native.Char.{code}

abbrev pub decimal_base : ℕ
decimal_base = 10

-- the digit that stands for a number below ten: `digit_of` of crate scan turned round
unfoldable pub digit_for : ℕ → ℕ
digit_for d = code "0" + d

-- the largest number that a u64 holds has so many digits
abbrev pub most_digits : ℕ
most_digits = 20

-- one digit, or the digits of n / 10, as `before` has them, and then the digit n % 10
abbrev pub digits_by : Bool → (ℕ → List ℕ) → ℕ → List ℕ
digits_by true before n = digit_for n ∷ []
digits_by false before n = before (n / decimal_base) ++ digit_for (n % decimal_base) ∷ []

-- k bounds how many digits stand before the last
unfoldable pub digits_within : ℕ → ℕ → List ℕ
digits_within zero n = digit_for n ∷ []
digits_within (suc k) n = digits_by (ltb n decimal_base) (digits_within k) n

-- a number has fewer digits before the last than it counts, so the bound cuts nothing off (`MoreDigits` of `laws/Writing`)
unfoldable pub decimal_text : ℕ → List ℕ
decimal_text n = digits_within n n
