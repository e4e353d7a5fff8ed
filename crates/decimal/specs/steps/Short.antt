-- What the code tells of a short text that begins with a digit, and by what. Nothing that is promised outside rests on it.
use Rattle.std.specs.Prelude.{ℕ, ◌+◌, ◌^◌, ◌≤◌, ◌<◌, true, false, cond, ◌&&◌, List, ◌≡◌, leb, length}
use Rattle.scan.specs.declared.byte.Class.TheVariants.{Digit}
use Rattle.scan.specs.Byte.{peek_at, is_in}
use Rattle.scan.specs.Run.{run_end}
use Rattle.scan.specs.Digits.{value_from, value_of}
use Rattle.decimal.specs.declared.Decimal.TheVariants.{NotDecimal, Exact}
use Rattle.decimal.specs.declared.short.Digits.{Digits}
use Rattle.decimal.specs.declared.short.Short.{Short}
use Rattle.decimal.specs.declared.short.Short.TheVariants as short
use Rattle.decimal.specs.Grammar.{between, fraction_to, fraction_of, digits_of}
use Rattle.decimal.specs.Value.{most_exponent, plain, decimal_of}
use Rattle.decimal.specs.steps.Scale.{nearest}

-- so many digits amount to less than 2^53
abbrev pub most_short : ℕ
most_short = 15

abbrev pub most_raised : ℕ
most_raised = 7

-- the digits from a place on, behind others
abbrev pub digits_from : List ℕ → ℕ → ℕ → Digits
digits_from xs from start =
    let end = run_end (is_in Digit) xs from in
    record { value = value_from 10 start (between xs from end); end = end }

-- a short text begins with a digit; its digits end at a place, amount to w, and so many of them stand behind the point
pub record Led (xs : List ℕ) (at w behind : ℕ) : Type 0 where
  pub few : length xs ≤ most_short
  pub first : is_in Digit (peek_at xs 0) ≡ true
  pub ends : at ≡ fraction_to xs
  pub value : w ≡ value_of 10 (digits_of xs)
  pub below : w < 10 ^ most_short
  pub fraction : behind ≡ length (fraction_of xs)

-- w times 10 ^ up over 10 ^ down, where it is exact for any zeros that w ends with
abbrev pub scaled_short : ℕ → ℕ → ℕ → Short
scaled_short w up down =
    cond (leb up (down + most_raised) && leb down (up + most_exponent)) (short.Value (nearest false w up down))
    short.Untold

-- what is told is so
abbrev pub Tells : List ℕ → Short → Type 0
Tells xs (short.Value x) = decimal_of xs ≡ Exact (plain x)
Tells xs short.NotDecimal = decimal_of xs ≡ NotDecimal
Tells xs short.Untold = Unit {0}
