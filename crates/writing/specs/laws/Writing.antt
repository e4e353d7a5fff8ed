-- What whoever writes may rely on: the digits of a number say the number and are few, and what is written stands where it was to go.
use Rattle.std.specs.Prelude.{ℕ, ◌+◌, ◌/◌, ◌%◌, ◌^◌, ◌<◌, ◌≤◌, ◌≡◌, List, [], ◌∷◌, ◌++◌, length, take}
use Rattle.scan.specs.declared.byte.Class.TheVariants.{Digit}
use Rattle.scan.specs.Byte.{is_in}
use Rattle.scan.specs.Run.{run_length}
use Rattle.scan.specs.Digits.{value_of}
use Rattle.writing.specs.Decimal.{decimal_base, most_digits, digit_for, decimal_text}
use Rattle.writing.specs.Put.{put_at, past_at}

-- the digits of n are one digit, or those of n / 10 and then n % 10
abbrev pub OneDigit : Type 0
OneDigit = (n : ℕ) → n < decimal_base → decimal_text n ≡ digit_for n ∷ []

abbrev pub MoreDigits : Type 0
MoreDigits = (n : ℕ) → decimal_base ≤ n → decimal_text n ≡ decimal_text (n / decimal_base) ++ digit_for (n % decimal_base) ∷ []

-- they are digits and nothing else, one at least,
abbrev pub OnlyDigits : Type 0
OnlyDigits = (n : ℕ) → run_length (is_in Digit) (decimal_text n) ≡ length (decimal_text n)

abbrev pub AnyDigit : Type 0
AnyDigit = (n : ℕ) → 0 < length (decimal_text n)

-- their value is the number,
abbrev pub DecimalValue : Type 0
DecimalValue = (n : ℕ) → value_of decimal_base (decimal_text n) ≡ n

-- and they are no more than it takes, which is few where it fits
abbrev pub DigitsBelow : Type 0
DigitsBelow = (i n : ℕ) → n < decimal_base ^ (i + 1) → length (decimal_text n) ≤ i + 1

abbrev pub DigitsFew : Type 0
DigitsFew = (n : ℕ) → n < 2 ^ 64 → length (decimal_text n) ≤ most_digits

-- the offset past a text is at or past the one that it was to go to, and within the list where that was
abbrev pub PastInside : Type 0
PastInside = (d : List ℕ) (at : ℕ) (xs : List ℕ) → (at ≤ past_at d at xs) × (at ≤ length d → past_at d at xs ≤ length d)

-- where a text fits, it stands behind what stood before its offset
abbrev pub PutStands : Type 0
PutStands =
    (d : List ℕ) (at : ℕ) (xs : List ℕ) → at + length xs ≤ length d
    → (past_at d at xs ≡ at + length xs) × (take (past_at d at xs) (put_at d at xs) ≡ take at d ++ xs)
