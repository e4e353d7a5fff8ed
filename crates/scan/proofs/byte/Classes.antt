-- Laws of the tests of bytes: no class has the end, and a digit stands for less than 16, by the bounds of each test.
use Prim.Native.Nat.{ℕ, ◌<◌, ◌≤◌}
use Prim.Native.Char.{code}
use native.Mathlib.Omega.{arith}
use mathlib.Core.Bool.{Bool, true, false, ◌||◌, and-false}
use mathlib.Core.Path.{◌≡◌, refl}
use lib.Dec.{leb, ltb}
use lib.ListN.{get_or-map}
use borrow.Author.Tests.{le-leb, lt-leb, leb-true}
use Rattle.scan.specs.declared.byte.Class.TheVariants.{Space, Alpha, Digit, HexDigit, AlphaNumeric, Word, Line}
use Rattle.scan.specs.Byte.{is_within, is_space, is_alpha, is_digit, is_hex_digit, digit_of, is_digit_in, lowered, is_alpha_numeric, is_word, is_line, is_in}
use Rattle.scan.specs.laws.Classes.{EndInNone, WithinBounds, WithinYes, BelowNot, AboveNot, DigitBound, DigitBounds, LoweredAbove, LoweredBelow, LoweredAt}
use Rattle.proving.proofs.Choice.{either, and_left, and_right}

pub end_in_none : EndInNone
unfolding is_in is_within is_space is_alpha is_hex_digit is_alpha_numeric is_word is_line
end_in_none Space = refl
end_in_none Alpha = refl
end_in_none Digit = refl
end_in_none HexDigit = refl
end_in_none AlphaNumeric = refl
end_in_none Word = refl
end_in_none Line = refl

-- what is between bounds, and what is above them
pub within_yes : WithinYes
unfolding is_within
within_yes lo hi c l h = rw (le-leb lo c l, le-leb c hi h)

pub above_not : AboveNot
unfolding is_within
above_not lo hi c h = rw (lt-leb c hi h) (and-false (leb lo c))

pub below_not : BelowNot
unfolding is_within
below_not lo hi c h = rw (lt-leb lo c h)

pub within_bounds : WithinBounds
unfolding is_within
within_bounds lo hi c h =
    (leb-true lo c (and_left (leb lo c) (leb c hi) h), leb-true c hi (and_right (leb lo c) (leb c hi) h))

pub digit_bound : DigitBound
unfolding digit_of
digit_bound c =
    let P : ℕ → Type 0 = λ n. n < 16 in
    either P (is_digit c) (λ e. omega (arith, within_bounds (code "0") (code "9") c e))
    (λ e. either P (is_within (code "a") (code "f") c) (λ e. omega (arith, within_bounds (code "a") (code "f") c e))
    (λ e. either P (is_within (code "A") (code "F") c) (λ e. omega (arith, within_bounds (code "A") (code "F") c e))
    (λ e. omega arith)))

-- a digit of any radix is between 0 and f
pub digit_bounds : DigitBounds
unfolding is_digit_in is_hex_digit
digit_bounds radix c d =
    go (is_digit c) refl (is_within (code "a") (code "f") c) refl (and_left (is_digit c || (is_within (code "a") (code "f") c || is_within (code "A") (code "F") c)) (ltb (digit_of c) radix) d)
  where
    go : (s : Bool) → is_digit c ≡ s → (t : Bool) → is_within (code "a") (code "f") c ≡ t → s || (t || is_within (code "A") (code "F") c) ≡ true
        → (code "0" ≤ c) × (c ≤ code "f")
    go true a t b e = let h = within_bounds (code "0") (code "9") c a in (h.0, omega (arith, h.1))
    go false a true b e = let h = within_bounds (code "a") (code "f") c b in (omega (arith, h.0), h.1)
    go false a false b e = let h = within_bounds (code "A") (code "F") c e in (omega (arith, h.0), omega (arith, h.1))

pub lowered_above : LoweredAbove
unfolding lowered
lowered_above c h = rw (above_not (code "A") (code "Z") c (omega arith))

pub lowered_below : LoweredBelow
unfolding lowered
lowered_below c m l h = either (λ n. n < m) (is_within (code "A") (code "Z") c) (λ e. omega (arith, within_bounds (code "A") (code "Z") c e)) (λ e. h)

pub lowered_at : LoweredAt
unfolding lowered is_within
lowered_at xs i = get_or-map lowered xs i 0
