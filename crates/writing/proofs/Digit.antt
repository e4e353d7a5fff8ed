-- Laws of digits: the sign of a number stands for that number, and is a digit. Each holds by one test that antt computes at every number
-- below ten.
use Prim.Native.Nat.{ℕ, ◌<◌}
use mathlib.Core.Bool.{true}
use mathlib.Core.Path.{◌≡◌, refl}
use lib.Dec.{eqb}
use borrow.Author.Tests.{eqb-true}
use Rattle.scan.specs.declared.byte.Class.TheVariants.{Digit}
use Rattle.scan.specs.Byte.{is_within, is_in, digit_of}
use Rattle.proving.proofs.Below.{below}
use Rattle.writing.specs.Decimal.{decimal_base, digit_for}

pub digit_sign : (d : ℕ) → d < decimal_base → digit_of (digit_for d) ≡ d
unfolding digit_of digit_for is_within
digit_sign d h = eqb-true (digit_of (digit_for d)) d (below (λ x. eqb (digit_of (digit_for x)) x) decimal_base refl d h)

pub sign_digit : (d : ℕ) → d < decimal_base → is_in Digit (digit_for d) ≡ true
unfolding is_in digit_for is_within
sign_digit d h = below (λ x. is_in Digit (digit_for x)) decimal_base refl d h
