-- A sign goes through rounding (`signed_round`), so the float of a negative integer is that of its magnitude, negated.
use Rattle.std.proofs.Common.{◌≡◌, ℕ, zero, suc, Bool, true, false, pos, refl}
use lib.Ieee.{binary64, of_int, of_bits, round, neg}
use Rattle.number.specs.Signed.{signed_of}
use Rattle.decimal.proofs.Rounding.{signed_round}

pub zero_is : (s : Bool) → of_bits binary64 0 ≡ of_int binary64 (signed_of s 0)
unfolding of_bits of_int round
zero_is true = refl
zero_is false = refl

pub negated : (n : ℕ) → (n ≡ 0 → ⊥) → neg (of_int binary64 (pos n)) ≡ of_int binary64 (signed_of true n)
unfolding of_int
negated zero h = absurd (h refl)
negated (suc n) h = signed_round true (suc n) 1
