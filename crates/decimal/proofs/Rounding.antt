-- One rounding: w and the power of ten are exact, their product and their quotient are rounded once (`Values`), and what is rounded is the
-- value, since w times 10^E is; the sign goes through rounding.
use Prim.Native.Nat.{ℕ, suc, ◌*◌, ◌^◌, ◌≤◌}
use native.Mathlib.Nat.{mul-one}
use native.Mathlib.Omega.{arith}
use mathlib.Core.Bool.{true, false}
use mathlib.Core.List.{List}
use mathlib.Core.Logic.{◌⊎◌, inl, inr}
use mathlib.Core.Path.{◌≡◌, refl, sym, ap, subst, ◌∙◌}
use lib.Count.{count_trailing_zeros}
use lib.Dec.{T}
use lib.Ieee.{Float, binary64, mul, div, of_int, round, size, span, climb, units, odd}
use lib.Ieee.Exact.{HasValue}
use lib.Ieee.Scale.{round_same}
use Rattle.proving.proofs.Below.{below}
use Rattle.scan.specs.Sign.{is_minus}
use Rattle.decimal.specs.declared.Number.{Number}
use Rattle.decimal.specs.declared.Decimal.TheVariants.{Exact}
use Rattle.decimal.specs.Value.{numerator, denominator, nearest_of, most_exact, most_exponent, plain, decimal_of}
use Rattle.decimal.specs.steps.Scale.{ten_to, reduced}
use Rattle.decimal.specs.laws.Decimal.{InExact}
use Rattle.decimal.specs.laws.Rounding.{float_of, Held, signed, SignedRound, OnceRounded, OneRounding}
use Rattle.decimal.proofs.Powers.{is_ten, is_ten_is}
use Rattle.decimal.proofs.Values.{ten_pos, ten_value, whole, times, over}
use Rattle.decimal.proofs.Signs.{neg_round}
use Rattle.decimal.proofs.Ranges.{Some, Raised, Lowered, met}
use Rattle.decimal.proofs.Given.{decimal_given, nearest_value}

-- the f64 of a power of ten is the one of the table
ten_float : (e : ℕ) → e ≤ most_exponent → float_of (10 ^ e) ≡ ten_to e
unfolding is_ten of_int round size span climb units odd count_trailing_zeros
ten_float e h =
    is_ten_is e (float_of (10 ^ e)) (subst T (sym (below (λ k. is_ten k (float_of (10 ^ k))) (suc most_exponent) refl e (omega arith))) tt)

ten_held : (e : ℕ) → e ≤ most_exponent → Held (10 ^ e)
ten_held e h = subst (λ (x : Float). HasValue x false (10 ^ e) 1) (sym (ten_float e h)) (ten_value e)

pub signed_round : SignedRound
signed_round true a c = neg_round binary64 false a c
signed_round false a c = refl

-- what is accepted is the nearest f64, and in the range
pub in_exact : (xs : List ℕ) (n : Number) → decimal_of xs ≡ Exact n → InExact xs
in_exact xs n d = ((decimal_given xs).2.0 (d ∙ ap Exact (nearest_value xs n d))).2

module _ (xs : List ℕ) (w e : ℕ) (l : e ≤ most_exponent) (m : w ≤ most_exact) where
  product : w * 10 ^ e * denominator xs ≡ numerator xs * 10 ^ 0 → nearest_of xs ≡ plain (signed (is_minus xs 0) (mul binary64 (float_of w) (float_of (10 ^ e))))
  product v =
      ap plain
      (sym (round_same binary64 (is_minus xs 0) (w * 10 ^ e) 1 (numerator xs) (denominator xs) (omega arith) (ten_pos (reduced xs)) v)
      ∙ sym (signed_round (is_minus xs 0) (w * 10 ^ e) 1)
      ∙ ap (signed (is_minus xs 0)) (sym (ap (mul binary64 (float_of w)) (ten_float e l) ∙ times w e m)))

  quotient : w * 10 ^ 0 * denominator xs ≡ numerator xs * 10 ^ e → nearest_of xs ≡ plain (signed (is_minus xs 0) (div binary64 (float_of w) (float_of (10 ^ e))))
  quotient v =
      ap plain
      (sym (round_same binary64 (is_minus xs 0) w (10 ^ e) (numerator xs) (denominator xs) (ten_pos e) (ten_pos (reduced xs)) (ap (λ (n : ℕ). n * denominator xs) (sym (mul-one w)) ∙ v))
      ∙ sym (signed_round (is_minus xs 0) w (10 ^ e))
      ∙ ap (signed (is_minus xs 0)) (sym (ap (div binary64 (float_of w)) (ten_float e l) ∙ over w e m)))

pub one_rounding : OneRounding
one_rounding xs n d z = range (in_exact xs n d)
  where
    is : n ≡ nearest_of xs
    is = nearest_value xs n d

    go : Some (Raised xs) most_exponent ⊎ Some (Lowered xs) most_exponent → OnceRounded xs n
    go (inl (e, l, (w, a))) =
        (w, e, a.2, l, whole w a.2, ten_held e l, inl (record { value = a.0; not_by_ten = a.1 }, is ∙ product xs w e l a.2 a.0))
    go (inr (e, l, (w, a))) =
        (w, e, a.2, l, whole w a.2, ten_held e l, inr (record { value = a.0; not_by_ten = a.1 }, is ∙ quotient xs w e l a.2 a.0))

    range : InExact xs → OnceRounded xs n
    range (inl e) = absurd (z e)
    range (inr r) = go (met xs r)
