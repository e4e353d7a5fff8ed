-- The test of the exact range decides it: of each E the w is the quotient, where there is one, and a value that is w times 10^E by any two
-- powers is so by one of them alone.
use Prim.Native.Nat.{ℕ, zero, suc, ◌+◌, ◌-◌, ◌*◌, ◌/◌, ◌%◌, ◌^◌, ◌≤◌, ◌<◌}
use native.Mathlib.Decide.{dec_le}
use native.Mathlib.Nat.{zero-add, mul_assoc, mul_comm, mul-pos, mul-div_cancel, eq_of_mul-eq-mul_right}
use native.Mathlib.Omega.{arith}
use mathlib.Core.Bool.{Bool}
use mathlib.Core.List.{List}
use mathlib.Core.Logic.{◌⊎◌, inl, inr}
use mathlib.Core.Path.{◌≡◌, sym, ap, subst, ◌∙◌}
use lib.Pow.{pow-add}
use Rattle.proving.proofs.Tests.{Tests, tests_or, tests_and, tests_not, tests_eq, tests_le}
use Rattle.decimal.specs.Value.{numerator, denominator, most_exact, most_exponent, is_scaled, is_some, is_exact_range, is_in_exact}
use Rattle.decimal.specs.steps.Scale.{reduced}
use Rattle.decimal.specs.laws.Decimal.{ExactRange, ExactTold}
use Rattle.decimal.proofs.Values.{ten_pos}
use Rattle.decimal.proofs.Exactness.{apart}

tests_as : {b : Bool} {C D : Type 0} → Tests b C → (C → D) → (D → C) → Tests b D
tests_as t f g = ((λ e. f (t.0 e)), λ d. t.1 (g d))

-- of the numbers up to n one meets a condition
abbrev pub Some : (ℕ → Type 0) → ℕ → Type 0
Some C n = (e : ℕ) × (e ≤ n) × C e

module _ (p : ℕ → Bool) (C : ℕ → Type 0) (t : (e : ℕ) → Tests (p e) (C e)) where
  one_more : (n : ℕ) → C (suc n) ⊎ Some C n → Some C (suc n)
  one_more n (inl c) = (suc n, omega arith, c)
  one_more n (inr s) = (s.0, omega (arith, s.1), s.2)

  one_less : (n : ℕ) → Some C (suc n) → C (suc n) ⊎ Some C n
  one_less n s = go (dec_le s.0 n)
    where
      go : Dec (s.0 ≤ n) → C (suc n) ⊎ Some C n
      go (yes l) = inr (s.0, l, s.2)
      go (no l) = let e : s.0 ≡ suc n = omega (arith, s.1) in inl (subst C e s.2)

  tests_some : (n : ℕ) → Tests (is_some p n) (Some C n)
  unfolding is_some
  tests_some zero = tests_as (t 0) (λ c. (0, omega arith, c)) (λ s. let e : s.0 ≡ 0 = omega (arith, s.1) in subst C e s.2)
  tests_some (suc n) = tests_as (tests_or (t (suc n)) (tests_some n)) (one_more n) (one_less n)

-- a fraction is w times 10^E, for a w in the range
abbrev At : ℕ → ℕ → ℕ → ℕ → ℕ → Type 0
At num den up down w = (w * 10 ^ up * den ≡ num * 10 ^ down) × (¬ (w % 10 ≡ 0)) × (w ≤ most_exact)

module _ (num den up down : ℕ) (h : 0 < den) where
  abbrev unit : ℕ
  unit = den * 10 ^ up

  abbrev quotient : ℕ
  quotient = num * 10 ^ down / unit

  abbrev Whole : ℕ → Type 0
  Whole w = (w * unit ≡ num * 10 ^ down) × (¬ (w % 10 ≡ 0)) × (w ≤ most_exact)

  by_unit : (w : ℕ) → w * 10 ^ up * den ≡ w * unit
  by_unit w = mul_assoc w (10 ^ up) den ∙ ap (λ (n : ℕ). w * n) (mul_comm (10 ^ up) den)

  only : (w : ℕ) → w * unit ≡ num * 10 ^ down → w ≡ quotient
  only w e = sym (mul-div_cancel w (mul-pos h (ten_pos up))) ∙ ap (λ (n : ℕ). n / unit) e

  told : (w : ℕ) × At num den up down w → Whole quotient
  told s = let e = sym (by_unit s.0) ∙ s.1.0 in subst Whole (only s.0 e) (e, s.1.1, s.1.2)

  tests_scaled : Tests (is_scaled num den up down) ((w : ℕ) × At num den up down w)
  unfolding is_scaled
  tests_scaled =
      tests_as
      (tests_and (tests_eq (quotient * unit) (num * 10 ^ down)) (tests_and (tests_not (tests_eq (quotient % 10) 0)) (tests_le quotient most_exact)))
      (λ t. (quotient, (by_unit quotient ∙ t.0, t.1.0, t.1.1)))
      (λ s. let t = told s in (t.0, (t.1, t.2)))

-- what stands on both sides goes
lowered : (w num den u d c : ℕ) → w * 10 ^ (u + c) * den ≡ num * 10 ^ (d + c) → w * 10 ^ u * den ≡ num * 10 ^ d
lowered w num den u d c e =
    eq_of_mul-eq-mul_right (10 ^ c) (ten_pos c) (w * 10 ^ u * den) (num * 10 ^ d)
    (sym (apart w u c den) ∙ e ∙ ap (λ (n : ℕ). num * n) (pow-add 10 d c) ∙ sym (mul_assoc num (10 ^ d) (10 ^ c)))

module _ (xs : List ℕ) where
  abbrev N : ℕ
  N = numerator xs

  abbrev D : ℕ
  D = denominator xs

  D_pos : 0 < D
  D_pos = ten_pos (reduced xs)

  -- E is not negative, or it is not positive
  abbrev pub Raised : ℕ → Type 0
  Raised e = (w : ℕ) × At N D e 0 w

  abbrev pub Lowered : ℕ → Type 0
  Lowered e = (w : ℕ) × At N D 0 e w

  found : Some Raised most_exponent ⊎ Some Lowered most_exponent → ExactRange xs
  found (inl (e, l, (w, a))) = (w, e, 0, record { value = a.0; not_by_ten = a.1 }, (a.2, (omega arith, omega arith)))
  found (inr (e, l, (w, a))) = (w, 0, e, record { value = a.0; not_by_ten = a.1 }, (a.2, (omega arith, omega arith)))

  pub met : ExactRange xs → Some Raised most_exponent ⊎ Some Lowered most_exponent
  met (w, u, d, p, i) = go (dec_le d u)
    where
      go : Dec (d ≤ u) → Some Raised most_exponent ⊎ Some Lowered most_exponent
      go (yes l) =
          let k : u ≡ u - d + d = omega arith in
          inl (u - d, omega (arith, i.1.0), (w, (lowered w N D (u - d) 0 d (rw (← k, zero-add d) p.value), p.not_by_ten, i.0)))
      go (no l) =
          let k : d ≡ d - u + u = omega arith in
          inr (d - u, omega (arith, i.1.1), (w, (lowered w N D 0 (d - u) u (rw (← k, zero-add u) p.value), p.not_by_ten, i.0)))

  pub tests_exact_range : Tests (is_exact_range N D) (ExactRange xs)
  unfolding is_exact_range
  tests_exact_range =
      tests_as
      (tests_or
      (tests_some (λ e. is_scaled N D e 0) Raised (λ e. tests_scaled N D e 0 D_pos) most_exponent)
      (tests_some (λ e. is_scaled N D 0 e) Lowered (λ e. tests_scaled N D 0 e D_pos) most_exponent))
      found met

pub exact_told : ExactTold
unfolding is_in_exact
exact_told xs = tests_or (tests_eq (numerator xs) 0) (tests_exact_range xs)
