-- What is capped changes no answer: a significand that is too large stays too large, and an exponent above the cap is farther from the digits
-- behind the point than any text of 256 bytes can make up for.
use Prim.Native.Nat.{ℕ, ◌+◌, ◌≤◌, min}
use native.Mathlib.Decide.{ℕ_discrete}
use native.Mathlib.Omega.{arith}
use mathlib.Core.Bool.{Bool, false}
use mathlib.Core.Path.{◌≡◌}
use borrow.Author.Tests.{eq-eqb, ne_eqb}
use Rattle.proving.proofs.Tests.{Tests, affirmed, decided, tests_and, tests_le}
use Rattle.decimal.specs.laws.Decimal.{InRange}
use Rattle.decimal.specs.Value.{most_told, decimal_limit, most_exact, most_exponent}
use Rattle.decimal.specs.steps.Scale.{is_exact, scaled_by}

pub tests_exact : (w up down : ℕ) → Tests (is_exact w up down) (InRange w up down)
unfolding is_exact
tests_exact w up down = tests_and (tests_le w most_exact) (tests_and (tests_le up (down + most_exponent)) (tests_le down (up + most_exponent)))

outside : (neg : Bool) (w up down v a b : ℕ) → (w ≡ 0 → ⊥) → (v ≡ 0 → ⊥) → is_exact w up down ≡ false → is_exact v a b ≡ false → scaled_by neg w up down ≡ scaled_by neg v a b
unfolding scaled_by
outside neg w up down v a b n m e f = rw (ne_eqb w 0 n, ne_eqb v 0 m, e, f)

nothing : (neg : Bool) (w up down v a b : ℕ) → w ≡ 0 → v ≡ 0 → scaled_by neg w up down ≡ scaled_by neg v a b
unfolding scaled_by
nothing neg w up down v a b n m = rw (eq-eqb w 0 n, eq-eqb v 0 m)

-- an exponent that raises, and one that lowers
module _ (neg : Bool) (w t f e : ℕ) (s : t ≤ decimal_limit) (h : f ≤ decimal_limit) where
  pub raised_capped : scaled_by neg (min most_told w) (t + min most_told e) f ≡ scaled_by neg w (t + e) f
  raised_capped = go (ℕ_discrete w 0) (decided (tests_exact w (t + e) f))
    where
      go : Dec (w ≡ 0) → Dec (InRange w (t + e) f) → scaled_by neg (min most_told w) (t + min most_told e) f ≡ scaled_by neg w (t + e) f
      go (yes z) d = nothing neg (min most_told w) (t + min most_told e) f w (t + e) f (omega arith) z
      go (no z) (yes i) =
          let a : min most_told w ≡ w = omega (arith, i.0) in
          let b : min most_told e ≡ e = omega (arith, i.1.0) in
          rw (a, b)
      go (no z) (no i) =
          outside neg (min most_told w) (t + min most_told e) f w (t + e) f (λ x. omega arith) z
          (affirmed (tests_exact (min most_told w) (t + min most_told e) f) (λ j. i (omega (arith, j.0), (omega (arith, j.1.0), omega (arith, j.1.1)))))
          (affirmed (tests_exact w (t + e) f) i)

  pub reduced_capped : scaled_by neg (min most_told w) t (f + min most_told e) ≡ scaled_by neg w t (f + e)
  reduced_capped = go (ℕ_discrete w 0) (decided (tests_exact w t (f + e)))
    where
      go : Dec (w ≡ 0) → Dec (InRange w t (f + e)) → scaled_by neg (min most_told w) t (f + min most_told e) ≡ scaled_by neg w t (f + e)
      go (yes z) d = nothing neg (min most_told w) t (f + min most_told e) w t (f + e) (omega arith) z
      go (no z) (yes i) =
          let a : min most_told w ≡ w = omega (arith, i.0) in
          let b : min most_told e ≡ e = omega (arith, i.1.1) in
          rw (a, b)
      go (no z) (no i) =
          outside neg (min most_told w) t (f + min most_told e) w t (f + e) (λ x. omega arith) z
          (affirmed (tests_exact (min most_told w) t (f + min most_told e)) (λ j. i (omega (arith, j.0), (omega (arith, j.1.0), omega (arith, j.1.1)))))
          (affirmed (tests_exact w t (f + e)) i)
