-- What the code goes by gives what the definition does: zero is rounded to zero, w times ten to the powers is the fraction, and it is in the
-- exact range by this w and E where it is by any (`Exactness`).
use Prim.Native.Nat.{ℕ, ◌^◌}
use native.Mathlib.Decide.{ℕ_discrete}
use native.Mathlib.Omega.{arith}
use mathlib.Core.Bool.{Bool}
use mathlib.Core.List.{List}
use mathlib.Core.Logic.{inl, inr, ⊎_elim}
use mathlib.Core.Path.{◌≡◌, refl, sym, ap, ◌∙◌}
use lib.IntN.{pos}
use lib.Ieee.{Float, fin, binary64, round, size, units, odd}
use lib.Ieee.Scale.{round_same}
use borrow.Author.Tests.{eq-eqb, ne_eqb}
use Rattle.proving.proofs.Tests.{Tests, affirmed, decided}
use Rattle.scan.specs.Sign.{is_minus}
use Rattle.decimal.specs.Value.{numerator, denominator, numeral_read}
use Rattle.decimal.specs.steps.Scale.{significand, raised, reduced, is_exact, nearest, scaled_by, scale_read}
use Rattle.decimal.specs.laws.Decimal.{Zero, ExactRange}
use Rattle.decimal.proofs.Values.{ten_pos}
use Rattle.decimal.proofs.Caps.{tests_exact}
use Rattle.decimal.proofs.Exactness.{numerator_is, zero_is, is_zero_holds, scaled, any_scale}
use Rattle.decimal.proofs.Ranges.{exact_told}

round_nothing : (s : Bool) (d : ℕ) → round binary64 s 0 (10 ^ d) ≡ fin s 0 (pos 0)
round_nothing s d = round_same binary64 s 0 (10 ^ d) 0 1 (ten_pos d) (omega arith) (omega arith) ∙ one s
  where
    one : (s : Bool) → round binary64 s 0 1 ≡ fin s 0 (pos 0)
    one s = unfold round size units odd in refl

module _ (xs : List ℕ) where
  abbrev value : Float
  value = round binary64 (is_minus xs 0) (numerator xs) (denominator xs)

  pub zero_value : Zero xs → value ≡ fin (is_minus xs 0) 0 (pos 0)
  zero_value z = ap (λ (n : ℕ). round binary64 (is_minus xs 0) n (denominator xs)) z ∙ round_nothing (is_minus xs 0) (reduced xs)

  range_value : nearest (is_minus xs 0) (significand xs) (raised xs) (reduced xs) ≡ value
  unfolding nearest
  range_value = ap (λ (n : ℕ). round binary64 (is_minus xs 0) n (denominator xs)) (sym (numerator_is xs))

  -- within the exact range by this w and E, and by any
  tests_range : (Zero xs → ⊥) → Tests (is_exact (significand xs) (raised xs) (reduced xs)) (ExactRange xs)
  tests_range n =
      let t = tests_exact (significand xs) (raised xs) (reduced xs) in
      let o = any_scale xs (significand xs) (raised xs) (reduced xs) (scaled xs (λ e. n (is_zero_holds xs e))) in
      ((λ e. o.0 (t.0 e)), λ r. t.1 (o.1 r))

  nothing : Zero xs → scale_read xs ≡ numeral_read xs
  unfolding scaled_by numeral_read
  nothing z = rw (eq-eqb (significand xs) 0 (zero_is xs z), (exact_told xs).1 (inl z), zero_value z)

  something : (n : Zero xs → ⊥) → Dec (ExactRange xs) → scale_read xs ≡ numeral_read xs
  unfolding scaled_by numeral_read
  something n (yes r) =
      rw (ne_eqb (significand xs) 0 (λ e. n (is_zero_holds xs e)), (tests_range n).1 r, (exact_told xs).1 (inr r), range_value)
  something n (no r) =
      rw (ne_eqb (significand xs) 0 (λ e. n (is_zero_holds xs e)), affirmed (tests_range n) r, affirmed (exact_told xs) (⊎_elim n r))

  pub scale_read_holds : scale_read xs ≡ numeral_read xs
  scale_read_holds = go (ℕ_discrete (numerator xs) 0)
    where
      go : Dec (Zero xs) → scale_read xs ≡ numeral_read xs
      go (yes z) = nothing z
      go (no n) = something n (decided (tests_range n))
