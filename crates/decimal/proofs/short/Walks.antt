-- Laws of digits read from a place on: one that stands there is read behind the value so far, and any other ends them. A value of no more
-- digits than come before a place is one still with the next digit.
use Prim.Native.Nat.{ℕ, suc, ◌+◌, ◌-◌, ◌*◌, ◌^◌, ◌≤◌, ◌<◌}
use native.Mathlib.Nat.{pow-suc, pow-le-pow_right}
use native.Mathlib.Numerals.{add-one}
use native.Mathlib.Omega.{arith}
use mathlib.Core.Bool.{true, false}
use mathlib.Core.List.{List, ◌∷◌}
use mathlib.Core.Path.{◌≡◌, ap, ◌∙◌}
use lib.ListN.{length, get_or}
use lib.Seq.{drop-cons}
use Rattle.scan.specs.declared.byte.Class.TheVariants.{Digit}
use Rattle.scan.specs.Byte.{peek_at, digit_of, is_in}
use Rattle.scan.specs.Run.{run_end}
use Rattle.scan.specs.Digits.{value_from}
use Rattle.scan.proofs.byte.Classes.{end_in_none}
use Rattle.scan.proofs.Runs.{inside, run_goes_on, run_stops}
use Rattle.decimal.specs.declared.short.Digits.{Digits}
use Rattle.decimal.specs.Grammar.{between}
use Rattle.decimal.specs.steps.Short.{digits_from}
use Rattle.decimal.proofs.Cuts.{between_none}

module _ (xs : List ℕ) (at v : ℕ) where
  abbrev up_to : ℕ → Digits
  up_to to = record { value = value_from 10 v (between xs at to); end = to }

  -- what stands up to a further place
  first : (to : ℕ) → at < length xs → at < to → between xs at to ≡ get_or xs at 0 ∷ between xs (at + 1) to
  first to l h = let k : to - at ≡ suc (to - (at + 1)) = omega arith in rw (k, drop-cons xs at 0 l, add-one)

  pub turn : is_in Digit (peek_at xs at) ≡ true → digits_from xs at v ≡ digits_from xs (at + 1) (v * 10 + digit_of (get_or xs at 0))
  unfolding value_from
  turn d =
      let to = run_end (is_in Digit) xs (at + 1) in
      ap up_to (run_goes_on (is_in Digit) (end_in_none Digit) xs at d)
      ∙ ap (λ (ys : List ℕ). record { value = value_from 10 v ys; end = to }) (first to (inside (is_in Digit) (end_in_none Digit) xs at d) (omega arith))

  pub out : is_in Digit (peek_at xs at) ≡ false → digits_from xs at v ≡ record { value = v; end = at }
  unfolding value_from
  out d = ap up_to (run_stops (is_in Digit) xs at d) ∙ ap (λ (ys : List ℕ). record { value = value_from 10 v ys; end = at }) (between_none xs at)

pub grown : (v at d : ℕ) → v < 10 ^ at → d < 10 → v * 10 + d < 10 ^ (at + 1)
grown v at d l b = omega (arith, ap (λ (n : ℕ). 10 ^ n) (add-one at) ∙ pow-suc 10 at)

pub further : (v at to : ℕ) → v < 10 ^ at → at ≤ to → v < 10 ^ to
further v at to l h = omega (arith, pow-le-pow_right {n = 10} (omega arith) {i = at} {j = to} h)
