-- A law of every number below a bound, by one test that the check computes.
use Prim.Native.Nat.{ℕ, zero, suc, ◌<◌}
use native.Mathlib.Nat.{not-suc-le-zero}
use native.Mathlib.Omega.{arith}
use native.Mathlib.Decide.{dec_lt}
use mathlib.Core.Bool.{Bool, true, ◌&&◌}
use mathlib.Core.Path.{◌≡◌, subst}
use Rattle.proving.proofs.Choice.{and_left, and_right}

abbrev pub all_below : (ℕ → Bool) → ℕ → Bool
all_below p zero = true
all_below p (suc n) = p n && all_below p n

pub below : (p : ℕ → Bool) (n : ℕ) → all_below p n ≡ true → (x : ℕ) → x < n → p x ≡ true
below p zero t x h = absurd (not-suc-le-zero h)
below p (suc n) t x h = go (λ l. below p n (and_right (p n) (all_below p n) t) x l) (dec_lt x n)
  where
    go : (x < n → p x ≡ true) → Dec (x < n) → p x ≡ true
    go ih (yes l) = ih l
    go ih (no l) = subst (λ (y : ℕ). p y ≡ true) (omega arith) (and_left (p n) (all_below p n) t)
