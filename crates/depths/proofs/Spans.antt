-- Pairs by levels alone: a span is the way from a level up and back to it for the first time. Two from one place end at one, since the longer
-- is still above where the shorter is back; spans nest, so two to one place start at one. Where a level falls, a span ends: it starts where that level was
-- last left.
use Prim.Native.Nat.{ℕ, zero, suc, ◌<◌, ◌≤◌}
use native.Mathlib.Decide.{dec_lt}
use native.Mathlib.Omega.{arith}
use mathlib.Core.Path.{◌≡◌, sym}

pub record Span (level : ℕ → ℕ) (i j : ℕ) : Type 0 where
  pub later : i < j
  pub back : level (suc j) ≡ level i
  pub above : (k : ℕ) → i < k → k ≤ j → level i < level k

module _ {level : ℕ → ℕ} where
  not_longer : {i j k : ℕ} → Span level i j → Span level i k → ¬ (j < k)
  not_longer {j = j} s t l = omega (arith, t.above (suc j) (omega arith) l)

  pub one_end : {i j k : ℕ} → Span level i j → Span level i k → j ≡ k
  one_end s t = omega (arith, not_longer s t, not_longer t s)

  pub nested : {i j k l : ℕ} → Span level i j → Span level k l → i < k → k < j → l < j
  nested {i} {j} {k} {l} s t a b = go (dec_lt l j) (dec_lt j l)
    where
      go : Dec (l < j) → Dec (j < l) → l < j
      go (yes h) d = h
      go (no h) (yes g) = absurd (omega (arith, s.above k a (omega arith), t.above (suc j) (omega arith) g))
      go (no h) (no g) = let e : l ≡ j = omega arith in absurd (omega (arith, s.above k a (omega arith), rw e at t.back))

  not_earlier : {i j k : ℕ} → Span level i k → Span level j k → ¬ (i < j)
  not_earlier s t l = omega (arith, nested s t l t.later)

  pub one_start : {i j k : ℕ} → Span level i k → Span level j k → i ≡ j
  one_start s t = omega (arith, not_earlier s t, not_earlier t s)

-- the last place at a level below a later one
record Rise (level : ℕ → ℕ) (d j : ℕ) : Type 0 where
  pub from : ℕ
  pub earlier : from < j
  pub there : level from ≡ d
  pub above : (k : ℕ) → from < k → k ≤ j → d < level k

module _ (level : ℕ → ℕ) (n : ℕ) (start : level 0 ≡ 0) (steps : (i : ℕ) → i < n → level i < level (suc i) → level (suc i) ≡ suc (level i)) where
  rise : (d j : ℕ) → j ≤ n → d < level j → Rise level d j
  rise d zero h l = absurd (omega arith)
  rise d (suc j) h l = go (dec_lt d (level j)) (rise d j (omega arith))
    where
      above : (i : ℕ) → ((k : ℕ) → i < k → k ≤ j → d < level k) → (k : ℕ) → i < k → k ≤ suc j → Dec (k < suc j) → d < level k
      above i r k a b (yes m) = r k a (omega arith)
      above i r k a b (no m) = let e : k ≡ suc j = omega arith in rw e l

      go : Dec (d < level j) → (d < level j → Rise level d j) → Rise level d (suc j)
      go (yes m) r =
          let t = r m in
          record { from = t.from; earlier = omega arith; there = t.there; above = λ k a b. above t.from t.above k a b (dec_lt k (suc j)) }
      go (no m) r =
          let none : (k : ℕ) → j < k → k ≤ j → d < level k = λ k a b. absurd (omega arith) in
          record { from = j; earlier = omega arith; there = omega (arith, steps j h (omega arith)); above = λ k a b. above j none k a b (dec_lt k (suc j)) }

  pub spans_to : (j : ℕ) → j < n → level (suc j) < level j → (i : ℕ) × Span level i j
  spans_to j h l =
      let t = rise (level (suc j)) j (omega arith) l in
      (t.from, record { later = t.earlier; back = sym t.there; above = λ k a b. omega (arith, t.above k a b, t.there) })
