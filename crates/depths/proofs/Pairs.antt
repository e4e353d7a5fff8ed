-- The depths of balanced kinds show the pairs. Such kinds fall from none open (`falls`), so the laws of spans hold of partners; and the depth of a `(` is the
-- level before it and that of a `)` the level behind it, which the places between partners are above.
use Prim.Native.Nat.{ℕ, zero, suc, ◌+◌, ◌<◌, ◌≤◌}
use native.Mathlib.Omega.{arith}
use mathlib.Core.List.{List, [], ◌∷◌}
use mathlib.Core.Path.{◌≡◌}
use lib.ListN.{length, take, get_or}
use Rattle.token.specs.Kinds.{left_paren, right_paren}
use Rattle.depths.specs.Open.{count_of}
use Rattle.depths.specs.Pairs.{Partners, through, NextSame}
use Rattle.depths.specs.laws.Pairs.{Balanced, BalancedPaired}
use Rattle.depths.proofs.Levels.{Falls, ground, other, up, down, Paren, left, right, neither, paren, skipped, through_next}
use Rattle.depths.proofs.Spans.{Span, one_end, one_start, nested}
use Rattle.depths.proofs.Partners.{inside, starts, stops, level, level_is, span, closing, opening}

-- with some open before: all are closed, no more are closed than are open, and that at each place
abbrev Ends : ℕ → List ℕ → Type 0
Ends d ks = count_of right_paren ks ≡ d + count_of left_paren ks

abbrev Low : ℕ → List ℕ → Type 0
Low d ks = count_of right_paren ks ≤ d + count_of left_paren ks

abbrev Stays : ℕ → List ℕ → Type 0
Stays d ks = (i : ℕ) → i < length ks → Low d (take (through ks i) ks)

-- at each place behind the first
later : (d k : ℕ) (ks : List ℕ) → Stays d (k ∷ ks) → (i : ℕ) → i < length ks → Low d (k ∷ take (through ks i) ks)
later d k ks s i h = rw (through_next k ks i) at (s (suc i) (omega arith))

-- one step of the walk, by its kind
step : (d : ℕ) {k : ℕ} (ks : List ℕ) → Paren k → Stays d (k ∷ ks) → Ends d (k ∷ ks) → ((b : ℕ) → Stays b ks → Ends b ks → Falls b ks) → Falls d (k ∷ ks)
step d ks left s e r = up (r (suc d) (λ i h. omega (arith, later d left_paren ks s i h)) (omega arith))
step zero ks right s e r = absurd (omega (arith, s 0 (omega arith)))
step (suc d) ks right s e r = down (r d (λ i h. omega (arith, later (suc d) right_paren ks s i h)) (omega arith))
step d {k} ks (neither n) s e r = other n (r d (λ i h. omega (arith, later d k ks s i h, skipped k (take (through ks i) ks) n)) (omega (arith, skipped k ks n)))

falls : (d : ℕ) (ks : List ℕ) → Stays d ks → Ends d ks → Falls d ks
falls zero [] s e = ground
falls (suc d) [] s e = absurd (omega arith)
falls d (k ∷ ks) s e = step d ks (paren k) s e (λ b. falls b ks)

module _ {ks ds : List ℕ} {i : ℕ} where
  not_after : {j k : ℕ} → NextSame ks ds i j → NextSame ks ds i k → ¬ (j < k)
  not_after {j} s t l = t.first j s.later l s.closes s.same

  one_next : {j k : ℕ} → NextSame ks ds i j → NextSame ks ds i k → j ≡ k
  one_next s t = omega (arith, not_after s t, not_after t s)

module _ {ks ds : List ℕ} (c : Balanced ks ds) where
  walk : Falls 0 ks
  walk = falls 0 ks (λ i h. omega (arith, c.depths i h)) (omega (arith, c.closed))

  before : (i : ℕ) → get_or ks i 0 ≡ left_paren → get_or ds i 0 ≡ level walk i
  before i e = omega (arith, level_is walk i, rw e at (c.depths i (inside ks i (omega arith))))

  behind : (j : ℕ) → get_or ks j 0 ≡ right_paren → get_or ds j 0 ≡ level walk (suc j)
  behind j e = omega (arith, level_is walk (suc j), rw e at (c.depths j (inside ks j (omega arith))))

  shown : {i j : ℕ} → Partners ks i j → NextSame ks ds i j
  shown {i} {j} p = record { later = s.later; closes = stops p; same = omega (arith, behind j (stops p), before i (starts p), s.back); first = first }
    where
      s : Span (level walk) i j
      s = span walk p

      first : (k : ℕ) → i < k → k < j → get_or ks k 0 ≡ right_paren → ¬ (get_or ds k 0 ≡ get_or ds i 0)
      first k a b e q = omega (arith, s.above (suc k) (omega arith) b, behind k e, before i (starts p))

  found : {i j : ℕ} → get_or ks i 0 ≡ left_paren → NextSame ks ds i j → Partners ks i j
  found {i} {j} e n = let r = closing walk i e in rw (one_next {j = r.0} {k = j} (shown r.1) n) at r.1

pub balanced_paired : BalancedPaired
balanced_paired ks ds c =
    let w = walk c in
    record {
      partner = λ i e. let r = closing w i e in (r.0, r.1, λ k p. one_end (span w p) (span w r.1));
      next = λ i j e. (shown c, found c e);
      opening = λ j e. let r = opening w j e in (r.0, r.1, λ k p. one_start (span w p) (span w r.1));
      nest = λ i j k l p q. nested (span w p) (span w q);
    }
