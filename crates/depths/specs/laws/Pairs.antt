-- What depths are for, as statements; `proofs/Pairs` has the proofs.
use Rattle.std.specs.Prelude.{ℕ, ◌<◌, List, ◌↔◌, ◌≡◌, length, get_or}
use Rattle.token.specs.Kinds.{left_paren, right_paren}
use Rattle.depths.specs.Open.{Open}
use Rattle.depths.specs.Pairs.{Partners, CountedDepth, NextSame}

-- kinds with their depths: each is counted, and no parenthesis is left open
pub record Balanced (ks ds : List ℕ) : Type 0 where
  pub same : length ds ≡ length ks
  pub depths : (i : ℕ) → i < length ks → CountedDepth ks i (get_or ds i 0)
  pub closed : Open ks 0

-- each `(` has exactly one partner, the next `)` with the same depth; each `)` is that of one `(`; and pairs nest
pub record Paired (ks ds : List ℕ) : Type 0 where
  pub partner : (i : ℕ) → get_or ks i 0 ≡ left_paren → (j : ℕ) × Partners ks i j × ((k : ℕ) → Partners ks i k → k ≡ j)
  pub next : (i j : ℕ) → get_or ks i 0 ≡ left_paren → Partners ks i j ↔ NextSame ks ds i j
  pub opening : (j : ℕ) → get_or ks j 0 ≡ right_paren → (i : ℕ) × Partners ks i j × ((k : ℕ) → Partners ks k j → k ≡ i)
  pub nest : (i j k l : ℕ) → Partners ks i j → Partners ks k l → i < k → k < j → l < j

abbrev pub BalancedPaired : Type 0
BalancedPaired = (ks ds : List ℕ) → Balanced ks ds → Paired ks ds
