-- Parentheses counted along kinds. `Falls` is a walk over kinds that goes up at a `(`, down at a `)`, never below the ground, and ends on it: each
-- front of such kinds has a level (`cut`), and what stands behind it falls from there.
use Prim.Native.Nat.{ℕ, zero, suc, ◌+◌, ◌<◌}
use native.Mathlib.Decide.{ℕ_discrete}
use native.Mathlib.Omega.{arith}
use mathlib.Core.Bool.{Bool, true, false, cond}
use mathlib.Core.List.{List, [], ◌∷◌, ◌++◌}
use mathlib.Core.Path.{◌≡◌, refl}
use lib.Dec.{eqb}
use lib.ListN.{length, take, drop, get_or}
use lib.Seq.{take-suc, take-add}
use borrow.Author.Tests.{ne_eqb}
use Rattle.token.specs.Kinds.{left_paren, right_paren}
use Rattle.depths.specs.Open.{count_of}
use Rattle.depths.specs.Pairs.{through}

-- a kind that is no parenthesis, and which of three a kind is
abbrev pub Neither : ℕ → Type 0
Neither k = (¬ (k ≡ left_paren)) × (¬ (k ≡ right_paren))

pub data Paren : ℕ → Type 0 where
  left : Paren left_paren
  right : Paren right_paren
  neither : {k : ℕ} → Neither k → Paren k

pub paren : (k : ℕ) → Paren k
paren k = go (ℕ_discrete k left_paren) (ℕ_discrete k right_paren)
  where
    go : Dec (k ≡ left_paren) → Dec (k ≡ right_paren) → Paren k
    go (yes e) d = rw e left
    go (no n) (yes e) = rw e right
    go (no n) (no m) = neither (n, m)

-- what is no parenthesis is not counted
pub skipped : (k : ℕ) (ks : List ℕ) → Neither k → (count_of left_paren (k ∷ ks) ≡ count_of left_paren ks) × (count_of right_paren (k ∷ ks) ≡ count_of right_paren ks)
skipped k ks n = (rw (ne_eqb k left_paren n.0), rw (ne_eqb k right_paren n.1))

pub count_append : (c : ℕ) (xs ys : List ℕ) → count_of c (xs ++ ys) ≡ count_of c xs + count_of c ys
count_append c [] ys = omega arith
count_append c (x ∷ xs) ys = rw (count_append c xs ys) (go (eqb x c) (count_of c xs) (count_of c ys))
  where
    go : (b : Bool) (n m : ℕ) → cond b (suc (n + m)) (n + m) ≡ cond b (suc n) n + m
    go true n m = omega arith
    go false n m = refl

-- one kind more, and more kinds
pub count_suc : (c : ℕ) (ks : List ℕ) (i : ℕ) → i < length ks → count_of c (take (suc i) ks) ≡ count_of c (take i ks) + count_of c (get_or ks i 0 ∷ [])
count_suc c ks i h = rw (take-suc ks i 0 h) (count_append c (take i ks) (get_or ks i 0 ∷ []))

pub count_add : (c : ℕ) (ks : List ℕ) (i k : ℕ) → count_of c (take (i + k) ks) ≡ count_of c (take i ks) + count_of c (take k (drop i ks))
count_add c ks i k = rw (take-add i k ks) (count_append c (take i ks) (take k (drop i ks)))

-- up to the next place
pub through_next : (k : ℕ) (ks : List ℕ) (i : ℕ) → through (k ∷ ks) (suc i) ≡ suc (through ks i)
through_next k ks i = go (eqb (get_or ks i 0) right_paren)
  where
    go : (t : Bool) → cond t (suc (suc i)) (suc i) ≡ suc (cond t (suc i) i)
    go true = refl
    go false = refl

pub data Falls : ℕ → List ℕ → Type 0 where
  ground : Falls zero []
  other : {d k : ℕ} {ks : List ℕ} → Neither k → Falls d ks → Falls d (k ∷ ks)
  up : {d : ℕ} {ks : List ℕ} → Falls (suc d) ks → Falls d (left_paren ∷ ks)
  down : {d : ℕ} {ks : List ℕ} → Falls d ks → Falls (suc d) (right_paren ∷ ks)

-- the level behind a front, and the rest from there
abbrev pub Cut : ℕ → List ℕ → ℕ → Type 0
Cut d ks i = (e : ℕ) × (e + count_of right_paren (take i ks) ≡ d + count_of left_paren (take i ks)) × Falls e (drop i ks)

pub cut : (i : ℕ) {d : ℕ} {ks : List ℕ} → Falls d ks → Cut d ks i
cut zero {d} f = (d, refl, f)
cut (suc i) ground = (zero, refl, ground)
cut (suc i) (other {k = k} {ks = ks} n f) = let r = cut i f in (r.0, omega (arith, r.1, skipped k (take i ks) n), r.2)
cut (suc i) (up f) = let r = cut i f in (r.0, omega (arith, r.1), r.2)
cut (suc i) (down f) = let r = cut i f in (r.0, omega (arith, r.1), r.2)
