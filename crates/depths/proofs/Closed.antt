-- The language `Closed` by levels: closed kinds leave the level as it was and never go below it, and kinds that fall from level d are d closed parts,
-- each with a `)` behind it, and a last closed part (`Parts`). So what a `(` opens, the first of these `)` closes.
use Prim.Native.Nat.{ℕ, zero, suc, ◌≤◌}
use native.Mathlib.Omega.{arith}
use mathlib.Core.List.{List, [], ◌∷◌, ◌++◌, append-nil, append_assoc}
use mathlib.Core.Path.{◌≡◌, refl}
use lib.ListN.{take}
use lib.Seq.{append_snoc}
use Rattle.token.specs.Kinds.{left_paren, right_paren}
use Rattle.depths.specs.Open.{count_of}
use Rattle.depths.specs.Pairs.{Closed, none, other, pair}
use Rattle.depths.proofs.Levels.{Falls, skipped, count_append, cut}

-- a closed part has as many of both
pub even : {ks : List ℕ} → Closed ks → count_of right_paren ks ≡ count_of left_paren ks
even none = refl
even (other k ks n m c) = omega (arith, even c, skipped k ks (n, m))
even (pair xs ys c d) =
    omega (arith, even c, even d, count_append left_paren xs (right_paren ∷ ys), count_append right_paren xs (right_paren ∷ ys))

-- what falls still falls with a closed part before it
before : {d : ℕ} {ks rest : List ℕ} → Closed ks → Falls d rest → Falls d (ks ++ rest)
before none f = f
before (other k ks n m c) f = Falls.other (n, m) (before c f)
before {rest = rest} (pair xs ys c d) f = rw (append_assoc xs (right_paren ∷ ys) rest) (Falls.up (before c (Falls.down (before d f))))

-- each front of a closed part has no more `)` than `(`
pub fronts : {ks : List ℕ} → Closed ks → (i : ℕ) → count_of right_paren (take i ks) ≤ count_of left_paren (take i ks)
fronts {ks} c i = let f : Falls 0 ks = rw (append-nil ks) at (before c Falls.ground) in omega (arith, (cut i f).1)

pub data Parts : ℕ → List ℕ → Type 0 where
  last : {ks : List ℕ} → Closed ks → Parts zero ks
  more : {d : ℕ} (xs ys : List ℕ) → Closed xs → Parts d ys → Parts (suc d) (xs ++ right_paren ∷ ys)

-- what may stand before a closed part may stand before parts
ahead : {d : ℕ} {ks : List ℕ} (us : List ℕ) → ((xs : List ℕ) → Closed xs → Closed (us ++ xs)) → Parts d ks → Parts d (us ++ ks)
ahead us f (last {ks} c) = last (f ks c)
ahead us f (more xs ys c p) = rw (← append_assoc us xs (right_paren ∷ ys)) (more (us ++ xs) ys (f xs c) p)

-- a `(` joins the first part to the next
opened : {d : ℕ} {ks : List ℕ} → Parts (suc d) ks → Parts d (left_paren ∷ ks)
opened (more xs ys c p) =
    rw (← append_snoc xs right_paren ys)
    (ahead (left_paren ∷ xs ++ right_paren ∷ []) (λ zs z. rw (append_snoc xs right_paren zs) (pair xs zs c z)) p)

pub parts : {d : ℕ} {ks : List ℕ} → Falls d ks → Parts d ks
parts Falls.ground = last none
parts (Falls.other {k = k} n f) = ahead (k ∷ []) (λ xs c. other k xs n.0 n.1 c) (parts f)
parts (Falls.up f) = opened (parts f)
parts (Falls.down {ks = ks} f) = more [] ks none (parts f)
