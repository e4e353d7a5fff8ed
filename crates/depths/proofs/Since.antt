-- What is open behind kinds and one more: by how many of a kind there are, and by where the last of them stands. One that opens is open behind itself, one that
-- closes leaves nothing open, and any other leaves it as it is, since it is neither the one that was found nor among what must not stand behind that.
use Prim.Native.Nat.{ℕ, ◌+◌}
use native.Mathlib.Omega.{arith}
use mathlib.Core.Bool.{Bool, true, false, cond, true≢false}
use mathlib.Core.List.{List, [], ◌∷◌, ◌++◌, append_assoc}
use mathlib.Core.Logic.{◌↔◌}
use mathlib.Core.Path.{◌≡◌, refl, sym, ap, ◌∙◌}
use lib.Dec.{eqb}
use lib.ListN.{length, length-append}
use borrow.Author.Tests.{eqb-true, eqb-false}
use Rattle.depths.specs.Open.{count_of, Since}
use Rattle.depths.proofs.Levels.{count_append}

-- a flag says whether one is open
abbrev pub Told : Bool → ℕ → ℕ → List ℕ → Type 0
Told b one other ks = b ≡ true ↔ Since one other ks

-- what becomes of it: one opens it, another closes it
abbrev pub turned : ℕ → ℕ → ℕ → Bool → Bool
turned one other x b = cond (eqb x one) true (cond (eqb x other) false b)

module _ (one other : ℕ) where
  onward : (ks : List ℕ) (x : ℕ) → eqb x other ≡ false → Since one other ks → Since one other (ks ++ x ∷ [])
  onward ks x n s =
      record {
        front = s.front;
        behind = s.behind ++ x ∷ [];
        there = rw s.there (append_assoc s.front (one ∷ s.behind) (x ∷ []));
        none = count_append other s.behind (x ∷ []) ∙ rw (s.none, n);
      }

  -- the one that was found is not the last
  not_last : (ks front behind : List ℕ) (x : ℕ) → (x ≡ one → ⊥) → ks ++ x ∷ [] ≡ front ++ one ∷ behind → (u : List ℕ) × (ks ≡ front ++ one ∷ u) × (behind ≡ u ++ x ∷ [])
  not_last [] [] behind x n e = absurd (n (cc))
  not_last [] (f ∷ front) behind x n e = absurd (omega (arith, simp length-append at (ap length e)))
  not_last (k ∷ ks) [] behind x n e = (ks, (cc), (cc))
  not_last (k ∷ ks) (f ∷ front) behind x n e = let p = not_last ks front behind x n (cc) in (p.0, cc p.1, p.2)

  back : (ks : List ℕ) (x : ℕ) → eqb x one ≡ false → Since one other (ks ++ x ∷ []) → Since one other ks × (count_of other (x ∷ []) ≡ 0)
  back ks x n s =
      let p = not_last ks s.front s.behind x (eqb-false x one n) s.there in
      let c : count_of other p.0 + count_of other (x ∷ []) ≡ 0 = sym (count_append other p.0 (x ∷ [])) ∙ ap (count_of other) (sym p.2) ∙ s.none in
      (record { front = s.front; behind = p.0; there = p.1; none = omega arith }, omega arith)

  pub none_yet : Told false one other []
  none_yet = ((λ e. absurd (true≢false (sym e))), λ s. absurd (omega (arith, simp length-append at (ap length s.there))))

  module _ (ks : List ℕ) (x : ℕ) where
    pub begun : eqb x one ≡ true → Told true one other (ks ++ x ∷ [])
    begun t = ((λ e. record { front = ks; behind = []; there = rw (eqb-true x one t); none = refl }), λ s. refl)

    pub ended : eqb x one ≡ false → eqb x other ≡ true → Told false one other (ks ++ x ∷ [])
    ended n t = ((λ e. absurd (true≢false (sym e))), λ s. absurd (omega (arith, rw t at (back ks x n s).1)))

    pub kept : eqb x one ≡ false → eqb x other ≡ false → {b : Bool} → Told b one other ks → Told b one other (ks ++ x ∷ [])
    kept n o h = ((λ e. onward ks x o (h.0 e)), λ s. h.1 (back ks x n s).0)

    -- the flag behind it
    pub told_more : {b : Bool} → Told b one other ks → Told (turned one other x b) one other (ks ++ x ∷ [])
    told_more {b} h = go (eqb x one) refl (eqb x other) refl
      where
        go : (p : Bool) → eqb x one ≡ p → (t : Bool) → eqb x other ≡ t → Told (cond p true (cond t false b)) one other (ks ++ x ∷ [])
        go true e t f = begun e
        go false e true f = ended e f
        go false e false f = kept e f h
