-- What a test says of a table it says of each entry. Where of unlike entries not both can be looked for, at most one is, and a search that
-- takes the first finds that one.
use Prim.Native.Nat.{ℕ, zero, suc, ◌<◌, suc-le-suc}
use native.Mathlib.Nat.{le_of_suc-le-suc, not-suc-le-zero}
use native.Mathlib.Omega.{arith}
use mathlib.Core.Bool.{Bool, true, cond, ◌&&◌}
use mathlib.Core.List.{List, [], ◌∷◌}
use mathlib.Core.Path.{◌≡◌, refl, ap}
use lib.ListN.{length, get_or}
use Rattle.proving.proofs.Choice.{either, and_left, and_right}

module _ {A : Type 0} where
  abbrev pub every : (A → Bool) → List A → Bool
  every p [] = true
  every p (e ∷ es) = p e && every p es

  pub every_at : (p : A → Bool) (es : List A) → every p es ≡ true → (d : A) (i : ℕ) → i < length es → p (get_or es i d) ≡ true
  every_at p [] t d i h = absurd (not-suc-le-zero h)
  every_at p (e ∷ es) t d zero h = and_left _ _ t
  every_at p (e ∷ es) t d (suc i) h = every_at p es (and_right (p e) _ t) d i (le_of_suc-le-suc h)

  -- each entry is unlike each that follows
  abbrev pub distinct : (A → A → Bool) → List A → Bool
  distinct unlike [] = true
  distinct unlike (e ∷ es) = every (unlike e) es && distinct unlike es

-- a search of a table: which entry it looks for, what it finds then, and that of unlike entries it does not look for both
pub record Search (A B : Type 0) : Type 0 where
  pub is_hit : A → Bool
  pub value : A → B
  pub find : List A → B
  pub turn : (e : A) (es : List A) → find (e ∷ es) ≡ cond (is_hit e) (value e) (find es)
  pub unlike : A → A → Bool
  pub apart : (e f : A) → unlike e f ≡ true → is_hit e ≡ true → is_hit f ≡ true → ⊥

module _ {A B : Type 0} (s : Search A B) where
  -- what holds of each entry that it may find, and of none, holds of what it finds
  pub each_found : (p : A → Bool) (P : B → Type 0) → P (s.find []) → ((e : A) → p e ≡ true → s.is_hit e ≡ true → P (s.value e)) → (es : List A) → every p es ≡ true → P (s.find es)
  each_found p P n v [] t = n
  each_found p P n v (e ∷ es) t =
      rw (s.turn e es) (either P (s.is_hit e) (v e (and_left _ _ t)) (λ _. each_found p P n v es (and_right (p e) _ t)))

  module _ (d : A) where
    pub none_hit : (es : List A) → ((i : ℕ) → i < length es → s.is_hit (get_or es i d) ≡ true → ⊥) → s.find es ≡ s.find []
    none_hit [] n = refl
    none_hit (e ∷ es) n =
        rw (s.turn e es) (either (λ r. r ≡ s.find []) (s.is_hit e) (λ m. absurd (n 0 (omega arith) m)) (λ _. none_hit es (λ i h. n (suc i) (suc-le-suc h))))

    other : (e : A) (es : List A) → distinct s.unlike (e ∷ es) ≡ true → (i : ℕ) → suc i < length (e ∷ es) → s.is_hit e ≡ true → s.is_hit (get_or es i d) ≡ true → ⊥
    other e es t i h = s.apart e (get_or es i d) (every_at (s.unlike e) es (and_left _ _ t) d i (le_of_suc-le-suc h))

    pub one_hit : (es : List A) → distinct s.unlike es ≡ true → (i j : ℕ) → i < length es → j < length es → s.is_hit (get_or es i d) ≡ true → s.is_hit (get_or es j d) ≡ true → i ≡ j
    one_hit [] t i j h l p q = absurd (not-suc-le-zero h)
    one_hit (e ∷ es) t zero zero h l p q = refl
    one_hit (e ∷ es) t zero (suc j) h l p q = absurd (other e es t j l p q)
    one_hit (e ∷ es) t (suc i) zero h l p q = absurd (other e es t i h q p)
    one_hit (e ∷ es) t (suc i) (suc j) h l p q = ap suc (one_hit es (and_right (every (s.unlike e) es) _ t) i j (le_of_suc-le-suc h) (le_of_suc-le-suc l) p q)

    pub hit_found : (es : List A) → distinct s.unlike es ≡ true → (i : ℕ) → i < length es → s.is_hit (get_or es i d) ≡ true → s.find es ≡ s.value (get_or es i d)
    hit_found [] t i h p = absurd (not-suc-le-zero h)
    hit_found (e ∷ es) t zero h p = rw (s.turn e es, p)
    hit_found (e ∷ es) t (suc i) h p =
        rw (s.turn e es)
        (either (λ r. r ≡ s.value (get_or es i d)) (s.is_hit e) (λ m. absurd (other e es t i h m p)) (λ _. hit_found es (and_right (every (s.unlike e) es) _ t) i (le_of_suc-le-suc h) p))
