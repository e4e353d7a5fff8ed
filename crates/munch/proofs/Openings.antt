-- The one lemma of a table: what holds of each row's step where its test holds of the byte, and of the refusal where no test does, holds of the
-- step for the byte. By induction on the rows.
use Prim.Native.Nat.{ℕ}
use mathlib.Core.Bool.{Bool, true, false, cond, ◌||◌, true≢false}
use mathlib.Core.List.{List, [], ◌∷◌}
use mathlib.Core.Path.{◌≡◌, refl}
use Rattle.munch.specs.declared.Step.{Step}
use Rattle.munch.specs.Munch.{Opening, refuse, step_for}

-- whether a row is for the byte
abbrev pub taken : List Opening → ℕ → Bool
taken [] c = false
taken (o ∷ t) c = o.takes c || taken t c

-- from a fact of each row's step, where the row is for the byte, one after the other
abbrev pub FromRows : ((List ℕ → Step) → Type 0) → ℕ → List Opening → Type 0 → Type 0
FromRows P c [] fact = fact
FromRows P c (o ∷ t) fact = (o.takes c ≡ true → P o.step) → FromRows P c t fact

pub by_rows : (P : (List ℕ → Step) → Type 0) (c : ℕ) (t : List Opening) (number : ℕ) → FromRows P c t ((taken t c ≡ false → P (refuse number)) → P (step_for t number c))
by_rows P c [] number = λ other. other refl
by_rows P c (o ∷ t) number = λ h. onward t (λ rest. go (o.takes c) h rest) (by_rows P c t number)
  where
    go : (b : Bool) → (b ≡ true → P o.step) → ((taken t c ≡ false → P (refuse number)) → P (step_for t number c))
        → (b || taken t c ≡ false → P (refuse number)) → P (cond b o.step (step_for t number c))
    go true h rest n = h refl
    go false h rest n = rest n

    -- what follows from a fact follows from the rows that give it
    onward : {A B : Type 0} (u : List Opening) → (A → B) → FromRows P c u A → FromRows P c u B
    onward [] f a = f a
    onward (p ∷ u) f a = λ k. onward u f (a k)

-- where no row is for the byte
pub none_takes : (t : List Opening) (number c : ℕ) → taken t c ≡ false → step_for t number c ≡ refuse number
none_takes [] number c e = refl
none_takes (o ∷ t) number c e = go (o.takes c) (none_takes t number c) e
  where
    go : (b : Bool) → (taken t c ≡ false → step_for t number c ≡ refuse number) → b || taken t c ≡ false → cond b o.step (step_for t number c) ≡ refuse number
    go true rest n = absurd (true≢false n)
    go false rest n = rest n
