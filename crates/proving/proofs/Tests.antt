-- Tests of a condition: what a test says of it, and how the tests of several conditions make one.
use Prim.Native.Nat.{ℕ, ◌<◌, ◌≤◌}
use mathlib.Core.Bool.{Bool, true, false, ◌&&◌, ◌||◌, not, true≢false}
use mathlib.Core.Logic.{◌⊎◌, inl, inr}
use mathlib.Core.Path.{◌≡◌, refl, sym, ◌∙◌}
use lib.Dec.{eqb, leb, ltb}
use borrow.Author.Tests.{eq-eqb, eqb-true, le-leb, leb-true, lt-ltb, ltb-true}

-- a test, and the condition that it is one of
abbrev pub Tests : Bool → Type 0 → Type 0
Tests b C = (b ≡ true → C) × (C → b ≡ true)

-- what a test denies
pub denied : {b : Bool} {C : Type 0} → Tests b C → b ≡ false → C → ⊥
denied t e c = true≢false (sym (t.1 c) ∙ e)

pub affirmed : {b : Bool} {C : Type 0} → Tests b C → (C → ⊥) → b ≡ false
affirmed {b = true} t n = absurd (n (t.0 refl))
affirmed {b = false} t n = refl

pub decided : {b : Bool} {C : Type 0} → Tests b C → Dec C
decided {b = true} t = yes (t.0 refl)
decided {b = false} t = no (denied t refl)

-- one test or another, a test and another, and the contrary of a test
pub tests_or : {a b : Bool} {C D : Type 0} → Tests a C → Tests b D → Tests (a || b) (C ⊎ D)
tests_or {a = true} s t = ((λ e. inl (s.0 refl)), λ c. refl)
tests_or {a = false} s t = ((λ e. inr (t.0 e)), other s t)
  where
    other : {b : Bool} {C D : Type 0} → Tests false C → Tests b D → C ⊎ D → b ≡ true
    other s t (inl c) = absurd (true≢false (sym (s.1 c)))
    other s t (inr d) = t.1 d

pub tests_and : {a b : Bool} {C D : Type 0} → Tests a C → Tests b D → Tests (a && b) (C × D)
tests_and {a = true} s t = ((λ e. (s.0 refl, t.0 e)), λ c. t.1 c.1)
tests_and {a = false} s t = ((λ e. absurd (true≢false (sym e))), λ c. s.1 c.0)

pub tests_not : {a : Bool} {C : Type 0} → Tests a C → Tests (not a) (C → ⊥)
tests_not {a = true} s = ((λ e. absurd (true≢false (sym e))), λ n. absurd (n (s.0 refl)))
tests_not {a = false} s = ((λ e c. true≢false (sym (s.1 c))), λ n. refl)

-- what a test says of itself, and the tests of numbers
pub itself : (b : Bool) → Tests b (b ≡ true)
itself b = ((λ e. e), λ e. e)

pub tests_eq : (a b : ℕ) → Tests (eqb a b) (a ≡ b)
tests_eq a b = (eqb-true a b, eq-eqb a b)

pub tests_le : (a b : ℕ) → Tests (leb a b) (a ≤ b)
tests_le a b = (leb-true a b, le-leb a b)

pub tests_lt : (a b : ℕ) → Tests (ltb a b) (a < b)
tests_lt a b = (ltb-true a b, lt-ltb a b)
