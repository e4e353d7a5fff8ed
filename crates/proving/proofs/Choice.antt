-- Laws of a choice by a test.
use Prim.Native.Nat.{ℕ}
use mathlib.Core.Bool.{Bool, true, false, cond, ◌&&◌}
use mathlib.Core.Path.{◌≡◌, refl, sym, ap, subst, ◌∙◌}

-- a fact of both arms, each with what its test says, is a fact of the choice
pub either {ℓ} : {A : Type 0} (P : A → Type ℓ) (b : Bool) {x y : A} → (b ≡ true → P x) → (b ≡ false → P y) → P (cond b x y)
either P true f g = f refl
either P false f g = g refl

-- two choices by one test are equal where their arms are
pub either_same : {A : Type 0} (b : Bool) {x y z w : A} → (b ≡ true → x ≡ z) → (b ≡ false → y ≡ w) → cond b x y ≡ cond b z w
either_same true f g = f refl
either_same false f g = g refl

-- a choice by two tests is a choice by each
pub cond_and : {A : Type 0} (a b : Bool) (x y : A) → cond (a && b) x y ≡ cond a (cond b x y) y
cond_and true b x y = refl
cond_and false b x y = refl

-- what two tests say together, each says
pub and_left : (a b : Bool) → a && b ≡ true → a ≡ true
and_left true b e = refl
and_left false b e = e

pub and_right : (a b : Bool) → a && b ≡ true → b ≡ true
and_right true b e = e
and_right false b e = let z : ◌≡◌ {A = Bool} true false = cc in cc

-- two answers that a number tells apart are not one
pub told : {A B : Type 0} (f : A → ℕ) {a b c : A} → a ≡ b → a ≡ c → (f b ≡ f c → ⊥) → B
told f p q n = absurd (n (ap f (sym p ∙ q)))

-- where each row has an answer of its own, an answer that one row gives is given by no other
pub exactly : {A W : Type 0} (row_of : A → W) (given : W → A) → ((w : W) → row_of (given w) ≡ w) → (Holds : W → Type 0) {a : A} (v : W) → Holds v → a ≡ given v → (w : W) → a ≡ given w → Holds w
exactly row_of given back Holds v h e w f = subst Holds (sym (back v) ∙ ap row_of (sym e ∙ f) ∙ back w) h
