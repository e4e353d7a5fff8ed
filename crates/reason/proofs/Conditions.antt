-- At most one reason holds of a lexeme: the seven conditions are the ends of a tree of choices (`Way`), in braces or not, a word of the table or not, and so on,
-- and where a choice is made one way it is not made the other (`split`). A fill word is a word of the table (`fill_in_table`), and one with a colon is none
-- (`colon_in_none`).
use Prim.Native.Nat.{ℕ, suc}
use native.Mathlib.Omega.{arith}
use mathlib.Core.List.{List}
use mathlib.Core.Logic.{◌⊎◌, inl, inr}
use mathlib.Core.Path.{◌≡◌, refl, sym, ◌∙◌}
use Rattle.std.specs.Prelude.{None, Option, Some}
use Rattle.proving.proofs.Choice.{told}
use Rattle.token.proofs.Lookup.{colon_in_none}
use Rattle.lex.specs.Outcome.{Entry}
use Rattle.reason.specs.Conditions.{BracesOpen, IsOr, InTable, IsFill, Called, HasColon, Applies, or_in_braces, word_of_braces, table_word, fill_called, fill_alone, with_colon, plain}
use Rattle.reason.specs.laws.Reasons.{OneReason}
use Rattle.reason.proofs.Fills.{fill_in_table}

-- of the numbers that have a property there is one
abbrev One : (ℕ → Type 0) → Type 0
One P = (a b : ℕ) → P a → P b → a ≡ b

abbrev Either : Type 0 → (ℕ → Type 0) → (ℕ → Type 0) → ℕ → Type 0
Either C P Q a = (C × P a) ⊎ ((¬ C) × Q a)

split : (C : Type 0) (P Q : ℕ → Type 0) → One P → One Q → One (Either C P Q)
split C P Q p q a b (inl s) (inl t) = p a b s.1 t.1
split C P Q p q a b (inl s) (inr t) = absurd (t.0 s.0)
split C P Q p q a b (inr s) (inl t) = absurd (s.0 t.0)
split C P Q p q a b (inr s) (inr t) = q a b s.1 t.1

one : (n : ℕ) → One (λ a. a ≡ n)
one n a b s t = s ∙ sym t

-- no word has a kind and none
abbrev kind_or : Option ℕ → ℕ
kind_or (Some k) = suc k
kind_or None = 0

pub no_kind : {A : Type 0} {w : Option ℕ} {k : ℕ} → w ≡ Some k → w ≡ None → A
no_kind e f = told kind_or e f (λ z. omega (arith, z))

-- the tree of choices
module _ (q : List ℕ) (es : List Entry) (e : Entry) where
  abbrev Braced : ℕ → Type 0
  Braced = Either (IsOr q e) (λ a. a ≡ 1) (λ a. a ≡ 2)

  abbrev Filled : ℕ → Type 0
  Filled = Either (Called q e) (λ a. a ≡ 4) (λ a. a ≡ 5)

  abbrev Tabled : ℕ → Type 0
  Tabled = Either (IsFill q e) Filled (λ a. a ≡ 3)

  abbrev Other : ℕ → Type 0
  Other = Either (HasColon q e) (λ a. a ≡ 6) (λ a. a ≡ 7)

  abbrev Unbraced : ℕ → Type 0
  Unbraced = Either (InTable q e) Tabled Other

  abbrev Way : ℕ → Type 0
  Way = Either (BracesOpen es e) Braced Unbraced

  way : {a : ℕ} → Applies q es e a → Way a
  way (or_in_braces w o) = inl (w.0, inl (o, refl))
  way (word_of_braces w n) = inl (w.0, inr (n, refl))
  way (table_word w t n) = inr (w.0.0, inl (t, inr (n, refl)))
  way (fill_called w f c) = inr (w.0.0, inl (fill_in_table q e f, inl (f, inl (c, refl))))
  way (fill_alone w f n) = inr (w.0.0, inl (fill_in_table q e f, inl (f, inr (n, refl))))
  way (with_colon w c) = inr (w.0.0, inr ((λ t. no_kind t.1 (colon_in_none _ c)), inl (c, refl)))
  way (plain w n c) = inr (w.0.0, inr (n, inr (c, refl)))

  one_way : One Way
  one_way =
      split (BracesOpen es e) Braced Unbraced (split (IsOr q e) _ _ (one 1) (one 2))
      (split (InTable q e) Tabled Other (split (IsFill q e) Filled _ (split (Called q e) _ _ (one 4) (one 5)) (one 3)) (split (HasColon q e) _ _ (one 6) (one 7)))

pub one_reason : OneReason
one_reason q es e a b s t = one_way q es e a b (way q es e s) (way q es e t)
