-- The kind that a rule gives a word is the word's own (`keyword_fits` of token), or one that the rule names: so it has 16 bits, and is no mark's, nor the end's.
use Prim.Native.Nat.{ℕ, ◌^◌, ◌≤◌, ◌<◌}
use native.Mathlib.Omega.{arith}
use mathlib.Core.Bool.{false, ◌||◌, not}
use mathlib.Core.List.{List}
use mathlib.Core.Logic.{◌⊎◌, inl, inr}
use mathlib.Core.Path.{◌≡◌, refl}
use lib.Dec.{eqb, ltb}
use borrow.Author.Tests.{not-true, le-ltb, ne_eqb}
use Rattle.std.specs.Prelude.{None, Option, Some}
use Rattle.scan.specs.Text.{has}
use Rattle.proving.proofs.Below.{below}
use Rattle.proving.proofs.Choice.{either}
use Rattle.token.specs.Kinds.{eof_kind, identifier, number, land, end_kind}
use Rattle.token.specs.laws.Words.{KindFits}
use Rattle.munch.specs.declared.word.Rule.{Rule}
use Rattle.munch.specs.Word.{is_fill, has_colon, is_called, rule_by, is_or, brace_rule, kind_by}
use Rattle.munch.specs.laws.Marks.{marks}

-- between the end and the marks, or behind the signs
abbrev pub OfWord : ℕ → Type 0
OfWord k = ((identifier ≤ k) × (k ≤ number)) ⊎ ((land ≤ k) × (k ≤ end_kind))

pub small : (k : ℕ) → OfWord k → k < 2 ^ 16
small k (inl h) = omega arith
small k (inr h) = omega arith

pub no_mark : (k : ℕ) → OfWord k → has k marks ≡ false
unfolding has
no_mark k (inl h) = not-true _ (rw (le-ltb k identifier h.0) at (below (λ x. ltb x identifier || not (has x marks)) 5 refl k (omega arith)))
no_mark k (inr h) = not-true _ (rw (le-ltb k land h.0) at (below (λ x. ltb x land || not (has x marks)) 82 refl k (omega arith)))

pub not_the_end : (k : ℕ) → OfWord k → eqb k eof_kind ≡ false
not_the_end k (inl h) = ne_eqb k eof_kind (λ e. omega (arith, e, h.0))
not_the_end k (inr h) = ne_eqb k eof_kind (λ e. omega (arith, e, h.0))

-- of a rule
abbrev Given : Rule → Type 0
Given r = OfWord (kind_by r)

module _ (xs : List ℕ) (n : ℕ) where
  pub word_fits : (k : Option ℕ) → KindFits k → Given (rule_by k xs n)
  unfolding kind_by rule_by
  word_fits (Some k) h = either Given (is_fill k) (λ e. either Given (is_called xs n) (λ f. own h) (λ f. inl (omega arith, omega arith))) (λ e. own h)
    where
      own : KindFits (Some k) → OfWord k
      own (inl e) = inl (omega arith, omega arith)
      own (inr g) = inr g
  word_fits None h = either Given (has_colon xs n) (λ e. inl (omega arith, omega arith)) (λ e. inl (omega arith, omega arith))

  pub brace_word_fits : Given (brace_rule xs n)
  unfolding kind_by brace_rule
  brace_word_fits = either Given (is_or xs n) (λ e. inr (omega arith, omega arith)) (λ e. inl (omega arith, omega arith))
