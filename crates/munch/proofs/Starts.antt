-- The bytes that a word and a string begin with are ASCII; and a digit, a quote and a sign are in no row before their own: by their bounds, and at
-- each of the three quotes by computing.
use Prim.Native.Nat.{ℕ}
use Prim.Native.Char.{code}
use native.Mathlib.Omega.{arith}
use mathlib.Core.Bool.{Bool, true, false}
use mathlib.Core.Logic.{◌⊎◌, inl, inr}
use mathlib.Core.Path.{◌≡◌, refl, ap, ◌∙◌}
use borrow.Author.Tests.{ne_eqb}
use Rattle.proving.proofs.Tests.{tests_eq, tests_or}
use Rattle.scan.specs.declared.byte.Class.TheVariants.{Alpha}
use Rattle.scan.specs.Byte.{is_within, is_space, is_alpha, is_digit, is_quote, is_in}
use Rattle.scan.specs.laws.Edge.{AsciiAlone}
use Rattle.scan.proofs.byte.Classes.{within_bounds, below_not}
use Rattle.scan.proofs.Edges.{class_ascii, one_ascii, or_ascii}
use Rattle.utf8.specs.declared.Reading.{Reading}
use Rattle.munch.specs.Word.{is_word_start}
use Rattle.munch.specs.declared.Inside.TheVariants.{Nothing, Braces, Brackets}
use Rattle.munch.specs.Munch.{mode, number_step, quoted_step, outside_table, brace_table, bracket_table, step_in}

pub start_ascii : AsciiAlone is_word_start
unfolding is_word_start is_in
start_ascii = or_ascii _ _ (class_ascii Alpha refl) (one_ascii (code ":") (omega arith))

pub quote_ascii : AsciiAlone is_quote
unfolding is_quote
quote_ascii = or_ascii _ _ (one_ascii (code "\"") (omega arith)) (or_ascii _ _ (one_ascii (code "'") (omega arith)) (one_ascii (code "`") (omega arith)))

-- a digit begins no word, is no white space and no quote
module _ (c : ℕ) (e : is_digit c ≡ true) where
  no_start : is_word_start c ≡ false
  unfolding is_word_start is_alpha
  no_start =
      let h = within_bounds (code "0") (code "9") c e in
      rw (below_not (code "a") (code "z") c (omega arith), below_not (code "A") (code "Z") c (omega arith), ne_eqb c (code "_") (omega arith), ne_eqb c (code ":") (omega arith))

  no_space : is_space c ≡ false
  unfolding is_space
  no_space =
      let h = within_bounds (code "0") (code "9") c e in
      rw (ne_eqb c 9 (omega arith), ne_eqb c 10 (omega arith), ne_eqb c 12 (omega arith), ne_eqb c 13 (omega arith), ne_eqb c 32 (omega arith))

  no_quote : is_quote c ≡ false
  unfolding is_quote
  no_quote =
      let h = within_bounds (code "0") (code "9") c e in
      rw (ne_eqb c (code "\"") (omega arith), ne_eqb c (code "'") (omega arith), ne_eqb c (code "`") (omega arith))

-- so its row is the first that is for it
pub digit_outside : (r : Reading) (d c : ℕ) → is_digit c ≡ true → step_in r d Nothing c ≡ number_step r (mode d Nothing)
unfolding step_in outside_table
digit_outside r d c e = rw (no_start c e, no_space c e, no_quote c e, e)

pub digit_in_brackets : (r : Reading) (d : ℕ) (seen fresh : Bool) (c : ℕ) → is_digit c ≡ true → step_in r d (Brackets seen fresh) c ≡ number_step r (mode d (Brackets seen false))
unfolding step_in bracket_table
digit_in_brackets r d seen fresh c e = rw (no_space c e, e)

-- what holds at each of the three quotes
pub one_quote : {A : Type 0} (f : ℕ → A) {a : A} → f (code "\"") ≡ a → f (code "'") ≡ a → f (code "`") ≡ a → (c : ℕ) → is_quote c ≡ true → f c ≡ a
unfolding is_quote
one_quote f {a} x y z c e = go ((tests_or (tests_eq c (code "\"")) (tests_or (tests_eq c (code "'")) (tests_eq c (code "`")))).0 e)
  where
    go : (c ≡ code "\"") ⊎ ((c ≡ code "'") ⊎ (c ≡ code "`")) → f c ≡ a
    go (inl p) = ap f p ∙ x
    go (inr (inl p)) = ap f p ∙ y
    go (inr (inr p)) = ap f p ∙ z

pub quote_outside : (r : Reading) (d c : ℕ) → is_quote c ≡ true → step_in r d Nothing c ≡ quoted_step r (mode d Nothing)
unfolding step_in outside_table is_word_start is_quote is_alpha is_space is_within
quote_outside r d = one_quote (step_in r d Nothing) refl refl refl

pub quote_in_braces : (r : Reading) (d c : ℕ) → is_quote c ≡ true → step_in r d Braces c ≡ quoted_step r (mode d Braces)
unfolding step_in brace_table is_quote is_alpha is_space is_within
quote_in_braces r d = one_quote (step_in r d Braces) refl refl refl
