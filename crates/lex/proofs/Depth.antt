-- The parentheses that are open behind a step, by what its lexeme does to them (`step_does`): one more at most. So a lexeme's depth is the lesser of those before
-- it and behind it.
use Prim.Native.Nat.{ℕ, ◌+◌, ◌≤◌, ◌<◌, min}
use native.Mathlib.Omega.{arith}
use mathlib.Core.Bool.{true≢false}
use mathlib.Core.List.{List}
use mathlib.Core.Path.{◌≡◌, refl, ap}
use lib.Dec.{eqb, ltb}
use borrow.Author.Tests.{lt-ltb, eqb-true}
use Rattle.proving.proofs.Choice.{either}
use Rattle.scan.specs.Text.{has}
use Rattle.utf8.specs.declared.Reading.{Reading}
use Rattle.token.specs.Kinds.{left_paren}
use Rattle.munch.specs.declared.Mode.{Mode}
use Rattle.munch.specs.declared.Step.{Step}
use Rattle.munch.specs.declared.Step.TheVariants.{Lexeme, Space, Comment, Refused, Finished}
use Rattle.munch.specs.Munch.{most_depth, deeper, munched}
use Rattle.munch.specs.laws.Modes.{LeadsTo}
use Rattle.munch.specs.laws.Marks.{Does, opens_paren, closes_paren, opens_brace, closes_brace, opens_bracket, closes_bracket, first_colon, other}
use Rattle.munch.proofs.Modes.{step_leads}
use Rattle.munch.proofs.Marks.{step_does}
use Rattle.lex.specs.Outcome.{depth_by, step_mode}

does_depth : (xs : List ℕ) (m m' : Mode) (k n : ℕ) → m.depth < most_depth → Does xs m k n m' → min m.depth m'.depth ≡ depth_by k m'
unfolding deeper has
does_depth xs m m' k n l (opens_paren o b) = rw (lt-ltb m.depth most_depth l) (omega arith)
does_depth xs m m' k n l (closes_paren d o b e) = omega arith
does_depth xs m m' k n l (opens_brace o b) = omega arith
does_depth xs m m' k n l (closes_brace o b) = omega arith
does_depth xs m m' k n l (opens_bracket o b) = omega arith
does_depth xs m m' k n l (closes_bracket o b) = omega arith
does_depth xs m m' k n l (first_colon o b) = omega arith
does_depth xs m m' k n l (other _ _ h) =
    either (λ (d : ℕ). min m.depth m.depth ≡ d) (eqb k left_paren) (λ e. absurd (true≢false (rw (eqb-true k left_paren e) at h))) (λ e. omega arith)

does_open : (xs : List ℕ) (m m' : Mode) (k n : ℕ) → Does xs m k n m' → m'.depth ≤ m.depth + 1
unfolding deeper
does_open xs m m' k n (opens_paren o b) = either (λ (d : ℕ). d ≤ m.depth + 1) (ltb m.depth most_depth) (λ e. omega arith) (λ e. omega arith)
does_open xs m m' k n (closes_paren d o b e) = omega arith
does_open xs m m' k n (opens_brace o b) = omega arith
does_open xs m m' k n (closes_brace o b) = omega arith
does_open xs m m' k n (opens_bracket o b) = omega arith
does_open xs m m' k n (closes_bracket o b) = omega arith
does_open xs m m' k n (first_colon o b) = omega arith
does_open xs m m' k n (other _ _ h) = omega arith

module _ (r : Reading) (m : Mode) (xs : List ℕ) where
  pub step_depth : {k n : ℕ} {m' : Mode} → munched r m xs ≡ Lexeme k n m' → m.depth < most_depth → min m.depth m'.depth ≡ depth_by k m'
  step_depth {k} {n} {m'} e l = does_depth xs m m' k n l (step_does r m m' xs k n e)

  pub step_opens : {k n : ℕ} {m' : Mode} → munched r m xs ≡ Lexeme k n m' → m'.depth ≤ m.depth + 1
  step_opens {k} {n} {m'} e = does_open xs m m' k n (step_does r m m' xs k n e)

  -- behind any step
  pub step_rises : (step_mode m (munched r m xs)).depth ≤ m.depth + 1
  step_rises = go (munched r m xs) refl
    where
      go : (s : Step) → munched r m xs ≡ s → (step_mode m s).depth ≤ m.depth + 1
      go (Lexeme k n m') e = step_opens e
      go (Space m') e = let h : LeadsTo m.depth m.inside (Space m') = rw e at (step_leads r m.depth m.inside xs) in omega (arith, ap (λ (n : Mode). n.depth) h)
      go (Comment n) e = omega arith
      go (Refused number o) e = omega arith
      go Finished e = omega arith
