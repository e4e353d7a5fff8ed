-- Each lexeme of a query is a step that reading makes: by the steps of a query one at a time (`steps_at`), from an offset that it reaches on. What is left gets
-- shorter with each.
use Prim.Native.Nat.{ℕ, zero, suc, ◌+◌, ◌<◌, ◌≤◌}
use native.Mathlib.Omega.{arith}
use mathlib.Core.List.{List}
use mathlib.Core.Logic.{◌⊎◌, inl, inr, ⊎_elim}
use mathlib.Core.Path.{◌≡◌, refl, sym, ap, subst}
use lib.ListN.{length, drop, length-drop}
use Rattle.utf8.specs.declared.Reading.{Reading}
use Rattle.token.specs.Kinds.{eof_kind}
use Rattle.munch.specs.declared.Mode.{Mode}
use Rattle.munch.specs.declared.Step.{Step}
use Rattle.munch.specs.declared.Step.TheVariants.{Lexeme, Space, Comment, Refused, Finished}
use Rattle.munch.specs.Munch.{outside, munched}
use Rattle.lex.specs.Outcome.{Entry, steps_past, read_from}
use Rattle.lex.specs.Lex.{entries}
use Rattle.lex.specs.laws.Refusals.{Reaches, start, lexeme, space, comment}
use Rattle.lex.specs.laws.Entries.{Among, StepThere, EntryIsStep}
use Rattle.lex.proofs.Steps.{steps_at, goes_at}

module _ (r : Reading) (q : List ℕ) (e : Entry) where
  abbrev Found : Type 0
  Found = (e.kind ≡ eof_kind) ⊎ StepThere r q e

  -- the lexemes from an offset on
  abbrev From : ℕ → Mode → Type 0
  From i m = Among e (entries (read_from i (steps_past r 0 m (drop i q))))

  one_step : (i : ℕ) (m : Mode) → Reaches r q i m → ((j : ℕ) (m' : Mode) → i < j → j ≤ length q → Reaches r q j m' → From j m' → Found) → From i m → Found
  unfolding read_from
  one_step i m h more = go (munched r m (drop i q)) refl
    where
      go : (s : Step) → munched r m (drop i q) ≡ s → From i m → Found
      go (Lexeme k n m') f a =
          let g = goes_at r q i m _ f in
          ⊎_elim
          (λ x. inr (subst (StepThere r q) (sym x) (record { mode = m; next = m'; reached = h; step = f; deep = refl })))
          (λ x. more (i + n) m' (omega (arith, g.some)) (omega (arith, g.within, length-drop i q, g.some)) (lexeme i k n m m' h f) x)
          (rw (steps_at r q i m _ f) at a)
      go (Space m') f a =
          let g = goes_at r q i m _ f in
          more (i + 1) m' (omega arith) (omega (arith, g.within, length-drop i q)) (space i m m' h f) (rw (steps_at r q i m _ f) at a)
      go (Comment n) f a =
          let g = goes_at r q i m _ f in
          more (i + n) m (omega (arith, g.some)) (omega (arith, g.within, length-drop i q, g.some)) (comment i n m h f) (rw (steps_at r q i m _ f) at a)
      go (Refused number o) f a = absurd (rw (steps_at r q i m _ f) at a)
      go Finished f a = ⊎_elim (λ x. inl (ap (λ (y : Entry). y.kind) x)) (λ x. absurd x) (rw (steps_at r q i m _ f) at a)

  all_steps : (k i : ℕ) (m : Mode) → Reaches r q i m → length q ≤ i + k → From i m → Found
  all_steps zero i m h l = one_step i m h (λ j m' a b g. absurd (omega (arith, a, b, l)))
  all_steps (suc k) i m h l = one_step i m h (λ j m' a b g. all_steps k j m' g (omega (arith, a, l)))

pub entry_is_step : EntryIsStep
entry_is_step r q e a = all_steps r q e (length q) 0 outside start (omega arith) a
