-- The search finds the lexeme of a number: by the steps of a query one at a time (`steps_at`), from a place that the reading reaches on. The count goes up with
-- each lexeme, and each is one of the list. The last of them, EOF, is no step's, so that nothing is found for its number.
use Prim.Native.Nat.{ℕ, zero, suc, ◌+◌, ◌<◌, ◌≤◌}
use native.Mathlib.Nat.{add-zero, zero-add, le_of_suc-le-suc}
use native.Mathlib.Omega.{arith}
use mathlib.Core.List.{List}
use mathlib.Core.Path.{◌≡◌, refl, sym, subst, ◌∙◌}
use lib.ListN.{length, drop, get_or, length-drop}
use lib.Seq.{get_or-drop}
use borrow.Author.Tests.{eq-eqb, ne_eqb}
use Rattle.scan.specs.Byte.{end, peek_at}
use Rattle.utf8.specs.declared.Reading.{Reading}
use Rattle.munch.specs.declared.Mode.{Mode}
use Rattle.munch.specs.declared.Step.{Step}
use Rattle.munch.specs.declared.Step.TheVariants.{Lexeme, Space, Comment, Refused, Finished}
use Rattle.munch.specs.Munch.{outside, munched}
use Rattle.lex.specs.Outcome.{Entry, entry, depth_by, steps_past, read_from}
use Rattle.lex.specs.Lex.{eof, entries_of}
use Rattle.lex.specs.laws.Refusals.{Reaches, start, lexeme, space, comment}
use Rattle.lex.specs.laws.Before.{entries_from}
use Rattle.lex.proofs.Steps.{steps_at, goes_at}
use Rattle.std.specs.Prelude.{None, Option}
use Rattle.reason.specs.declared.Found.{Found}
use Rattle.reason.specs.Reason.{found_at, found_in, lexeme_at}
use Rattle.reason.specs.laws.Reasons.{lexeme_of}

-- the first of the bytes from a place on
pub first_at : (q : List ℕ) (i : ℕ) → peek_at (drop i q) 0 ≡ peek_at q i
first_at q i = rw add-zero at (get_or-drop i q 0 end)

-- what is found, and the lexeme
pub data Finds (r : Reading) (q : List ℕ) : Option Found → Entry → Type 0 where
  there : (at k n : ℕ) (m m' : Mode) → Reaches r q at m → munched r m (drop at q) ≡ Lexeme k n m' → Finds r q (found_at at m) (entry k at n (depth_by k m'))
  nowhere : (at : ℕ) → peek_at q at ≡ end → Finds r q None (eof at)

module _ (r : Reading) (q : List ℕ) where
  -- from a place on, where the lexeme of the number i is the next
  abbrev From : ℕ → ℕ → ℕ → Mode → Type 0
  From j i at m = Finds r q (found_in (i + j) i at m (steps_past r 0 m (drop at q))) (get_or (entries_from r q at m) j (eof 0))

  abbrev All : ℕ → Mode → Type 0
  All at m = (j i : ℕ) → j < length (entries_from r q at m) → From j i at m

  -- what is left gets shorter with each step
  one_step : (at : ℕ) (m : Mode) → Reaches r q at m → ((to : ℕ) (m' : Mode) → at < to → to ≤ length q → Reaches r q to m' → All to m') → All at m
  unfolding read_from found_in
  one_step at m h more = go (munched r m (drop at q)) refl
    where
      go : (s : Step) → munched r m (drop at q) ≡ s → All at m
      go (Lexeme k n m') f zero i l =
          rw (steps_at r q at m _ f, eq-eqb i (i + 0) (sym (add-zero i))) (there at k n m m' h f)
      go (Lexeme k n m') f (suc j) i l =
          let g = goes_at r q at m _ f in
          let e : i + suc j ≡ i + 1 + j = omega arith in
          let w = more (at + n) m' (omega (arith, g.some)) (omega (arith, g.within, length-drop at q, g.some)) (lexeme at k n m m' h f) in
          rw (steps_at r q at m _ f, ne_eqb i (i + suc j) (λ z. omega (arith, z)))
          (subst (λ (x : ℕ). Finds r q (found_in x (i + 1) (at + n) m' (steps_past r 0 m' (drop (at + n) q))) (get_or (entries_from r q (at + n) m') j (eof 0))) (sym e)
          (w j (i + 1) (le_of_suc-le-suc (rw (steps_at r q at m _ f) at l))))
      go (Space m') f j i l =
          let g = goes_at r q at m _ f in
          let w = more (at + 1) m' (omega arith) (omega (arith, g.within, length-drop at q)) (space at m m' h f) in
          rw (steps_at r q at m _ f) (w j i (rw (steps_at r q at m _ f) at l))
      go (Comment n) f j i l =
          let g = goes_at r q at m _ f in
          let w = more (at + n) m (omega (arith, g.some)) (omega (arith, g.within, length-drop at q, g.some)) (comment at n m h f) in
          rw (steps_at r q at m _ f) (w j i (rw (steps_at r q at m _ f) at l))
      go (Refused number o) f j i l = absurd (omega (arith, rw (steps_at r q at m _ f) at l))
      go Finished f zero i l = rw (steps_at r q at m _ f) (nowhere at (sym (first_at q at) ∙ (goes_at r q at m _ f).0))
      go Finished f (suc j) i l = absurd (omega (arith, rw (steps_at r q at m _ f) at l))

  all_steps : (k at : ℕ) (m : Mode) → Reaches r q at m → length q ≤ at + k → All at m
  all_steps zero at m h l = one_step at m h (λ j m' a b g. absurd (omega (arith, a, b, l)))
  all_steps (suc k) at m h l = one_step at m h (λ j m' a b g. all_steps k j m' g (omega (arith, a, l)))

  pub finds : (number : ℕ) → number < length (entries_of r q) → Finds r q (lexeme_at r q number) (lexeme_of r q number)
  finds number l =
      subst (λ (n : ℕ). Finds r q (found_in n 0 0 outside (steps_past r 0 outside q)) (lexeme_of r q number)) (zero-add number)
      (all_steps (length q) 0 outside start (omega arith) number 0 l)
