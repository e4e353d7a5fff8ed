-- What brackets hold, by the rows of their table: where a digit stands, a lexeme is a number or a duration (`number_given`, `duration_given`), and the
-- others make none but the colon and the `]`.
use Prim.Native.Nat.{ℕ}
use mathlib.Core.Bool.{Bool, true}
use mathlib.Core.List.{List}
use mathlib.Core.Logic.{inl, inr}
use mathlib.Core.Path.{◌≡◌, refl, subst}
use Rattle.scan.specs.Byte.{peek_at, is_digit}
use Rattle.proving.proofs.Choice.{either}
use Rattle.utf8.specs.declared.Reading.{Reading}
use Rattle.numeral.specs.declared.Numeral.{Numeral}
use Rattle.numeral.specs.declared.Numeral.TheVariants.{Number, Duration, Neither}
use Rattle.numeral.specs.Numeral.{numeral_of}
use Rattle.numeral.proofs.Given.{number_given, duration_given}
use Rattle.munch.specs.declared.Inside.TheVariants.{Brackets}
use Rattle.munch.specs.declared.Mode.{Mode}
use Rattle.munch.specs.declared.Step.{Step}
use Rattle.munch.specs.Munch.{number_by, number_step, colon_step, bracket_table, step_in, munched}
use Rattle.munch.specs.laws.Step.{OfLexeme}
use Rattle.munch.specs.laws.Marks.{Held, BracketsHold}
use Rattle.munch.proofs.Openings.{by_rows}

module _ (r : Reading) (xs : List ℕ) where
  -- of a step
  abbrev HeldBy : Step → Type 0
  HeldBy = OfLexeme (Held r xs)

  number_held : (m : Mode) → is_digit (peek_at xs 0) ≡ true → HeldBy (number_step r m xs)
  unfolding number_step
  number_held m d = go (numeral_of r xs) refl
    where
      go : (v : Numeral) → numeral_of r xs ≡ v → HeldBy (number_by m v)
      go (Number n) e = inr (inl (refl, (number_given r xs (inl d) n).0 e))
      go (Duration n) e = inr (inr (refl, (duration_given r xs (inl d) n).0 e))
      go (Neither n) e = tt

  held_by : (d : ℕ) (seen fresh : Bool) → HeldBy (step_in r d (Brackets seen fresh) (peek_at xs 0) xs)
  unfolding step_in bracket_table colon_step
  held_by d seen fresh =
      by_rows (λ step. HeldBy (step xs)) (peek_at xs 0) (bracket_table r d seen fresh) 31
      (λ h. tt)
      (number_held _)
      (λ h. tt)
      (λ h. tt)
      (λ h. inl (inr refl))
      (λ h. either HeldBy seen (λ e. tt) (λ e. either HeldBy fresh (λ f. tt) (λ f. inl (inl refl))))
      (λ n. tt)

pub brackets_hold : BracketsHold
unfolding munched
brackets_hold r m m' xs k n b e = subst (HeldBy r xs) (rw b.there at e) (held_by r xs m.depth b.seen b.fresh)
