-- Where a step leads, by what it does to what is open (`does_of`).
use Prim.Native.Nat.{ℕ}
use mathlib.Core.Bool.{true}
use mathlib.Core.List.{List}
use mathlib.Core.Logic.{inl, inr}
use mathlib.Core.Path.{refl}
use Rattle.munch.specs.declared.Inside.{Inside}
use Rattle.munch.specs.declared.Inside.TheVariants.{Nothing, Braces, Brackets}
use Rattle.munch.specs.declared.Mode.{Mode}
use Rattle.munch.specs.declared.Step.{Step}
use Rattle.munch.specs.declared.Step.TheVariants.{Lexeme, Space, Comment, Refused, Finished}
use Rattle.munch.specs.Munch.{mode, munched}
use Rattle.munch.specs.laws.Modes.{past, Behind, LeadsTo, StepLeads}
use Rattle.munch.specs.laws.Marks.{Does, opens_paren, closes_paren, opens_brace, closes_brace, opens_bracket, closes_bracket, first_colon, other}
use Rattle.munch.proofs.Marks.{DoesOf, does_of}

module _ (d : ℕ) (i : Inside) (xs : List ℕ) where
  behind : {k n : ℕ} {m : Mode} → Does xs (mode d i) k n m → Behind d i m
  behind (opens_paren o b) = rw o tt
  behind (closes_paren c o b e) = rw o tt
  behind (opens_brace o b) = rw o tt
  behind (closes_brace h b) = rw h (inl refl)
  behind (opens_bracket o b) = rw o (refl, refl)
  behind (closes_bracket h b) = rw h.there (inl refl)
  behind (first_colon e b) = rw e (inr (true, refl))
  behind (other k n h) = nothing i
    where
      nothing : (j : Inside) → Behind d j (mode d (past j))
      nothing Nothing = tt
      nothing Braces = inr refl
      nothing (Brackets seen fresh) = inr (seen, refl)

  leads : (s : Step) → DoesOf xs (mode d i) s → LeadsTo d i s
  leads (Lexeme k n m) h = behind h.0
  leads (Space m) h = h.0
  leads (Comment n) h = h.0
  leads (Refused number o) h = tt
  leads Finished h = h

pub step_leads : StepLeads
step_leads r d i xs = leads d i xs (munched r (mode d i) xs) (does_of r (mode d i) xs)
