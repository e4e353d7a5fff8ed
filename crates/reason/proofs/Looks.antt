-- A turn of the search: the lexeme that is looked for is the one found before, or stands from here on; and the count is that of the whole. A step is the first of
-- those from its offset on (`steps_at`), and goes on by one byte at least, within the query (`goes_at`).
use Prim.Native.Nat.{ℕ, ◌+◌, ◌≤◌}
use native.Mathlib.Omega.{arith}
use mathlib.Core.List.{List}
use mathlib.Core.Logic.{◌⊎◌, inl, inr}
use mathlib.Core.Path.{◌≡◌, refl, sym, ◌∙◌}
use lib.ListN.{length, drop, length-drop}
use borrow.Author.Tests.{eq-eqb, ne_eqb}
use Rattle.utf8.specs.declared.Reading.{Reading}
use Rattle.munch.specs.declared.Mode.{Mode}
use Rattle.munch.specs.declared.Step.TheVariants.{Lexeme, Space, Comment, Refused, Finished}
use Rattle.munch.specs.Munch.{outside, munched}
use Rattle.lex.specs.Outcome.{steps_past, read_from, outcome_of}
use Rattle.lex.proofs.Steps.{steps_at, goes_at}
use Rattle.std.specs.Prelude.{Err, None, Option, Some}
use Rattle.quoted.specs.Quoted.{fault}
use Rattle.reason.specs.declared.Found.{Found}
use Rattle.reason.specs.Reason.{found_at, found_in, lexeme_at}
use Rattle.reason.specs.steps.Search.{ended, search_by, searched, or_else, FoundWithin}

-- where the search stands: at an offset in a mode, with so many lexemes before it, and what was found
pub record Looks (r : Reading) (q : List ℕ) (wanted at i : ℕ) (m : Mode) (f : Option Found) : Type 0 where
  pub inside : at ≤ length q
  pub few : i ≤ at
  pub late : i ≤ wanted → f ≡ None
  pub within : FoundWithin q f
  pub found : lexeme_at r q wanted ≡ or_else f (found_in wanted i at m (steps_past r 0 m (drop at q)))
  pub count : (g : Option Found) → search_by g 0 (outcome_of r q) ≡ search_by g i (read_from at (steps_past r 0 m (drop at q)))

pub looks_start : (r : Reading) (q : List ℕ) (wanted : ℕ) → Looks r q wanted 0 0 outside None
looks_start r q wanted = record { inside = omega arith; few = omega arith; late = λ l. refl; within = tt; found = refl; count = λ g. refl }

or_nowhere : (f : Option Found) → or_else f None ≡ f
or_nowhere (Some f') = refl
or_nowhere None = refl

module _ {r : Reading} {q : List ℕ} {wanted at i : ℕ} {m : Mode} {f : Option Found} (l : Looks r q wanted at i m f) where
  -- a lexeme is the one, or is passed; g is what is found behind it
  lexeme_found : {k n : ℕ} {next : Mode} → munched r m (drop at q) ≡ Lexeme k n next → (g : Option Found)
      → ((i ≡ wanted) × (g ≡ found_at at m)) ⊎ ((¬ (i ≡ wanted)) × (g ≡ f)) → lexeme_at r q wanted ≡ or_else g (found_in wanted (i + 1) (at + n) next (steps_past r 0 next (drop (at + n) q)))
  unfolding found_in
  lexeme_found e g (inl (z, h)) = rw h (l.found ∙ rw (l.late (omega (arith, z)), steps_at r q at m _ e, eq-eqb i wanted z))
  lexeme_found e g (inr (z, h)) = rw h (l.found ∙ rw (steps_at r q at m _ e, ne_eqb i wanted z))

  pub looks_lexeme : {k n : ℕ} {next : Mode} → munched r m (drop at q) ≡ Lexeme k n next → (g : Option Found)
      → ((i ≡ wanted) × (g ≡ found_at at m)) ⊎ ((¬ (i ≡ wanted)) × (g ≡ f)) → Looks r q wanted (at + n) (i + 1) next g
  unfolding read_from search_by
  looks_lexeme {k} {n} {next} e g w =
      let p = goes_at r q at m _ e in
      record {
        inside = omega (arith, p.some, p.within, length-drop at q, l.inside);
        few = omega (arith, p.some, l.few);
        late = later w;
        within = inner w;
        found = lexeme_found e g w;
        count = λ h. l.count h ∙ rw (steps_at r q at m _ e);
      }
    where
      later : ((i ≡ wanted) × (g ≡ found_at at m)) ⊎ ((¬ (i ≡ wanted)) × (g ≡ f)) → i + 1 ≤ wanted → g ≡ None
      later (inl (z, h)) u = absurd (omega (arith, z, u))
      later (inr (z, h)) u = h ∙ l.late (omega (arith, u))

      inner : ((i ≡ wanted) × (g ≡ found_at at m)) ⊎ ((¬ (i ≡ wanted)) × (g ≡ f)) → FoundWithin q g
      inner (inl (z, h)) = rw h l.inside
      inner (inr (z, h)) = rw h l.within

  pub looks_space : {next : Mode} → munched r m (drop at q) ≡ Space next → Looks r q wanted (at + 1) i next f
  unfolding read_from found_in
  looks_space e =
      let p = goes_at r q at m _ e in
      record {
        inside = omega (arith, p.within, length-drop at q, l.inside);
        few = omega (arith, l.few);
        late = l.late;
        within = l.within;
        found = l.found ∙ rw (steps_at r q at m _ e);
        count = λ h. l.count h ∙ rw (steps_at r q at m _ e);
      }

  pub looks_comment : {n : ℕ} → munched r m (drop at q) ≡ Comment n → Looks r q wanted (at + n) i m f
  unfolding read_from found_in
  looks_comment e =
      let p = goes_at r q at m _ e in
      record {
        inside = omega (arith, p.some, p.within, length-drop at q, l.inside);
        few = omega (arith, p.some, l.few);
        late = l.late;
        within = l.within;
        found = l.found ∙ rw (steps_at r q at m _ e);
        count = λ h. l.count h ∙ rw (steps_at r q at m _ e);
      }

  pub looks_refused_holds : {number o : ℕ} → munched r m (drop at q) ≡ Refused number o → Err (fault number (at + o)) ≡ searched r wanted q
  unfolding read_from search_by
  looks_refused_holds e = sym (l.count (lexeme_at r q wanted) ∙ rw (steps_at r q at m _ e))

  pub looks_finished : munched r m (drop at q) ≡ Finished → ended (i + 1) f ≡ searched r wanted q
  unfolding read_from search_by found_in
  looks_finished e =
      let h : lexeme_at r q wanted ≡ f = l.found ∙ rw (steps_at r q at m _ e) (or_nowhere f) in
      sym (l.count (lexeme_at r q wanted) ∙ rw (steps_at r q at m _ e, h))
