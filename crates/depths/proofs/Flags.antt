-- What a mode says of the kinds before it (`Says`), and that a lexeme of any kind keeps to it, by what it does to what is open (`Does`): the mode as flags,
-- which turn as the kinds say.
use Prim.Native.Nat.{ℕ, ◌+◌, ◌<◌}
use native.Mathlib.Omega.{arith}
use mathlib.Core.Bool.{Bool, true, false, true≢false}
use mathlib.Core.List.{List, [], ◌∷◌, ◌++◌}
use mathlib.Core.Path.{◌≡◌, refl, sym, ap, ◌∙◌}
use lib.Dec.{eqb}
use borrow.Author.Tests.{lt-ltb, ne_eqb}
use Rattle.scan.specs.Text.{has}
use Rattle.token.specs.Kinds.{left_paren, right_paren, left_brace, right_brace, left_bracket, right_bracket, colon}
use Rattle.munch.specs.declared.Inside.{Inside}
use Rattle.munch.specs.declared.Inside.TheVariants.{Nothing, Braces, Brackets}
use Rattle.munch.specs.declared.Mode.{Mode}
use Rattle.munch.specs.Munch.{mode, most_depth, deeper}
use Rattle.munch.specs.laws.Modes.{past}
use Rattle.munch.specs.laws.Marks.{marks, Does, opens_paren, closes_paren, opens_brace, closes_brace, opens_bracket, closes_bracket, first_colon, other}
use Rattle.lex.specs.steps.Pass.{in_braces, has_colon}
use Rattle.depths.specs.Open.{count_of, Open}
use Rattle.depths.proofs.Levels.{count_append}
use Rattle.depths.proofs.Since.{Told, turned, begun, ended, kept, told_more}

abbrev pub in_brackets : Inside → Bool
in_brackets Nothing = false
in_brackets Braces = false
in_brackets (Brackets seen fresh) = true

abbrev pub fresh_in : Inside → Bool
fresh_in Nothing = false
fresh_in Braces = false
fresh_in (Brackets seen fresh) = fresh

-- of brackets' colon nothing is said outside them
pub record Says (ks : List ℕ) (m : Mode) : Type 0 where
  pub parens : Open ks m.depth
  pub braces : Told (in_braces m.inside) left_brace right_brace ks
  pub brackets : Told (in_brackets m.inside) left_bracket right_bracket ks
  pub seen : in_brackets m.inside ≡ true → Told (has_colon m.inside) colon left_bracket ks

-- the parentheses and the flags behind a lexeme
pub record Turns (k : ℕ) (m m' : Mode) : Type 0 where
  pub parens : m'.depth + count_of right_paren (k ∷ []) ≡ m.depth + count_of left_paren (k ∷ [])
  pub braces : in_braces m'.inside ≡ turned left_brace right_brace k (in_braces m.inside)
  pub brackets : in_brackets m'.inside ≡ turned left_bracket right_bracket k (in_brackets m.inside)

-- one that is no mark is none of the marks
unlike : (k v : ℕ) → has k marks ≡ false → has v marks ≡ true → eqb k v ≡ false
unlike k v n t = ne_eqb k v (λ e. true≢false (sym t ∙ ap (λ x. has x marks) (sym e) ∙ n))

-- behind white space, and a lexeme that is no mark
pub past_flags : (i : Inside) → (in_braces (past i) ≡ in_braces i) × (in_brackets (past i) ≡ in_brackets i) × (fresh_in (past i) ≡ false)
past_flags Nothing = (refl, refl, refl)
past_flags Braces = (refl, refl, refl)
past_flags (Brackets seen fresh) = (refl, refl, refl)

pub says_past : (m : Mode) (ks : List ℕ) → Says ks m → Says ks (mode m.depth (past m.inside))
says_past m ks = go m.inside
  where
    go : (i : Inside) → Says ks (mode m.depth i) → Says ks (mode m.depth (past i))
    go Nothing s = s
    go Braces s = s
    go (Brackets seen fresh) s = record { parens = s.parens; braces = s.braces; brackets = s.brackets; seen = s.seen }

module _ (xs : List ℕ) (m : Mode) where
  pub turns : m.depth < most_depth → {k n : ℕ} {m' : Mode} → Does xs m k n m' → Turns k m m'
  unfolding deeper has
  turns l (opens_paren o b) = record { parens = rw (lt-ltb m.depth most_depth l) (omega arith); braces = rw o; brackets = rw o }
  turns l (closes_paren d o b e) = record { parens = omega arith; braces = rw o; brackets = rw o }
  turns l (opens_brace o b) = record { parens = refl; braces = refl; brackets = rw o }
  turns l (closes_brace i b) = record { parens = refl; braces = refl; brackets = rw i }
  turns l (opens_bracket o b) = record { parens = refl; braces = rw o; brackets = refl }
  turns l (closes_bracket i b) = record { parens = refl; braces = rw i.there; brackets = refl }
  turns l (first_colon e b) = record { parens = refl; braces = rw e; brackets = rw e }
  turns l (other k size n) =
      record {
        parens = rw (unlike k right_paren n refl, unlike k left_paren n refl);
        braces = rw (unlike k left_brace n refl, unlike k right_brace n refl) (past_flags m.inside).0;
        brackets = rw (unlike k left_bracket n refl, unlike k right_bracket n refl) (past_flags m.inside).1;
      }

  module _ (ks : List ℕ) (h : Says ks m) where
    seen_more : {k n : ℕ} {m' : Mode} → Does xs m k n m' → in_brackets m'.inside ≡ true → Told (has_colon m'.inside) colon left_bracket (ks ++ k ∷ [])
    unfolding has
    seen_more (opens_paren o b) e = absurd (true≢false (sym e))
    seen_more (closes_paren d o b f) e = absurd (true≢false (sym e))
    seen_more (opens_brace o b) e = absurd (true≢false (sym e))
    seen_more (closes_brace i b) e = absurd (true≢false (sym e))
    seen_more (opens_bracket o b) e = ended colon left_bracket ks _ refl refl
    seen_more (closes_bracket i b) e = absurd (true≢false (sym e))
    seen_more (first_colon f b) e = begun colon left_bracket ks _ refl
    seen_more (other k size n) e = kept colon left_bracket ks k (unlike k colon n refl) (unlike k left_bracket n refl) ((says_past m ks h).seen e)

    pub says_more : m.depth < most_depth → {k n : ℕ} {m' : Mode} → Does xs m k n m' → Says (ks ++ k ∷ []) m'
    says_more l {k} d =
        let t = turns l d in
        record {
          parens = omega (arith, h.parens, t.parens, count_append right_paren ks (k ∷ []), count_append left_paren ks (k ∷ []));
          braces = rw t.braces (told_more _ _ ks k h.braces);
          brackets = rw t.brackets (told_more _ _ ks k h.brackets);
          seen = seen_more d;
        }
