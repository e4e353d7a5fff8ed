-- A mode tells what is open where the reading reaches it: by the steps that it is reached in. A lexeme does to the mode what its kind says (`step_does`), and is
-- the one kind more before the next place; white space and comments do nothing but that brackets are no longer just opened (`step_leads`). A lexeme has
-- one byte at least and opens one parenthesis at most, so that the count of them is within that of the bytes. In brackets no step but the one that opens
-- them ends in `[`: not the colon, nor white space, nor a number or a duration (`brackets_hold`, `none_apart`).
use Prim.Native.Nat.{ℕ, pred, ◌+◌, ◌≤◌, ◌<◌}
use Prim.Native.Char.{code}
use native.Mathlib.Omega.{arith}
use mathlib.Core.Bool.{Bool, true, false, true≢false}
use mathlib.Core.List.{List, [], ◌∷◌, append-nil}
use mathlib.Core.Logic.{◌↔◌, inl, inr, ⊎_elim}
use mathlib.Core.Path.{◌≡◌, refl, sym, ap, ◌∙◌}
use lib.Dec.{eqb}
use lib.ListN.{length, drop}
use lib.Seq.{get_or-drop}
use Rattle.proving.proofs.Choice.{either}
use Rattle.scan.specs.Byte.{end, peek_at, is_quote, is_space}
use Rattle.scan.specs.Text.{has}
use Rattle.utf8.specs.declared.Reading.{Reading}
use Rattle.utf8.specs.Answers.{text_limit}
use Rattle.token.specs.Kinds.{left_paren}
use Rattle.numeral.specs.laws.Texts.{is_apart}
use Rattle.numeral.proofs.Plain.{none_apart}
use Rattle.munch.specs.declared.Inside.{Inside}
use Rattle.munch.specs.declared.Inside.TheVariants.{Nothing, Braces, Brackets}
use Rattle.munch.specs.declared.Mode.{Mode}
use Rattle.munch.specs.declared.Step.{Step}
use Rattle.munch.specs.declared.Step.TheVariants.{Lexeme, Space}
use Rattle.munch.specs.Munch.{mode, outside, most_depth, munched}
use Rattle.munch.specs.laws.Modes.{past, Commented, LeadsTo}
use Rattle.munch.specs.laws.Rows.{InBrackets}
use Rattle.munch.specs.laws.Marks.{marks, Does, opens_paren, closes_paren, opens_brace, closes_brace, opens_bracket, closes_bracket, first_colon, other, Held}
use Rattle.munch.proofs.Marks.{step_does, space_white}
use Rattle.munch.proofs.Held.{brackets_hold}
use Rattle.munch.proofs.Modes.{step_leads}
use Rattle.lex.specs.Outcome.{Entry, entry}
use Rattle.lex.specs.Lex.{entries_of}
use Rattle.lex.specs.laws.Refusals.{Reaches, start, lexeme, space, comment}
use Rattle.lex.proofs.Before.{entries_divided}
use Rattle.depths.specs.Open.{count_of}
use Rattle.depths.specs.laws.Modes.{kinds_before, ByteBefore, ModeTells, BoundNotMet}
use Rattle.depths.proofs.Since.{none_yet}
use Rattle.lex.specs.steps.Pass.{in_braces, has_colon}
use Rattle.depths.proofs.Flags.{in_brackets, fresh_in, Says, turns, past_flags, says_past, says_more}
use Rattle.depths.proofs.Passed.{kinds_later, Passes, lexed, spaced, commented, kinds_more}

-- the flags as conditions
is_braces : (i : Inside) → in_braces i ≡ true → i ≡ Braces
is_braces Nothing e = absurd (true≢false (sym e))
is_braces Braces e = refl
is_braces (Brackets seen fresh) e = absurd (true≢false (sym e))

is_brackets : (m : Mode) → in_brackets m.inside ≡ true → InBrackets m
is_brackets m = go m.inside refl
  where
    go : (i : Inside) → m.inside ≡ i → in_brackets i ≡ true → InBrackets m
    go Nothing e t = absurd (true≢false (sym t))
    go Braces e t = absurd (true≢false (sym t))
    go (Brackets seen fresh) e t = record { seen = seen; fresh = fresh; there = e }

-- where a comment may stand are no brackets
comment_past : (i : Inside) → Commented i → (i ≡ past i) × (in_brackets i ≡ false)
comment_past Nothing h = (refl, refl)
comment_past Braces h = (refl, refl)
comment_past (Brackets _ _) h = elim h [ ]

one_paren : (k : ℕ) → count_of left_paren (k ∷ []) ≤ 1
one_paren k = either (λ n. n ≤ 1) (eqb k left_paren) (λ e. omega arith) (λ e. omega arith)

module _ (r : Reading) (q : List ℕ) where
  abbrev all : List Entry
  all = entries_of r q

  pub leads : (i : ℕ) (m : Mode) {s : Step} → munched r m (drop i q) ≡ s → LeadsTo m.depth m.inside s
  leads i m e = rw e at (step_leads r m.depth m.inside (drop i q))

  -- brackets are just opened where the byte before is `[`
  abbrev Opened : Bool → Bool → ℕ → Type 0
  Opened brackets fresh at = brackets ≡ true → fresh ≡ true ↔ ByteBefore (code "[") q at

  abbrev Fresh : ℕ → Mode → Type 0
  Fresh at m = Opened (in_brackets m.inside) (fresh_in m.inside) at

  no_brackets : {b f : Bool} {at : ℕ} → b ≡ false → Opened b f at
  no_brackets n e = absurd (true≢false (sym e ∙ n))

  not_fresh : {b f : Bool} {at : ℕ} → f ≡ false → (peek_at q (pred at) ≡ code "[" → ⊥) → Opened b f at
  not_fresh e n b = ((λ t. absurd (true≢false (sym t ∙ e))), λ h. absurd (n h.1))

  record Holds (at : ℕ) (m : Mode) : Type 0 where
    bound : m.depth ≤ at
    within : at ≤ length q
    says : Says (kinds_before at all) m
    fresh : Fresh at m

  begins : Holds 0 outside
  begins =
      record {
        bound = omega arith;
        within = omega arith;
        says = rw (kinds_later 0 all (entries_divided r q 0 outside start).later) (record { parens = refl; braces = none_yet _ _; brackets = none_yet _ _; seen = λ e. absurd (true≢false (sym e)) });
        fresh = no_brackets refl;
      }

  module _ (i : ℕ) (m : Mode) where
    -- the last byte of a step
    last_byte : {n : ℕ} → 1 ≤ n → peek_at q (pred (i + n)) ≡ peek_at (drop i q) (pred n)
    last_byte {n} s = let e : pred (i + n) ≡ i + pred n = omega arith in rw e (sym (get_or-drop i q (pred n) end))

    -- what is no mark ends in no `[`
    held_bytes : {k n : ℕ} → has k marks ≡ false → 1 ≤ n → Held r (drop i q) k n → peek_at (drop i q) (pred n) ≡ code "[" → ⊥
    unfolding has is_apart is_space is_quote
    held_bytes h s (inl v) c = ⊎_elim (λ e. true≢false (rw e at h)) (λ e. true≢false (rw e at h)) v
    held_bytes {n = n} h s (inr v) c = true≢false (rw c at (none_apart r (drop i q) n (⊎_elim (λ u. inl u.1) (λ u. inr u.1) v) (pred n) (omega arith)))

    fresh_lexeme : {k n : ℕ} {m' : Mode} → munched r m (drop i q) ≡ Lexeme k n m' → 1 ≤ n → Does (drop i q) m k n m' → Fresh (i + n) m'
    fresh_lexeme f s (opens_paren o b) = no_brackets refl
    fresh_lexeme f s (closes_paren d o b e) = no_brackets refl
    fresh_lexeme f s (opens_brace o b) = no_brackets refl
    fresh_lexeme f s (closes_brace o b) = no_brackets refl
    fresh_lexeme f s (opens_bracket o b) = λ e. ((λ t. (omega arith, last_byte s ∙ b)), λ h. refl)
    fresh_lexeme f s (closes_bracket o b) = no_brackets refl
    fresh_lexeme f s (first_colon o b) = not_fresh refl (λ c. omega (arith, last_byte s, b, c))
    fresh_lexeme f s (other k n h) = λ e.
        let t = past_flags m.inside in
        not_fresh t.2 (λ c. held_bytes h s (brackets_hold r m _ (drop i q) k n (is_brackets m (sym t.1 ∙ e)) f) (sym (last_byte s) ∙ c)) e

    fresh_space : {m' : Mode} → munched r m (drop i q) ≡ Space m' → Fresh (i + 1) m'
    unfolding is_space
    fresh_space {m'} f =
        not_fresh (rw (leads i m f) (past_flags m.inside).2)
        (λ c. true≢false (sym (space_white r m m' (drop i q) f) ∙ ap is_space (sym (last_byte (omega arith)) ∙ c)))

  module _ {i j : ℕ} {m m' : Mode} (g : Reaches r q i m) (h : Reaches r q j m') (w : Holds i m) (f : Fresh j m') where
    by_lexeme : {k n d : ℕ} → m.depth < most_depth → Does (drop i q) m k n m' → Passes r q i m j m' (entry k i n d ∷ []) → Holds j m'
    by_lexeme {k} l d p =
        let t = turns (drop i q) m l d in
        record {
          bound = omega (arith, t.parens, one_paren k, w.bound, p.on);
          within = p.within;
          says = rw (kinds_more r q g h p) (says_more (drop i q) m _ w.says l d);
          fresh = f;
        }

    -- with no lexeme
    quietly : Passes r q i m j m' [] → m' ≡ mode m.depth (past m.inside) → Holds j m'
    quietly p e =
        record {
          bound = omega (arith, ap (λ (x : Mode). x.depth) e, w.bound, p.on);
          within = p.within;
          says = rw (e, kinds_more r q g h p, append-nil) (says_past m _ w.says);
          fresh = f;
        }

  holds : length q ≤ text_limit → {at : ℕ} {m : Mode} → Reaches r q at m → Holds at m
  holds l start = begins
  holds l (lexeme i k n m m' g e) =
      let w = holds l g in
      let d = step_does r m m' (drop i q) k n e in
      let p = lexed r q i m e in
      by_lexeme g (lexeme i k n m m' g e) w (fresh_lexeme i m e (omega (arith, p.on)) d) (omega (arith, w.bound, w.within)) d p
  holds l (space i m m' g e) = quietly g (space i m m' g e) (holds l g) (fresh_space i m e) (spaced r q i m e) (leads i m e)
  holds l (comment i n m g e) =
      let c = comment_past m.inside (leads i m e) in
      quietly g (comment i n m g e) (holds l g) (no_brackets c.1) (commented r q i m e) (ap (mode m.depth) c.0)

pub mode_tells : ModeTells
mode_tells r q at m l h =
    let w = holds r q l h in
    let s = w.says in
    record {
      parens = s.parens;
      braces = ((λ e. s.braces.0 (ap in_braces e)), λ o. is_braces m.inside (s.braces.1 o));
      brackets = ((λ b. s.brackets.0 (ap in_brackets b.there)), λ o. is_brackets m (s.brackets.1 o));
      seen = λ seen fresh e. let t = s.seen (ap in_brackets e) in ((λ b. t.0 (ap has_colon e ∙ b)), λ o. sym (ap has_colon e) ∙ t.1 o);
      directly = λ seen fresh e. let t = w.fresh (ap in_brackets e) in ((λ b. t.0 (ap fresh_in e ∙ b)), λ o. sym (ap fresh_in e) ∙ t.1 o);
    }

pub bound_not_met : BoundNotMet
bound_not_met r q at m l h = let w = holds r q l h in (w.bound, omega (arith, w.bound, w.within))

pub reached_within : (r : Reading) (q : List ℕ) (at : ℕ) (m : Mode) → length q ≤ text_limit → Reaches r q at m → at ≤ length q
reached_within r q at m l h = (holds r q l h).within
