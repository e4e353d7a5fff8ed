-- Reading keeps count: `Walk` says of what comes of a query, with so many parentheses open, that each `(` opens one more and each `)` closes one, that no other
-- lexeme does, that each depth is its count, and that none is open at the end. So it is from any offset on, step by step (`step_does`): no more are open than
-- bytes were read, so that the counter's bound is not met, and reading ends only outside all (`step_goes`).
use Prim.Native.Nat.{ℕ, zero, suc, ◌+◌, ◌<◌, ◌≤◌}
use native.Mathlib.Omega.{arith}
use mathlib.Core.Bool.{false, true≢false}
use mathlib.Core.List.{List}
use mathlib.Core.Path.{◌≡◌, refl}
use lib.Dec.{eqb}
use lib.ListN.{length, drop, length-drop}
use borrow.Author.Tests.{lt-ltb, ne_eqb, eqb-false}
use Rattle.scan.specs.Text.{has}
use Rattle.utf8.specs.declared.Reading.{Reading}
use Rattle.utf8.specs.Answers.{text_limit}
use Rattle.token.specs.Kinds.{left_paren, right_paren, left_brace, right_brace, left_bracket, right_bracket, colon}
use Rattle.munch.specs.declared.Mode.{Mode}
use Rattle.munch.specs.declared.Step.{Step}
use Rattle.munch.specs.declared.Step.TheVariants.{Lexeme, Space, Comment, Refused, Finished}
use Rattle.munch.specs.Munch.{mode, outside, most_depth, deeper, munched}
use Rattle.munch.specs.laws.Step.{Past, Goes}
use Rattle.munch.specs.laws.Modes.{past, LeadsTo}
use Rattle.munch.specs.laws.Marks.{Does, opens_paren, closes_paren, opens_brace, closes_brace, opens_bracket, closes_bracket, first_colon, other}
use Rattle.munch.proofs.Goes.{step_goes}
use Rattle.munch.proofs.Modes.{step_leads}
use Rattle.munch.proofs.Marks.{step_does}
use Rattle.lex.specs.Outcome.{entry, depth_by, Outcome, reads, ends, refuses, read_from, outcome_of}
use Rattle.lex.specs.steps.Pass.{outcome_at}
use Rattle.lex.proofs.Steps.{steps_at}
use Rattle.depths.proofs.Levels.{Neither}

pub data Walk : ℕ → Outcome → Type 0 where
  opens : {d at n : ℕ} {o : Outcome} → Walk (suc d) o → Walk d (reads (entry left_paren at n d) o)
  closes : {d at n : ℕ} {o : Outcome} → Walk d o → Walk (suc d) (reads (entry right_paren at n d) o)
  stays : {d k at n : ℕ} {o : Outcome} → Neither k → Walk d o → Walk d (reads (entry k at n d) o)
  ended : {at : ℕ} → Walk zero (ends at)
  refused : {d number at : ℕ} → Walk d (refuses number at)

one_deeper : (d : ℕ) → d < most_depth → deeper d ≡ suc d
unfolding deeper
one_deeper d l = rw (lt-ltb d most_depth l)

plain : (k : ℕ) → eqb k left_paren ≡ false → eqb k right_paren ≡ false → Neither k
plain k a b = (eqb-false k left_paren a, eqb-false k right_paren b)

-- a lexeme, by what it does; it opens one at most
lexeme : {xs : List ℕ} {m m' : Mode} {k at n : ℕ} {o : Outcome} → m.depth < most_depth → Does xs m k n m' → (m'.depth ≤ suc m.depth → Walk m'.depth o)
    → Walk m.depth (reads (entry k at n (depth_by k m')) o)
unfolding has
lexeme {m = m} l (opens_paren i b) w = let e = one_deeper m.depth l in rw e (opens (rw e at (w (omega (arith, e)))))
lexeme l (closes_paren d i b e) w = rw e (closes (w (omega arith)))
lexeme l (opens_brace i b) w = stays (plain left_brace refl refl) (w (omega arith))
lexeme l (closes_brace i b) w = stays (plain right_brace refl refl) (w (omega arith))
lexeme l (opens_bracket i b) w = stays (plain left_bracket refl refl) (w (omega arith))
lexeme l (closes_bracket i b) w = stays (plain right_bracket refl refl) (w (omega arith))
lexeme l (first_colon i b) w = stays (plain colon refl refl) (w (omega arith))
lexeme l (other k size h) w =
    let n : Neither k = (λ e. true≢false (rw e at h), λ e. true≢false (rw e at h)) in rw (ne_eqb k left_paren n.0) (stays n (w (omega arith)))

module _ (r : Reading) (q : List ℕ) (short : length q ≤ text_limit) where
  -- from an offset on, where no more are open than bytes were read
  abbrev Walks : ℕ → Mode → Type 0
  Walks i m = m.depth ≤ i → Walk m.depth (outcome_at r q i m)

  one_step : (i : ℕ) (m : Mode) → ((j : ℕ) (m' : Mode) → i < j → j ≤ length q → Walks j m') → Walks i m
  unfolding read_from
  one_step i m more l = go (munched r m (drop i q)) refl (step_goes r m (drop i q)) (step_leads r m.depth m.inside (drop i q))
    where
      further : {n : ℕ} → Past (drop i q) n → (i < i + n) × (i + n ≤ length q)
      further g = (omega (arith, g.some), omega (arith, g.some, g.within, length-drop i q))

      go : (s : Step) → munched r m (drop i q) ≡ s → Goes m (drop i q) s → LeadsTo m.depth m.inside s → Walk m.depth (outcome_at r q i m)
      go (Lexeme k n m') f g d =
          let h = further g in
          rw (steps_at r q i m _ f)
          (lexeme (omega (arith, h, l, short)) (step_does r m m' (drop i q) k n f) (λ a. more (i + n) m' h.0 h.1 (omega (arith, a, l, h.0))))
      go (Space m') f g d =
          let h = further g in rw (steps_at r q i m _ f, d) (more (i + 1) (mode m.depth (past m.inside)) h.0 h.1 (omega (arith, l)))
      go (Comment n) f g d = let h = further g in rw (steps_at r q i m _ f) (more (i + n) m h.0 h.1 (omega (arith, l, h.0)))
      go (Refused number o) f g d = rw (steps_at r q i m _ f) refused
      go Finished f g d = rw (steps_at r q i m _ f, g.1) ended

  all_steps : (k i : ℕ) (m : Mode) → length q ≤ i + k → Walks i m
  all_steps zero i m l = one_step i m (λ j m' a b. absurd (omega (arith, a, b, l)))
  all_steps (suc k) i m l = one_step i m (λ j m' a b. all_steps k j m' (omega (arith, a, l)))

  pub walked : Walk 0 (outcome_of r q)
  walked = all_steps (length q) 0 outside (omega arith) (omega arith)
