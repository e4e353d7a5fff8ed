-- A turn of a pass: the step at an offset has its share of what is still to come (`steps_at`), so that from behind it all ends as it would have from
-- before it; and it goes on by one byte at least, within the query (`goes_at`).
use Prim.Native.Nat.{ℕ, ◌+◌, ◌≤◌, ◌<◌, min}
use native.Mathlib.Omega.{arith}
use mathlib.Core.List.{List}
use mathlib.Core.Path.{◌≡◌, subst, ◌∙◌}
use lib.ListN.{length, drop, length-drop}
use Rattle.scan.proofs.Edges.{edge_within}
use Rattle.utf8.specs.declared.Reading.{Reading}
use Rattle.munch.specs.declared.Mode.{Mode}
use Rattle.munch.specs.declared.Step.{Step}
use Rattle.munch.specs.declared.Step.TheVariants.{Lexeme, Space, Comment, Refused, Finished}
use Rattle.munch.specs.Munch.{most_depth, munched}
use Rattle.munch.specs.laws.Step.{Past}
use Rattle.lex.specs.Outcome.{ends, refuses, entry, depth_by, step_length, step_mode, followed, steps_past, read_from}
use Rattle.lex.specs.steps.Tally.{tallied}
use Rattle.lex.specs.steps.Pass.{outcome_at, State, state, Leads}
use Rattle.lex.proofs.Depth.{step_depth, step_opens}
use Rattle.lex.proofs.Steps.{steps_at, goes_at}
use Rattle.lex.proofs.Lists.{Puts, leads_start, leads_on, leads_put}

-- where a loop stands: at an offset of a query in a mode, with so many lexemes written to its lists, and all ends as it would have from the start
pub record Stands (r : Reading) (a : State) (q ks ss ls ds : List ℕ) (i at : ℕ) (m : Mode) : Type 0 where
  pub inside : at ≤ length q
  pub leads : Leads a (state ks ss ls ds i (outcome_at r q at m))

pub stands_start : (r : Reading) (q : List ℕ) (at : ℕ) (m : Mode) {ks ss ls ds : List ℕ} {i : ℕ} → at ≤ length q → Stands r (state ks ss ls ds i (outcome_at r q at m)) q ks ss ls ds i at m
stands_start r q at m h = record { inside = h; leads = leads_start _ }

module _ {r : Reading} {a : State} {q ks ss ls ds : List ℕ} {i at : ℕ} {m : Mode} (here : Stands r a q ks ss ls ds i at m) where
  -- how far a step goes
  further : {n : ℕ} → Past (drop at q) n → (1 ≤ n) × (at + n ≤ length q)
  further g = (g.some, omega (arith, g.within, length-drop at q, here.inside))

  pub lexeme_further : {k n : ℕ} {m' : Mode} → munched r m (drop at q) ≡ Lexeme k n m' → (1 ≤ n) × (at + n ≤ length q)
  lexeme_further e = further (goes_at r q at m _ e)

  pub space_further : {m' : Mode} → munched r m (drop at q) ≡ Space m' → at + 1 ≤ length q
  space_further e = (further (goes_at r q at m _ e)).1

  pub comment_further : {n : ℕ} → munched r m (drop at q) ≡ Comment n → (1 ≤ n) × (at + n ≤ length q)
  comment_further e = further (goes_at r q at m _ e)

  pub refused_within : {number o : ℕ} → munched r m (drop at q) ≡ Refused number o → at + o ≤ length q
  refused_within e = omega (arith, edge_within _ _ (goes_at r q at m _ e), length-drop at q, here.inside)

  -- what it leaves, by what it is
  left : {s : Step} → munched r m (drop at q) ≡ s
      → Leads a (state ks ss ls ds i (read_from at (followed s (steps_past r 0 (step_mode m s) (drop (at + step_length s) q)))))
  left {s} e = rw (steps_at r q at m s e) at here.leads

  -- its depth is the lesser of what is open before it and behind it
  pub lexeme_depth : {k n : ℕ} {m' : Mode} → munched r m (drop at q) ≡ Lexeme k n m' → m.depth < most_depth → min m.depth m'.depth ≡ depth_by k m'
  lexeme_depth e l = step_depth r m (drop at q) e l

  -- and it opens one at most
  pub lexeme_opens : {k n : ℕ} {m' : Mode} → munched r m (drop at q) ≡ Lexeme k n m' → m'.depth ≤ m.depth + 1
  lexeme_opens e = step_opens r m (drop at q) e

  -- which are one but for a parenthesis
  pub same_depth : {k n : ℕ} {m' : Mode} → munched r m (drop at q) ≡ Lexeme k n m' → m.depth < most_depth → m'.depth ≡ m.depth → m.depth ≡ depth_by k m'
  same_depth {m' = m'} e l h = let z : m.depth ≡ min m.depth m'.depth = omega arith in z ∙ lexeme_depth e l

  pub turn_lexeme : {k n d : ℕ} {m' : Mode} {ks' ss' ls' ds' : List ℕ} → munched r m (drop at q) ≡ Lexeme k n m' → d ≡ depth_by k m'
      → Puts ks ss ls ds i (entry k at n d) ks' ss' ls' ds' → Stands r a q ks' ss' ls' ds' (i + 1) (at + n) m'
  unfolding read_from
  turn_lexeme e h p = record { inside = (lexeme_further e).1; leads = leads_on (left e) (leads_put (rw h at p)) }

  pub turn_space : {m' : Mode} → munched r m (drop at q) ≡ Space m' → Stands r a q ks ss ls ds i (at + 1) m'
  unfolding read_from
  turn_space e = record { inside = space_further e; leads = left e }

  pub turn_comment : {n : ℕ} → munched r m (drop at q) ≡ Comment n → Stands r a q ks ss ls ds i (at + n) m
  unfolding read_from
  turn_comment e = record { inside = (comment_further e).1; leads = left e }

  -- once refused, no lexeme is to come, whatever its number
  pub turn_refused : {number o : ℕ} → munched r m (drop at q) ≡ Refused number o → Leads a (state ks ss ls ds 0 (refuses number (at + o)))
  unfolding read_from tallied
  turn_refused e = let v = left e in record { tally = v.tally; kinds = record { same = v.kinds.same; goes = v.kinds.goes }; starts = record { same = v.starts.same; goes = v.starts.goes }; lengths = record { same = v.lengths.same; goes = v.lengths.goes }; depths = record { same = v.depths.same; goes = v.depths.goes } }

  pub turn_finished : munched r m (drop at q) ≡ Finished → Leads a (state ks ss ls ds i (ends at))
  unfolding read_from
  turn_finished e = left e

-- a mode that is said otherwise
pub in_mode : {r : Reading} {a : State} {q ks ss ls ds : List ℕ} {i at : ℕ} {m m' : Mode} → m ≡ m' → Stands r a q ks ss ls ds i at m → Stands r a q ks ss ls ds i at m'
in_mode {r} {a} {q} {ks} {ss} {ls} {ds} {i} {at} e s = subst (Stands r a q ks ss ls ds i at) e s

pub same_mode : (r : Reading) (q : List ℕ) (at : ℕ) {m m' : Mode} {ks ss ls ds : List ℕ} {i : ℕ} → m ≡ m' → Leads (state ks ss ls ds i (outcome_at r q at m)) (state ks ss ls ds i (outcome_at r q at m'))
same_mode r q at {m} {ks = ks} {ss} {ls} {ds} {i} e = subst (λ (n : Mode). Leads (state ks ss ls ds i (outcome_at r q at m)) (state ks ss ls ds i (outcome_at r q at n))) e (leads_start _)
