-- A turn has its step's share of what is still to come (`Turns`), and so has what a lexeme opens (`opened`). A refusal, or the end, says what all has come to.
use Prim.Native.Nat.{ℕ, ◌+◌, ◌≤◌}
use native.Mathlib.Omega.{arith}
use mathlib.Core.List.{List}
use mathlib.Core.Path.{◌≡◌, sym, ap, ◌∙◌, subst}
use lib.ListN.{length, drop}
use Rattle.proving.proofs.Lists.{rest_of}
use Rattle.utf8.specs.declared.Reading.{Reading}
use Rattle.munch.specs.declared.Inside.TheVariants.{Nothing}
use Rattle.munch.specs.declared.Mode.{Mode}
use Rattle.munch.specs.declared.Step.{Step}
use Rattle.munch.specs.Munch.{mode, munched}
use Rattle.munch.specs.laws.Modes.{LeadsTo}
use Rattle.munch.proofs.Modes.{step_leads}
use Rattle.std.proofs.Common.{rules}
use Rattle.std.proofs.lemmas.Result.{err_from_is_err_and}
use Rattle.std.specs.Prelude.{min, Err, Result}
use Rattle.quoted.specs.declared.Fault.{Fault}
use Rattle.lex.specs.declared.query.Run.{Run}
use Rattle.lex.specs.Outcome.{outcome_of}
use Rattle.lex.specs.steps.Pass.{State, state, state_behind, Alike, Leads, Reached}
use Rattle.lex.proofs.Lists.{leads_on, leads_alike, leads_refused, leads_end}
use Rattle.lex.proofs.Turns.{lexeme_depth, lexeme_opens, lexeme_further, space_further, comment_further, refused_within, turn_lexeme, turn_space, turn_comment, turn_refused, turn_finished, in_mode, Stands, stands_start}
use Rattle.lex.proofs.query.Query.pass.Goals as goal
use Rattle.lex.proofs.query.Query.pass.Goals.{After-opened, After-outside, After-slice_known-in-Lexeme-4-1, Start}

-- once a step is known: where the loop stood
abbrev Place : Type 0
Place = After-outside

abbrev start : Place → Start
start c = (goal.at.After-outside c).Start

abbrev bytes : Place → List ℕ
bytes c = (start c).args.self.now.text.now

abbrev reading : Place → Reading
reading c = (start c).args.self.now.reading

abbrev at : Place → ℕ
at c = c.loop-kind.at

abbrev depth : Place → ℕ
depth c = c.loop-kind.depth

abbrev here : Place → Mode
here c = mode (depth c) Nothing

module _ (c : Place) {s : Step} (e : c.outside.result ≡ s) where
  told : munched (reading c) (here c) (drop (at c) (bytes c)) ≡ s
  told = rw rest_of at (sym c.outside.ensures ∙ e)

  leads_to : LeadsTo (depth c) Nothing s
  leads_to = rw told at (step_leads (reading c) (depth c) Nothing (drop (at c) (bytes c)))

module _ (c : Place) where
  abbrev begun : State
  begun = let a = (start c).args in state a.kinds.now a.starts.now a.lengths.now a.depths.now 0 (outcome_of (reading c) (bytes c))

  stand : let l = c.loop-kind in Stands (reading c) begun (bytes c) l.kinds l.starts l.lengths l.depths l.i (at c) (here c)
  stand = c.loop-kind.invariant.2

  alike : let l = c.loop-kind in Alike l.kinds l.starts l.lengths l.depths
  alike = leads_alike stand.leads (start c).requires

pub loop-kind-init : goal.loop-kind-init
loop-kind-init c = (omega arith, omega arith, stands_start _ _ _ _ (omega arith))

pub put-requires : goal.put-requires
put-requires c =
    let p = (goal.at.put-requires c).After-outside in
    let g = lexeme_further (stand p) (told p c.in-Lexeme.is) in
    let q = (start p).args.self.now.limited in
    let v = p.loop-kind.invariant in
    record {
      alike = alike p;
      small = (omega arith, omega arith, omega arith);
    }

-- behind `put`: where the step was known, and how far the lexeme goes
abbrev place : After-slice_known-in-Lexeme-4-1 → Place
place c = (goal.at.After-slice_known-in-Lexeme-4-1 c).After-outside

further : (c : After-slice_known-in-Lexeme-4-1) → let p = place c in let n = c.in-Lexeme.length in (1 ≤ n) × (at p + n ≤ length (bytes p))
further c = let p = place c in lexeme_further (stand p) (told p c.in-Lexeme.is)

-- the lexeme is written, and what is behind it is still to come
behind : (c : After-slice_known-in-Lexeme-4-1) →
    let p = place c in
    let l = p.loop-kind in
    let w = c.put.new in
    Stands (reading p) (begun p) (bytes p) w.kinds w.starts w.lengths w.depths (l.i + 1) (at p + c.in-Lexeme.length) c.in-Lexeme.mode
behind c =
    let p = place c in
    let e = told p c.in-Lexeme.is in
    let v = p.loop-kind.invariant in
    let lesser : c.min.result ≡ min (depth p) c.in-Lexeme.mode.depth = search rules in
    turn_lexeme (stand p) e (lesser ∙ lexeme_depth (stand p) e (omega (arith, (start p).requires, (stand p).inside))) (c.put.ensures.kinds_after, (c.put.ensures.starts_after, (c.put.ensures.lengths_after, c.put.ensures.depths_after)))

pub overflow_add-at : goal.overflow_add-at
overflow_add-at c = let d = (goal.at.overflow_add-at c).After-slice_known-in-Lexeme-4-1 in omega (arith, further d, (start (place d)).args.self.now.limited)

pub overflow_add-i : goal.overflow_add-i
overflow_add-i c = let p = place (goal.at.overflow_add-i c).After-slice_known-in-Lexeme-4-1 in omega (arith, p.loop-kind.invariant.0, (stand p).inside, (start p).args.self.now.limited)

pub opened-requires : goal.opened-requires
opened-requires c =
    let d = (goal.at.opened-requires c).After-slice_known-in-Lexeme-4-1 in
    let p = place d in
    let g = further d in
    let v = p.loop-kind.invariant in
    let h = (start p).requires in
    record {
      alike = leads_alike (behind d).leads h;
      opens = leads_to p d.in-Lexeme.is;
      placed = (g.1, omega arith, omega (arith, lexeme_opens (stand p) (told p d.in-Lexeme.is)));
    }

-- behind `opened`: what the lexeme and what it has opened have led to
module _ (c : After-opened) where
  abbrev put : After-slice_known-in-Lexeme-4-1
  put = (goal.at.After-opened c).After-slice_known-in-Lexeme-4-1

  abbrev stood : Place
  stood = place put

  abbrev read : Reading
  read = reading stood

  abbrev query : List ℕ
  query = bytes stood

  abbrev Passed : Result Run Fault → Type 0
  Passed r =
      let a = (start stood).args in
      let l = c.opened.new in
      Reached query (at stood + c.in-Lexeme.length) r
      × Leads (state a.kinds.now a.starts.now a.lengths.now a.depths.now 0 (outcome_of read query)) (state_behind read query l.kinds l.starts l.lengths l.depths c.in-Lexeme.mode.depth r)

  passed : {r : Result Run Fault} → c.opened.result ≡ r → Passed r
  passed e = subst Passed e (c.opened.ensures.reached, leads_on (behind put).leads c.opened.ensures.leads)

pub returns-in_err-run-in-Lexeme : goal.returns-in_err-run-in-Lexeme
returns-in_err-run-in-Lexeme c =
    let o = (goal.at.returns-in_err-run-in-Lexeme c).After-opened in
    let e = c.in_err-run-in-Lexeme.was in
    let w = leads_refused (read o) (query o) (passed o e).1 in
    let r = err_from_is_err_and c.from_residual.result c.from_residual.ensures.1 in
    record { value = r.1 ∙ ap Err r.2 ∙ w.0; kinds_after = w.1.0; starts_after = w.1.1.0; lengths_after = w.1.1.1.0; depths_after = w.1.1.1.1 }

pub loop-kind-smaller-in-Lexeme : goal.loop-kind-smaller-in-Lexeme
loop-kind-smaller-in-Lexeme c =
    let o = (goal.at.loop-kind-smaller-in-Lexeme c).After-opened in
    let g = further (put o) in
    let b = (passed o c.in_ok-run-in-Lexeme.was).0 in
    omega arith

pub loop-kind-preserved-in-Lexeme : goal.loop-kind-preserved-in-Lexeme
loop-kind-preserved-in-Lexeme c =
    let o = (goal.at.loop-kind-preserved-in-Lexeme c).After-opened in
    let w = passed o c.in_ok-run-in-Lexeme.was in
    let p = stood o in
    let v = p.loop-kind.invariant in
    let g = further (put o) in
    (w.0.2, omega (arith, lexeme_opens (stand p) (told p c.in-Lexeme.is), w.0.0), record { inside = w.0.1; leads = w.1 })

pub overflow_add-at-in-Space : goal.overflow_add-at-in-Space
overflow_add-at-in-Space c = let p = (goal.at.overflow_add-at-in-Space c).After-outside in let g = space_further (stand p) (told p c.in-Space.is) in omega (arith, (start p).args.self.now.limited)

pub loop-kind-smaller-in-Space : goal.loop-kind-smaller-in-Space
loop-kind-smaller-in-Space c = let p = (goal.at.loop-kind-smaller-in-Space c).After-outside in let g = space_further (stand p) (told p c.in-Space.is) in omega arith

pub loop-kind-preserved-in-Space : goal.loop-kind-preserved-in-Space
loop-kind-preserved-in-Space c =
    let p = (goal.at.loop-kind-preserved-in-Space c).After-outside in
    let e = c.in-Space.is in
    let v = p.loop-kind.invariant in
    (omega arith, omega arith, in_mode (leads_to p e) (turn_space (stand p) (told p e)))

pub overflow_add-at-in-Comment : goal.overflow_add-at-in-Comment
overflow_add-at-in-Comment c = let p = (goal.at.overflow_add-at-in-Comment c).After-outside in let g = comment_further (stand p) (told p c.in-Comment.is) in omega (arith, (start p).args.self.now.limited)

pub loop-kind-smaller : goal.loop-kind-smaller
loop-kind-smaller c = let p = (goal.at.loop-kind-smaller c).After-outside in let g = comment_further (stand p) (told p c.in-Comment.is) in omega arith

pub loop-kind-preserved : goal.loop-kind-preserved
loop-kind-preserved c =
    let p = (goal.at.loop-kind-preserved c).After-outside in
    let e = told p c.in-Comment.is in
    let v = p.loop-kind.invariant in
    let g = comment_further (stand p) e in
    (omega arith, omega arith, turn_comment (stand p) e)

pub overflow_add-at-in-Refused : goal.overflow_add-at-in-Refused
overflow_add-at-in-Refused c = let p = (goal.at.overflow_add-at-in-Refused c).After-outside in omega (arith, refused_within (stand p) (told p c.in-Refused.is), (start p).args.self.now.limited)

pub returns-in-Refused : goal.returns-in-Refused
returns-in-Refused c =
    let p = (goal.at.returns-in-Refused c).After-outside in
    let w = leads_refused (reading p) (bytes p) (turn_refused (stand p) (told p c.in-Refused.is)) in
    rw c.refused_by.ensures record { value = w.0; kinds_after = w.1.0; starts_after = w.1.1.0; lengths_after = w.1.1.1.0; depths_after = w.1.1.1.1 }

pub put-requires-in-Finished : goal.put-requires-in-Finished
put-requires-in-Finished c =
    let p = (goal.at.put-requires-in-Finished c).After-outside in
    let v = p.loop-kind.invariant in
    let q = (start p).args.self.now.limited in
    record {
      alike = alike p;
      small = (omega (arith, (stand p).inside), omega arith, omega arith);
    }

pub overflow_add-count : goal.overflow_add-count
overflow_add-count c = let v = c.loop-kind.invariant in omega (arith, c.args.self.now.limited)

pub returns-in-Finished : goal.returns-in-Finished
returns-in-Finished c =
    let p = (goal.at.returns-in-Finished c).After-outside in
    let w = leads_end (reading p) (bytes p) (turn_finished (stand p) (told p c.in-Finished.is)) (c.put-in-Finished.ensures.kinds_after, (c.put-in-Finished.ensures.starts_after, (c.put-in-Finished.ensures.lengths_after, c.put-in-Finished.ensures.depths_after))) in
    record { value = w.0; kinds_after = w.1.0; starts_after = w.1.1.0; lengths_after = w.1.1.1.0; depths_after = w.1.1.1.1 }
