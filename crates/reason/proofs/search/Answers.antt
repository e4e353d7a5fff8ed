-- Each arm is a turn of the search (`Looks`); a refusal, or the end, says what all has come to.
use Prim.Native.Nat.{ℕ, ◌+◌}
use native.Mathlib.Omega.{arith}
use mathlib.Core.List.{List}
use mathlib.Core.Logic.{inl, inr}
use mathlib.Core.Path.{◌≡◌, sym, ap, ◌∙◌}
use lib.ListN.{drop, length-drop}
use Rattle.proving.proofs.Lists.{rest_of}
use Rattle.scan.proofs.Edges.{edge_within}
use Rattle.utf8.specs.declared.Reading.{Reading}
use Rattle.munch.specs.declared.Mode.{Mode}
use Rattle.munch.specs.declared.Step.{Step}
use Rattle.munch.specs.Munch.{munched}
use Rattle.munch.specs.laws.Step.{Goes}
use Rattle.lex.proofs.Steps.{goes_at}
use Rattle.reason.proofs.Looks.{Looks, looks_start, looks_lexeme, looks_space, looks_comment, looks_refused_holds, looks_finished}
use Rattle.reason.proofs.search.Goals as goal
use Rattle.reason.proofs.search.Goals.{then-i-wanted, else-i-wanted, After-step-s, Joined-i-wanted, Start}

-- once a step is known: where the loop stood
abbrev Place : Type 0
Place = After-step-s

abbrev start : Place → Start
start c = (goal.at.After-step-s c).Start

abbrev bytes : Place → List ℕ
bytes c = (start c).args.query.now

abbrev reading : Place → Reading
reading c = (start c).args.reading

abbrev at : Place → ℕ
at c = c.loop-length.at

abbrev here : Place → Mode
here c = c.loop-length.mode

module _ (c : Place) {s : Step} (e : c.step-s.result ≡ s) where
  told : munched (reading c) (here c) (drop (at c) (bytes c)) ≡ s
  told = sym (c.step-s.ensures ∙ ap (λ (t : List ℕ). munched (reading c) (here c) t) (rest_of (bytes c) (at c))) ∙ e

  goes : Goes (here c) (drop (at c) (bytes c)) s
  goes = goes_at (reading c) (bytes c) (at c) (here c) s told

-- behind a lexeme
module _ (c : Joined-i-wanted) where
  abbrev place : Place
  place = (goal.at.Joined-i-wanted c).After-step-s

  turned : Looks (reading place) (bytes place) (start place).args.wanted (at place + c.in-Lexeme.length) (place.loop-length.i + 1) c.in-Lexeme.next c.if-i-wanted.found
  turned =
      looks_lexeme place.loop-length.invariant (told place c.in-Lexeme.is) c.if-i-wanted.found
      (elim c.if-i-wanted.branch [ then-i-wanted w ↦ inl (w.if-i-wanted.true, w.found-is) | else-i-wanted w ↦ inr (w.if-i-wanted.false, w.found-is) ])

pub loop-length-init : goal.loop-length-init
loop-length-init c = looks_start _ _ _

pub slice_bounds-step-count : goal.slice_bounds-step-count
slice_bounds-step-count c = c.loop-length.invariant.inside

pub overflow_add-at : goal.overflow_add-at
overflow_add-at c = omega (arith, (turned c).inside, (start (place c)).requires)

pub overflow_add-i : goal.overflow_add-i
overflow_add-i c = omega (arith, (turned c).few, (turned c).inside, (start (place c)).requires)

pub loop-length-smaller-in-Lexeme : goal.loop-length-smaller-in-Lexeme
loop-length-smaller-in-Lexeme c = omega (arith, (turned c).inside, (goes (place c) c.in-Lexeme.is).some)

pub loop-length-preserved-in-Lexeme : goal.loop-length-preserved-in-Lexeme
loop-length-preserved-in-Lexeme c = turned c

pub overflow_add-at-in-Space : goal.overflow_add-at-in-Space
overflow_add-at-in-Space c = omega (arith, (looks_space c.loop-length.invariant (told (goal.at.overflow_add-at-in-Space c).After-step-s c.in-Space.is)).inside, (start (goal.at.overflow_add-at-in-Space c).After-step-s).requires)

pub loop-length-smaller-in-Space : goal.loop-length-smaller-in-Space
loop-length-smaller-in-Space c = omega (arith, (looks_space c.loop-length.invariant (told (goal.at.loop-length-smaller-in-Space c).After-step-s c.in-Space.is)).inside)

pub loop-length-preserved-in-Space : goal.loop-length-preserved-in-Space
loop-length-preserved-in-Space c = looks_space c.loop-length.invariant (told (goal.at.loop-length-preserved-in-Space c).After-step-s c.in-Space.is)

pub overflow_add-at-in-Comment : goal.overflow_add-at-in-Comment
overflow_add-at-in-Comment c = omega (arith, (looks_comment c.loop-length.invariant (told (goal.at.overflow_add-at-in-Comment c).After-step-s c.in-Comment.is)).inside, (start (goal.at.overflow_add-at-in-Comment c).After-step-s).requires)

pub loop-length-smaller : goal.loop-length-smaller
loop-length-smaller c = omega (arith, (looks_comment c.loop-length.invariant (told (goal.at.loop-length-smaller c).After-step-s c.in-Comment.is)).inside, (goes (goal.at.loop-length-smaller c).After-step-s c.in-Comment.is).some)

pub loop-length-preserved : goal.loop-length-preserved
loop-length-preserved c = looks_comment c.loop-length.invariant (told (goal.at.loop-length-preserved c).After-step-s c.in-Comment.is)

pub overflow_add-result : goal.overflow_add-result
overflow_add-result c = omega (arith, edge_within (drop (at (goal.at.overflow_add-result c).After-step-s) (bytes (goal.at.overflow_add-result c).After-step-s)) c.in-Refused.offset (goes (goal.at.overflow_add-result c).After-step-s c.in-Refused.is), length-drop (at (goal.at.overflow_add-result c).After-step-s) (bytes (goal.at.overflow_add-result c).After-step-s), c.loop-length.invariant.inside, (start (goal.at.overflow_add-result c).After-step-s).requires)

pub returns-in-Refused : goal.returns-in-Refused
returns-in-Refused c = record {
  value = looks_refused_holds c.loop-length.invariant (told (goal.at.returns-in-Refused c).After-step-s c.in-Refused.is);
  within = tt;
}

pub returns-in-Finished : goal.returns-in-Finished
returns-in-Finished c = record {
  value = looks_finished c.loop-length.invariant (told (goal.at.returns-in-Finished c).After-step-s c.in-Finished.is);
  within = c.loop-length.invariant.within;
}
