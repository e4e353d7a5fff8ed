-- `scan::separated::separated_end` meets its contract. The run's first digits are a run (`ends_there`, `goes_from`). The loop's invariant: where separators may
-- stand, the run goes from the place where the loop began to where it goes from `n`, and no digit stands there. A separator with a digit behind it
-- takes it on (`past_separator`); anything else ends it (`no_more`).
use native.Mathlib.Numerals.{add-one}
use native.Mathlib.Omega.{arith}
use Prim.Native.Nat.{ℕ, suc, ◌+◌, ◌<◌}
use mathlib.Core.Bool.{true, false, ◌&&◌}
use mathlib.Core.List.{List}
use mathlib.Core.Path.{◌≡◌, refl, sym, ap, ap₂, ◌∙◌}
use borrow.Author.Tests.{eq-eqb, ne_eqb}
use lib.Dec.{eqb}
use lib.ListN.{length}
use Rattle.scan.specs.declared.byte.Class.{Class}
use Rattle.scan.specs.Byte.{peek_at, is_in}
use Rattle.scan.specs.Separated.{separator, separated_end}
use Rattle.scan.proofs.byte.Classes.{end_in_none}
use Rattle.scan.proofs.Runs.{inside, run_stopped}
use Rattle.scan.proofs.separated.Runs.{past_separator, no_more, ends_there, goes_from}
use Rattle.scan.proofs.separated.separated_end.Goals as goal
use Rattle.scan.proofs.separated.separated_end.Goals.{After-is_in, After-peek, In-loop-k}
use Rattle.scan.proofs.separated.separated_end.Invariants.{rest}

pub loop-k-init : goal.loop-k-init
loop-k-init c =
    let a = c.args in
    (refl, ap (λ m. is_in a.k (peek_at a.s.now m)) c.run_end-n.ensures ∙ run_stopped (is_in a.k) (end_in_none a.k) a.s.now a.from)

module _ (c : After-peek) where
  abbrev kind : Class
  kind = c.args.k

  abbrev bytes : List ℕ
  bytes = c.args.s.now

  abbrev place : ℕ
  place = c.loop-k.n

  -- where no separator with a digit behind it stands, the run ends
  done :
      let a = c.args in
      eqb (peek_at bytes place) separator && is_in kind (peek_at bytes (suc place)) ≡ false → place ≡ separated_end (is_in kind) a.separators bytes a.from
  done h =
      let a = c.args in
      let from = goes_from (is_in kind) a.separators bytes a.from _ c.run_end-n.ensures (sym c.is_open.ensures ∙ c.if-is_open.true) in
      omega (arith, from, c.loop-k.invariant.0, no_more (is_in kind) true true bytes place c.loop-k.invariant.1 h)

-- a separator stands here
module _ (c : In-loop-k) where
  stands : eqb (peek_at (bytes (goal.at.In-loop-k c).After-peek) (place (goal.at.In-loop-k c).After-peek)) separator ≡ true
  stands = eq-eqb _ _ (sym c.peek.ensures ∙ c.loop-k-test.true)

  in_range : place (goal.at.In-loop-k c).After-peek < length (bytes (goal.at.In-loop-k c).After-peek)
  in_range = inside (λ x. eqb x separator) refl (bytes (goal.at.In-loop-k c).After-peek) (place (goal.at.In-loop-k c).After-peek) stands

pub overflow_add-n : goal.overflow_add-n
overflow_add-n c = omega (arith, in_range c)

pub overflow_add-n-in-loop-k : goal.overflow_add-n-in-loop-k
overflow_add-n-in-loop-k c = omega (arith, in_range (goal.at.overflow_add-n-in-loop-k c).In-loop-k)

-- whether a digit stands behind it
tested : (c : After-is_in) → let b = (goal.at.After-is_in c).After-peek in c.is_in.result ≡ is_in (kind b) (peek_at (bytes b) (suc (place b)))
tested c =
    let b = (goal.at.After-is_in c).After-peek in
    c.is_in.ensures ∙ ap (is_in (kind b)) (c.peek-in-loop-k.ensures ∙ ap (peek_at (bytes b)) (add-one (place b)))

pub loop-k-smaller : goal.loop-k-smaller
loop-k-smaller c = omega (arith, in_range (goal.at.loop-k-smaller c).In-loop-k, c.run_end-n-in-loop-k.ensures)

pub loop-k-preserved : goal.loop-k-preserved
loop-k-preserved c =
    let b = (goal.at.loop-k-preserved c).After-peek in
    let k = kind b in
    let on = past_separator (is_in k) (end_in_none k) (bytes b) (place b) b.loop-k.invariant.1 (stands (goal.at.loop-k-preserved c).In-loop-k) (sym (tested (goal.at.loop-k-preserved c).After-is_in) ∙ c.if-is_in.true) in
    let e = c.run_end-n-in-loop-k.ensures in
    (b.loop-k.invariant.0 ∙ on ∙ ap (rest k (bytes b)) (sym e), ap (λ m. is_in k (peek_at (bytes b) m)) e ∙ run_stopped (is_in k) (end_in_none k) (bytes b) (place b + 1))

pub returns-else-is_in : goal.returns-else-is_in
returns-else-is_in c =
    let b = (goal.at.returns-else-is_in c).After-peek in
    done b (ap₂ (λ s d. s && d) (stands (goal.at.returns-else-is_in c).In-loop-k) (sym (tested (goal.at.returns-else-is_in c).After-is_in) ∙ c.if-is_in.false))

pub returns-after-loop-k : goal.returns-after-loop-k
returns-after-loop-k c =
    done (goal.at.returns-after-loop-k c).After-peek (ap (λ t. t && is_in (kind (goal.at.returns-after-loop-k c).After-peek) (peek_at (bytes (goal.at.returns-after-loop-k c).After-peek) (suc (place (goal.at.returns-after-loop-k c).After-peek)))) (ne_eqb _ _ (λ e. c.loop-k-test.false (c.peek.ensures ∙ e))))

pub returns-else-is_open : goal.returns-else-is_open
returns-else-is_open c =
    let a = c.args in
    ends_there (is_in a.k) (end_in_none a.k) a.separators a.s.now a.from _ c.run_end-n.ensures (sym c.is_open.ensures ∙ c.if-is_open.false)
