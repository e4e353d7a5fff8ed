-- A byte of the class takes the run one further (`run_goes_on`); any other stops it (`run_stops`), and so does the end (`run_within`).
use native.Mathlib.Omega.{arith}
use Prim.Native.Nat.{ℕ, ◌<◌}
use mathlib.Core.Bool.{Bool}
use mathlib.Core.List.{List}
use mathlib.Core.Path.{◌≡◌, sym, ◌∙◌}
use lib.ListN.{length, get_or}
use Rattle.proving.proofs.Lists.{get_d_any}
use Rattle.scan.specs.declared.byte.Class.{Class}
use Rattle.scan.specs.Byte.{end, peek_at, is_in}
use Rattle.scan.proofs.byte.Classes.{end_in_none}
use Rattle.scan.proofs.Runs.{run_goes_on, run_stops, run_within}
use Rattle.scan.proofs.run_end.Goals as goal

-- the byte at a place within, as it is seen there
seen : (k : Class) (s : List ℕ) (n : ℕ) {b : Bool} → n < length s → is_in k (get_or s n 0) ≡ b → is_in k (peek_at s n) ≡ b
seen k s n h e = rw (get_d_any s n end 0 h) e

pub loop-n-preserved : goal.loop-n-preserved
loop-n-preserved c =
    let a = c.args in
    c.loop-n.invariant ∙ run_goes_on (is_in a.k) (end_in_none a.k) a.s.now c.loop-n.n (seen a.k a.s.now c.loop-n.n (omega arith) (sym c.is_in.ensures ∙ c.if-not-is_in.false))

pub returns-then-not-is_in : goal.returns-then-not-is_in
returns-then-not-is_in c =
    let a = c.args in
    omega (arith, c.loop-n.invariant, run_stops (is_in a.k) a.s.now c.loop-n.n (seen a.k a.s.now c.loop-n.n (omega arith) (sym c.is_in.ensures ∙ c.if-not-is_in.true)))

pub returns : goal.returns
returns c =
    let a = c.args in
    omega (arith, c.loop-n.invariant, run_within (is_in a.k) a.s.now c.loop-n.n, run_within (is_in a.k) a.s.now a.from)
