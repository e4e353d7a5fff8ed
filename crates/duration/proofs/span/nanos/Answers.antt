-- `duration::span::nanos` meets its contract.
use mathlib.Core.Path.{◌≡◌, ◌∙◌, ap, sym, subst}
use Prim.Native.Nat.{ℕ, ◌*◌, ◌+◌, ◌^◌, ◌≤◌, ◌<◌}
use native.Mathlib.Nat.{lt_of_lt_of_le}
use native.Mathlib.Omega.{arith}
use lib.Pow.{pow_pos, pow_mono}
use lib.Ieee.Nearest.{closest}
use Rattle.duration.proofs.span.Round.{closest_le, none_low, some_low, high_of}
use Rattle.duration.proofs.span.nanos.Goals as goal
use Rattle.duration.proofs.span.nanos.Goals.{Start}

record Divisor (r : ℕ) : Type 0 where
  some : 0 < r
  few : r ≤ 2 ^ 63

divisor : (r k : ℕ) → k ≤ 63 → r ≡ 2 ^ k → Divisor r
divisor r k h e = record { some = subst (λ (n : ℕ). 0 < n) (sym e) (pow_pos k); few = subst (λ (n : ℕ). n ≤ 2 ^ 63) (sym e) (pow_mono h) }

pub returns-then-f-eq0 : goal.returns-then-f-eq0
returns-then-f-eq0 c = let a = c.args in omega (arith, closest_le (a.f * 1000000000) (2 ^ a.k) 0 (pow_pos a.k) (omega arith))

pub overflow_mul-f : goal.overflow_mul-f
overflow_mul-f c = let s = (goal.at.overflow_mul-f c).Start in let h : s.args.f < 2 ^ 32 = lt_of_lt_of_le s.requires.proper (pow_mono c.if-k-le32.true) in omega arith

pub closest_div-requires : goal.closest_div-requires
closest_div-requires c = let d = divisor c.pow2.result _ (omega arith) c.pow2.ensures in record { some = d.some; few = d.few }

pub returns-then-k-le32 : goal.returns-then-k-le32
returns-then-k-le32 c = c.closest_div.ensures ∙ ap (closest (c.args.f * 1000000000)) c.pow2.ensures

pub closest_div-requires-then-p-eq0 : goal.closest_div-requires-then-p-eq0
closest_div-requires-then-p-eq0 c = let d = divisor c.pow2-b.result _ (omega arith) c.pow2-b.ensures in record { some = d.some; few = d.few }

pub closest_div-requires-else-p-eq0 : goal.closest_div-requires-else-p-eq0
closest_div-requires-else-p-eq0 c = let d = divisor c.pow2-b.result _ (omega arith) c.pow2-b.ensures in record { some = d.some; few = d.few }

pub returns-then-p-eq0 : goal.returns-then-p-eq0
returns-then-p-eq0 c =
    let start = (goal.at.returns-then-p-eq0 c).Start in
    c.closest_div-then-p-eq0.ensures ∙ ap (closest (high_of start.args.f * 2)) c.pow2-b.ensures
    ∙ none_low start.args.f start.args.k (omega arith) c.if-p-eq0.true

pub returns-else-p-eq0 : goal.returns-else-p-eq0
returns-else-p-eq0 c =
    let start = (goal.at.returns-else-p-eq0 c).Start in
    c.closest_div-else-p-eq0.ensures ∙ ap (closest (high_of start.args.f * 2 + 1)) c.pow2-b.ensures
    ∙ some_low start.args.f start.args.k (omega arith) c.if-p-eq0.false
