use Prim.Native.Nat.{ℕ, ◌+◌, ◌-◌}
use mathlib.Core.Bool.{true, false}
use mathlib.Core.List.{List}
use mathlib.Core.Path.{◌≡◌}
use lib.ListN.{length, drop}
use Rattle.scan.specs.declared.byte.Class.{Class}
use Rattle.scan.specs.Byte.{peek_at, is_in}
use Rattle.scan.specs.Separated.{separated_length}
use Rattle.scan.proofs.separated.separated_end.Given as goal

-- where the run ends that goes on at n, where separators may stand
abbrev pub rest : Class → List ℕ → ℕ → ℕ
rest k s n = n + separated_length (is_in k) true true (drop n s)

abbrev pub invariant-loop-k : goal.invariant-loop-k
invariant-loop-k l = (rest l.k l.s l.initial.n ≡ rest l.k l.s l.n) × (is_in l.k (peek_at l.s l.n) ≡ false)

abbrev pub decreases-loop-k : goal.decreases-loop-k
decreases-loop-k l = length l.s - l.n
