use Prim.Native.Nat.{ℕ}
use mathlib.Core.Path.{◌≡◌}
use mathlib.Core.List.{List, ◌++◌}
use lib.ListN.{take, drop}
use Rattle.token.proofs.copy.Given as goal

-- a list with the first i bytes of a text at its front
abbrev pub front : List ℕ → List ℕ → ℕ → List ℕ
front xs d i = take i xs ++ drop i d

abbrev pub invariant-loop-i : goal.invariant-loop-i
invariant-loop-i l = l.out ≡ front l.text l.initial.out l.i
