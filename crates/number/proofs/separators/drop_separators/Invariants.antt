use Rattle.std.proofs.Common.{ℕ, List, ◌≡◌, ◌+◌, ◌≤◌, length, drop}
use lib.Seq.{sets}
use Rattle.scan.specs.Separated.{without_separators}
use Rattle.number.proofs.separators.drop_separators.Given as goal

-- from `at` on the text is as it was, and with what is left of that written from n on, it is as with what is left of all of it at its front
pub record Held (t₀ t : List ℕ) (n at : ℕ) : Type 0 where
  pub within : n ≤ at
  pub long : length t ≡ length t₀
  pub behind : drop at t ≡ drop at t₀
  pub sized : length (without_separators t₀) ≡ n + length (without_separators (drop at t₀))
  pub holds : sets t₀ 0 (without_separators t₀) ≡ sets t n (without_separators (drop at t₀))

abbrev pub invariant-loop-at : goal.invariant-loop-at
invariant-loop-at l = Held l.initial.t l.t l.n l.at
