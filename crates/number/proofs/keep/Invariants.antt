use Rattle.std.proofs.Common.{ℕ, List, ◌≡◌, ◌+◌, ◌-◌, ◌≤◌, length, drop}
use lib.Seq.{sets}
use Rattle.utf8.specs.Text.{WellFormed}
use Rattle.number.specs.White.{plain_text}
use Rattle.number.proofs.keep.Given as goal

-- with what is kept of the text from `at` on written from n on, the buffer is as with what is kept of all of it written from its front
pub record Held (text out₀ out : List ℕ) (n at : ℕ) : Type 0 where
  pub within : at ≤ length text
  pub formed : WellFormed (drop at text)
  pub sized : length (plain_text text) ≡ n + length (plain_text (drop at text))
  pub holds : sets out₀ 0 (plain_text text) ≡ sets out n (plain_text (drop at text))

abbrev pub invariant-loop-at : goal.invariant-loop-at
invariant-loop-at l = Held l.text l.initial.out l.out l.n l.at

abbrev pub decreases-loop-at : goal.decreases-loop-at
decreases-loop-at l = length l.text - l.at
