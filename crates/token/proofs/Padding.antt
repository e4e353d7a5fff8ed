-- A padded text that is not longer than the filler has just as many bytes as that, and begins with the text.
use Prim.Native.Nat.{ℕ, ◌≤◌}
use native.Mathlib.Omega.{arith}
use mathlib.Core.List.{List}
use mathlib.Core.Path.{◌≡◌}
use lib.ListN.{length, take, drop, length-append, length-drop}
use lib.Seq.{take-append_seam}
use Rattle.token.specs.steps.Padded.{padded}

module _ (filler xs : List ℕ) where
  pub padded_length : length xs ≤ length filler → length (padded filler xs) ≡ length filler
  unfolding padded
  padded_length h = simp (length-append, length-drop) (omega arith)

  pub padded_take : take (length xs) (padded filler xs) ≡ xs
  unfolding padded
  padded_take = take-append_seam xs (drop (length xs) filler)
