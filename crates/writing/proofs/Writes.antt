-- A text that fits is a paste of all of it, so it stands behind what stood before its offset, and the place past it is within the list.
use Prim.Native.Nat.{ℕ, ◌+◌, ◌≤◌}
use native.Mathlib.Omega.{arith}
use mathlib.Core.Path.{◌≡◌, ap, ◌∙◌}
use mathlib.Core.List.{List, ◌++◌}
use lib.ListN.{length, take}
use lib.Seq.{paste, take-paste, take-length}
use borrow.Author.Tests.{le-leb, leb-true}
use Rattle.proving.proofs.Choice.{either}
use Rattle.writing.specs.Put.{has_room, put_at, past_at}
use Rattle.writing.specs.laws.Writing.{PastInside, PutStands}

module _ (d : List ℕ) (at : ℕ) (xs : List ℕ) where
  put_in : at + length xs ≤ length d → put_at d at xs ≡ paste d at xs (length xs)
  unfolding put_at
  put_in h = rw (le-leb (at + length xs) (length d) h, take-length)

  past_in : at + length xs ≤ length d → past_at d at xs ≡ at + length xs
  unfolding past_at
  past_in h = rw (le-leb (at + length xs) (length d) h)

pub put_stands : PutStands
put_stands d at xs h =
    let past = past_in d at xs h in (
      past,
      rw (past, put_in d at xs h) (take-paste d at xs (length xs) (omega arith) (omega arith) ∙ ap (λ (t : List ℕ). take at d ++ t) (take-length xs)),
    )

pub past_inside : PastInside
unfolding past_at
past_inside d at xs =
    either (λ r. (at ≤ r) × (at ≤ length d → r ≤ length d)) (has_room d at xs)
    (λ e. (omega arith, λ h. leb-true (at + length xs) (length d) e))
    (λ e. (omega arith, λ h. h))
