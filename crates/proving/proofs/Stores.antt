-- What is stored in two parts is stored one after the other: by induction on the first. What is stored at the front stands there.
use Prim.Native.Nat.{ℕ, suc, ◌+◌, ◌≤◌}
use native.Mathlib.Nat.{add-zero, add-suc, suc-add}
use native.Mathlib.Omega.{arith}
use mathlib.Core.List.{List, [], ◌∷◌, ◌++◌}
use mathlib.Core.Path.{◌≡◌, refl}
use lib.ListN.{length, set, take, drop}
use lib.Seq.{take_at, sets, sets-eq}

pub sets_join : (d xs ys : List ℕ) (at : ℕ) → sets d at (xs ++ ys) ≡ sets (sets d at xs) (at + length xs) ys
sets_join d [] ys at = rw (add-zero at)
sets_join d (x ∷ xs) ys at = rw (add-suc at (length xs), ← suc-add at (length xs)) (sets_join (set d at x) xs ys (suc at))

pub written_front : (d vs : List ℕ) → length vs ≤ length d → take (length vs) (sets d 0 vs) ≡ vs
written_front d vs h = rw (sets-eq vs d 0 (omega arith)) (take_at vs (drop (0 + length vs) d) (length vs) refl)
