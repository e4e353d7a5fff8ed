-- Parts of lists: within a list it does not matter which default a read takes, and what is left from a place on is so long.
use Prim.Native.Nat.{ℕ, zero, suc, ◌-◌, ◌<◌}
use native.Mathlib.Nat.{le_of_suc-le-suc, not-suc-le-zero}
use native.Mathlib.Omega.{arith}
use mathlib.Core.List.{List, [], ◌∷◌}
use mathlib.Core.Path.{◌≡◌, refl}
use lib.ListN.{length, get_or, take, drop, length-drop}
use lib.Seq.{take_all}

pub get_d_any : (xs : List ℕ) (i a b : ℕ) → i < length xs → get_or xs i a ≡ get_or xs i b
get_d_any [] i a b h = absurd (not-suc-le-zero h)
get_d_any (x ∷ xs) zero a b h = refl
get_d_any (x ∷ xs) (suc i) a b h = get_d_any xs i a b (le_of_suc-le-suc h)

-- the part of a slice from an offset to its end
pub rest_of : (q : List ℕ) (at : ℕ) → take (length q - at) (drop at q) ≡ drop at q
rest_of q at = take_all (length q - at) (drop at q) (omega (arith, length-drop at q))
