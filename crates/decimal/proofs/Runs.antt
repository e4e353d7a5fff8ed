-- Laws of what digits amount to. A value never falls as digits are read, so one that has reached the most that is told apart stays there,
-- and it is the same to stop counting then.
use Prim.Native.Nat.{ℕ, ◌+◌, ◌*◌, ◌<◌, ◌≤◌, min}
use native.Mathlib.Nat.{mul-le-mul_left}
use native.Mathlib.Numerals.{add-one}
use native.Mathlib.Omega.{arith}
use native.Mathlib.Decide.{dec_lt}
use mathlib.Core.List.{List, [], ◌∷◌, ◌++◌}
use mathlib.Core.Path.{◌≡◌, refl}
use lib.ListN.{length, get_or, drop, drop_of_length-le}
use lib.Seq.{drop-cons}
use Rattle.scan.specs.Byte.{digit_of}
use Rattle.scan.specs.Digits.{value_from}

module _ (radix : ℕ) (h : 0 < radix) where
  pub grows : (v : ℕ) (xs : List ℕ) → v ≤ value_from radix v xs
  unfolding value_from
  grows v [] = omega arith
  grows v (x ∷ xs) = omega (arith, mul-le-mul_left {m = 1} {n = radix} v (omega arith), grows (v * radix + digit_of x) xs)

  pub capped_on : (most v : ℕ) (xs : List ℕ) → min most (value_from radix (min most v) xs) ≡ min most (value_from radix v xs)
  capped_on most v xs = go (dec_lt most v)
    where
      go : Dec (most < v) → min most (value_from radix (min most v) xs) ≡ min most (value_from radix v xs)
      go (yes l) =
          let m : min most v ≡ most = omega arith in
          rw m (omega (arith, grows most xs, grows v xs))
      go (no l) = let m : min most v ≡ v = omega arith in rw m

pub value_join : (radix v : ℕ) (xs ys : List ℕ) → value_from radix v (xs ++ ys) ≡ value_from radix (value_from radix v xs) ys
unfolding value_from
value_join radix v [] ys = refl
value_join radix v (x ∷ xs) ys = value_join radix (v * radix + digit_of x) xs ys

-- the digits from a place on: the one that stands there, and those behind it
module _ (radix : ℕ) (xs : List ℕ) where
  pub value_turn : (i v : ℕ) → i < length xs → value_from radix v (drop i xs) ≡ value_from radix (v * radix + digit_of (get_or xs i 0)) (drop (i + 1) xs)
  unfolding value_from
  value_turn i v l = rw (drop-cons xs i 0 l, add-one)

  pub value_out : (i v : ℕ) → length xs ≤ i → value_from radix v (drop i xs) ≡ v
  unfolding value_from
  value_out i v l = rw (drop_of_length-le xs l)
