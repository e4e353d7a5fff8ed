-- Laws of trailing zeros: they are counted from the end, digit by digit, and of two runs the first counts where the second is all zeros.
use Prim.Native.Nat.{ℕ, zero, suc, ◌+◌, ◌-◌, ◌<◌, ◌≤◌}
use native.Mathlib.Omega.{arith}
use mathlib.Core.Bool.{Bool, true, false, cond, ◌&&◌, true≢false}
use mathlib.Core.List.{List, [], ◌∷◌, ◌++◌}
use mathlib.Core.Path.{◌≡◌, refl, ◌∙◌}
use lib.Dec.{eqb}
use lib.ListN.{length, get_or, take, drop, length-append, length-drop}
use lib.Seq.{take-suc, take-length, take-append-le, take-append-add, take-take, length-take-le}
use Rattle.proving.proofs.Choice.{either}
use Rattle.std.specs.List.{suffix_len}
use Rattle.std.proofs.lemmas.List.Sums.{suffix_len-take_yes, suffix_len-take_no}
use Rattle.scan.specs.Byte.{digit_of}
use Rattle.decimal.specs.Grammar.{between}
use Rattle.decimal.specs.steps.Scale.{is_zeros, trailing, trimmed}

zeros_join : (xs ys : List ℕ) → is_zeros (xs ++ ys) ≡ is_zeros xs && is_zeros ys
unfolding is_zeros
zeros_join [] ys = refl
zeros_join (x ∷ xs) ys = go (eqb (digit_of x) 0) (zeros_join xs ys)
  where
    go : (b : Bool) → is_zeros (xs ++ ys) ≡ is_zeros xs && is_zeros ys → b && is_zeros (xs ++ ys) ≡ (b && is_zeros xs) && is_zeros ys
    go true ih = ih
    go false ih = refl

pub all_zeros : (ys : List ℕ) → is_zeros ys ≡ true → trailing ys ≡ length ys
unfolding trailing
all_zeros [] e = refl
all_zeros (y ∷ ys) e = rw e

-- of two runs
pub trailing_join : (xs ys : List ℕ) → trailing (xs ++ ys) ≡ cond (is_zeros ys) (length ys + trailing xs) (trailing ys)
unfolding trailing
trailing_join [] ys = go (is_zeros ys) refl
  where
    go : (b : Bool) → is_zeros ys ≡ b → trailing ys ≡ cond b (length ys + 0) (trailing ys)
    go true e = omega (arith, all_zeros ys e)
    go false e = refl
trailing_join (x ∷ xs) ys = rw (zeros_join (x ∷ xs) ys) (go (is_zeros (x ∷ xs)) (is_zeros ys) (trailing_join xs ys))
  where
    go : (a b : Bool) → trailing (xs ++ ys) ≡ cond b (length ys + trailing xs) (trailing ys) → cond (a && b) (suc (length (xs ++ ys))) (trailing (xs ++ ys)) ≡ cond b (length ys + cond a (suc (length xs)) (trailing xs)) (trailing ys)
    go true true ih = omega (arith, length-append xs ys)
    go true false ih = ih
    go false true ih = ih
    go false false ih = ih

pub trailing_first : (xs ys : List ℕ) → is_zeros ys ≡ true → trailing (xs ++ ys) ≡ length ys + trailing xs
trailing_first xs ys e = trailing_join xs ys ∙ rw e

pub trailing_last : (xs ys : List ℕ) → is_zeros ys ≡ false → trailing (xs ++ ys) ≡ trailing ys
trailing_last xs ys e = trailing_join xs ys ∙ rw e

-- std counts them from the back: one more where the last of the first n + 1 digits is a zero, and else none
abbrev pub is_zero : ℕ → Bool
is_zero c = eqb (digit_of c) 0

counted_first : (ds : List ℕ) (n : ℕ) → n ≤ length ds → suffix_len is_zero (take n ds) ≡ trailing (take n ds)
unfolding is_zeros trailing
counted_first ds zero h = refl
counted_first ds (suc n) h = go (is_zero (get_or ds n 0)) refl (counted_first ds n (omega arith))
  where
    k : suc n - 1 ≡ n
    k = omega arith

    go : (b : Bool) → is_zero (get_or ds n 0) ≡ b → suffix_len is_zero (take n ds) ≡ trailing (take n ds) → suffix_len is_zero (take (suc n) ds) ≡ trailing (take (suc n) ds)
    go true e i =
        let t : trailing (take (suc n) ds) ≡ suc (trailing (take n ds)) = rw (take-suc ds n 0 h, trailing_join (take n ds) (get_or ds n 0 ∷ []), e) (omega arith) in
        omega (arith, t, i, rw k at (suffix_len-take_yes is_zero ds (suc n) 0 (omega arith) h (rw k e)))
    go false e i =
        let t : trailing (take (suc n) ds) ≡ 0 = rw (take-suc ds n 0 h, trailing_join (take n ds) (get_or ds n 0 ∷ []), e) in
        omega (arith, t, suffix_len-take_no is_zero ds (suc n) 0 (omega arith) h (rw k e))

pub trailing_counted : (ds : List ℕ) → suffix_len is_zero ds ≡ trailing ds
trailing_counted ds = rw take-length at (counted_first ds (length ds) (omega arith))

-- they are no more than the digits, and fewer where one is no zero
pub trailing_few : (ys : List ℕ) → trailing ys ≤ length ys
unfolding trailing
trailing_few [] = omega arith
trailing_few (y ∷ ys) = either (λ n. n ≤ suc (length ys)) (is_zeros (y ∷ ys)) (λ e. omega arith) (λ e. omega (arith, trailing_few ys))

pub not_all : (ys : List ℕ) → is_zeros ys ≡ false → trailing ys < length ys
unfolding trailing
not_all [] e = unfold is_zeros in absurd (true≢false e)
not_all (y ∷ ys) e = rw e (omega (arith, trailing_few ys))

pub all_is : (ys : List ℕ) → trailing ys ≡ length ys → is_zeros ys ≡ true
all_is ys t = go (is_zeros ys) refl
  where
    go : (b : Bool) → is_zeros ys ≡ b → is_zeros ys ≡ true
    go true e = e
    go false e = let f : ⊥ = omega (arith, not_all ys e) in absurd f

-- two runs without them
pub trimmed_first : (xs ys : List ℕ) → is_zeros ys ≡ true → trimmed (xs ++ ys) ≡ trimmed xs
trimmed_first xs ys e =
    let k : length (xs ++ ys) - trailing (xs ++ ys) ≡ length xs - trailing xs = omega (arith, trailing_first xs ys e, length-append xs ys) in
    rw k (take-append-le (length xs - trailing xs) xs ys (omega arith))

pub trimmed_both : (xs ys : List ℕ) → is_zeros ys ≡ false → trimmed (xs ++ ys) ≡ xs ++ trimmed ys
trimmed_both xs ys e =
    let k : length (xs ++ ys) - trailing (xs ++ ys) ≡ length xs + (length ys - trailing ys) = omega (arith, trailing_last xs ys e, length-append xs ys, trailing_few ys) in
    rw k (take-append-add xs ys (length ys - trailing ys))

-- what stands between two offsets without them
module _ (xs : List ℕ) (from to : ℕ) (l : from ≤ to) (h : to ≤ length xs) where
  pub between_long : length (between xs from to) ≡ to - from
  between_long = length-take-le (to - from) (drop from xs) (omega (arith, length-drop from xs))

  pub between_cut : (n : ℕ) → n ≤ to - from → take (to - from - n) (between xs from to) ≡ between xs from (to - n)
  between_cut n m =
      let k : to - n - from ≡ to - from - n = omega arith in
      rw k (take-take (to - from - n) (to - from) (drop from xs) (omega arith))

  pub trimmed_between : trimmed (between xs from to) ≡ between xs from (to - trailing (between xs from to))
  trimmed_between = rw between_long (between_cut (trailing (between xs from to)) (omega (arith, trailing_few (between xs from to), between_long)))
