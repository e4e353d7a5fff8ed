-- The table by a character's first byte. Of the rows at most one has bounds for a first byte, and `size_by`, `low_second` and
-- `high_second` say which: for the bytes that can begin a character by one test that the check computes, and past those no row has any.
use Prim.Native.Nat.{ℕ, zero, suc, ◌<◌, ◌≤◌}
use native.Mathlib.Omega.{arith}
use native.Mathlib.Decide.{dec_lt}
use mathlib.Core.Bool.{Bool, true, false, cond, ◌&&◌}
use mathlib.Core.List.{List, [], ◌∷◌}
use mathlib.Core.Path.{◌≡◌, refl, sym, ap, ap₂, ◌∙◌}
use lib.Dec.{eqb, leb, ltb}
use lib.ListN.{length, drop, replicate, length-replicate}
use lib.Seq.{get_or-drop, drop-drop}
use borrow.Author.Tests.{eqb-true, ltb-true, lt-leb}
use Rattle.scan.specs.Byte.{end, peek_at, is_within}
use Rattle.utf8.specs.Table.{Bounds, ◌to◌, tail, rows, fits, size_in, char_length}
use Rattle.utf8.specs.steps.Lead.{size_by, low_second, high_second, with_tails}
use Rattle.scan.proofs.byte.Classes.{above_not}
use Rattle.proving.proofs.Choice.{either, and_left, and_right, cond_and}
use Rattle.proving.proofs.Below.{below}

-- what the rows that have x as a first byte ask of the bytes after it
abbrev rows_at : ℕ → List (List Bounds) → List (List Bounds)
rows_at x [] = []
rows_at x ([] ∷ rs) = []
rows_at x ((b ∷ bs) ∷ rs) = cond (is_within b.lo b.hi x) (bs ∷ rows_at x rs) (rows_at x rs)

-- the first of them that the bytes after it fit
abbrev first_fit : List (List Bounds) → List ℕ → ℕ
first_fit [] xs = 0
first_fit (r ∷ rs) xs = cond (fits r xs) (suc (length r)) (first_fit rs xs)

at_first : (x : ℕ) (xs : List ℕ) (rs : List (List Bounds)) → size_in rs (x ∷ xs) ≡ first_fit (rows_at x rs) xs
unfolding size_in fits
at_first x xs [] = refl
at_first x xs ([] ∷ rs) = refl
at_first x xs ((b ∷ bs) ∷ rs) = go (is_within b.lo b.hi x) (at_first x xs rs)
  where
    go : (t : Bool) → size_in rs (x ∷ xs) ≡ first_fit (rows_at x rs) xs → cond (t && fits bs xs) (suc (length bs)) (size_in rs (x ∷ xs)) ≡ first_fit (cond t (bs ∷ rows_at x rs) (rows_at x rs)) xs
    go true ih = ap (cond (fits bs xs) (suc (length bs))) ih
    go false ih = ih

-- the same by a size and the bounds of the second byte
abbrev shaped : ℕ → Bounds → List (List Bounds)
shaped zero b = []
shaped (suc zero) b = [] ∷ []
shaped (suc (suc n)) b = (b ∷ replicate n tail) ∷ []

abbrev pub second : ℕ → Bounds
second x = low_second x to high_second x

-- two lists are equal where a test that knows equality says so of each pair
module _ {A : Type 0} (same : A → A → Bool) where
  abbrev same_list : List A → List A → Bool
  same_list [] [] = true
  same_list [] (y ∷ ys) = false
  same_list (x ∷ xs) [] = false
  same_list (x ∷ xs) (y ∷ ys) = same x y && same_list xs ys

  module _ (sound : (x y : A) → same x y ≡ true → x ≡ y) where
    same_list_holds : (xs ys : List A) → same_list xs ys ≡ true → xs ≡ ys
    same_list_holds [] [] e = refl
    same_list_holds [] (y ∷ ys) e = cc
    same_list_holds (x ∷ xs) [] e = cc
    same_list_holds (x ∷ xs) (y ∷ ys) e =
        ap₂ ◌∷◌ (sound x y (and_left (same x y) (same_list xs ys) e)) (same_list_holds xs ys (and_right (same x y) (same_list xs ys) e))

abbrev same_bounds : Bounds → Bounds → Bool
same_bounds b c = eqb b.lo c.lo && eqb b.hi c.hi

same_bounds_holds : (b c : Bounds) → same_bounds b c ≡ true → b ≡ c
same_bounds_holds b c e =
    let l : b.lo ≡ c.lo = eqb-true b.lo c.lo (and_left (eqb b.lo c.lo) (eqb b.hi c.hi) e) in
    let h : b.hi ≡ c.hi = eqb-true b.hi c.hi (and_right (eqb b.lo c.lo) (eqb b.hi c.hi) e) in
    λ i. record { lo = l i; hi = h i }

abbrev same_rows : List (List Bounds) → List (List Bounds) → Bool
same_rows = same_list (same_list same_bounds)

known : (x : ℕ) → x < 0xf5 → rows_at x rows ≡ shaped (size_by x) (second x)
unfolding size_by low_second high_second is_within
known x h =
    same_list_holds (same_list same_bounds) (same_list_holds same_bounds same_bounds_holds) (rows_at x rows) (shaped (size_by x) (second x))
    (below (λ y. same_rows (rows_at y rows) (shaped (size_by y) (second y))) 0xf5 refl x h)

abbrev all_under : List (List Bounds) → Bool
all_under [] = true
all_under ([] ∷ rs) = all_under rs
all_under ((b ∷ bs) ∷ rs) = ltb b.hi 0xf5 && all_under rs

past : (x : ℕ) → 0xf5 ≤ x → (rs : List (List Bounds)) → all_under rs ≡ true → rows_at x rs ≡ []
past x h [] e = refl
past x h ([] ∷ rs) e = refl
past x h ((b ∷ bs) ∷ rs) e =
    rw (above) (past x h rs (and_right (ltb b.hi 0xf5) (all_under rs) e))
  where
    under : b.hi < 0xf5
    under = ltb-true b.hi 0xf5 (and_left (ltb b.hi 0xf5) (all_under rs) e)

    above : is_within b.lo b.hi x ≡ false
    above = above_not b.lo b.hi x (omega (arith, under))

none_past : (x : ℕ) → 0xf5 ≤ x → size_by x ≡ 0
unfolding size_by
none_past x h = rw (lt-leb x 0x7f (omega arith), lt-leb x 0xc1 (omega arith), lt-leb x 0xdf (omega arith), lt-leb x 0xef (omega arith), lt-leb x 0xf4 (omega arith))

rows_are : (x : ℕ) → rows_at x rows ≡ shaped (size_by x) (second x)
rows_are x = go (dec_lt x 0xf5)
  where
    go : Dec (x < 0xf5) → rows_at x rows ≡ shaped (size_by x) (second x)
    go (yes h) = known x h
    go (no h) = past x (omega arith) rows refl ∙ ap (λ (n : ℕ). shaped n (second x)) (sym (none_past x (omega arith)))

-- the length of a character by its first byte
abbrev pub sized : ℕ → Bounds → List ℕ → ℕ
sized zero b xs = 0
sized (suc zero) b xs = 1
sized (suc (suc n)) b xs = cond (fits (b ∷ replicate n tail) xs) (suc (suc n)) 0

shaped_sized : (n : ℕ) (b : Bounds) (xs : List ℕ) → first_fit (shaped n b) xs ≡ sized n b xs
unfolding fits
shaped_sized zero b xs = refl
shaped_sized (suc zero) b xs = refl
shaped_sized (suc (suc n)) b xs = rw length-replicate

pub char_by : (x : ℕ) (xs : List ℕ) → char_length (x ∷ xs) ≡ sized (size_by x) (second x) xs
unfolding char_length
char_by x xs = at_first x xs rows ∙ ap (λ (rs : List (List Bounds)). first_fit rs xs) (rows_are x) ∙ shaped_sized (size_by x) (second x) xs

-- the size is at most 4, and no bound of a second byte lets the end in
pub size_most : (x : ℕ) → size_by x ≤ 4
unfolding size_by
size_most x =
    let P : ℕ → Type 0 = λ n. n ≤ 4 in
    either P (leb x 0x7f) (λ e. omega arith)
    (λ e. either P (leb x 0xc1) (λ e. omega arith)
    (λ e. either P (leb x 0xdf) (λ e. omega arith)
    (λ e. either P (leb x 0xef) (λ e. omega arith)
    (λ e. either P (leb x 0xf4) (λ e. omega arith) (λ e. omega arith)))))

pub second_most : (x : ℕ) → high_second x < end
unfolding high_second
second_most x =
    let P : ℕ → Type 0 = λ n. n < end in
    either P (eqb x 0xed) (λ e. omega arith) (λ e. either P (eqb x 0xf4) (λ e. omega arith) (λ e. omega arith))

-- bytes fit one by one, and past the end none does
fits_at : (b : Bounds) → b.hi < end → (bs : List Bounds) (xs : List ℕ) → fits (b ∷ bs) xs ≡ is_within b.lo b.hi (peek_at xs 0) && fits bs (drop 1 xs)
unfolding fits
fits_at b h bs [] = rw (above_not b.lo b.hi end h)
fits_at b h bs (x ∷ xs) = refl

-- the tests that the code makes, one byte after the other
abbrev pub by_tests : ℕ → Bounds → List ℕ → ℕ
by_tests n b xs = cond (leb n 1) n (cond (is_within b.lo b.hi (peek_at xs 1)) (with_tails n xs) 0)

tests_are : (n : ℕ) → n ≤ 4 → (b : Bounds) → b.hi < end → (x : ℕ) (xs : List ℕ) → sized n b xs ≡ by_tests n b (x ∷ xs)
unfolding fits with_tails
tests_are zero m b h x xs = refl
tests_are (suc zero) m b h x xs = refl
tests_are (suc (suc zero)) m b h x xs = rw (fits_at b h, cond_and)
tests_are (suc (suc (suc zero))) m b h x xs = rw (fits_at b h, fits_at tail (omega arith), get_or-drop 1 xs 0 end) (simp cond_and)
tests_are (suc (suc (suc (suc zero)))) m b h x xs =
    rw (fits_at b h, fits_at tail (omega arith), fits_at tail (omega arith), drop-drop, get_or-drop 1 xs 0 end, get_or-drop 2 xs 0 end) (simp cond_and)
tests_are (suc (suc (suc (suc (suc n))))) m b h x xs = let f : ⊥ = omega arith in absurd f

pub char_tests : (xs : List ℕ) → char_length xs ≡ by_tests (size_by (peek_at xs 0)) (second (peek_at xs 0)) xs
char_tests [] = unfold char_length size_in fits size_by in refl
char_tests (x ∷ xs) = char_by x xs ∙ tests_are (size_by x) (size_most x) (second x) (second_most x) x xs
