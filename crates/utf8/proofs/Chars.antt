-- The characters of a text, one after the other: each lies within the bytes, and those after it are the characters of what it leaves.
use Prim.Native.Nat.{ℕ, zero, suc, pred, ◌+◌, ◌-◌, ◌<◌, ◌≤◌}
use native.Mathlib.Nat.{sub-zero}
use native.Mathlib.Omega.{arith}
use mathlib.Core.Bool.{true, cond}
use mathlib.Core.List.{List, [], ◌∷◌}
use mathlib.Core.Path.{◌≡◌, refl, ap, ap₂, ◌∙◌}
use lib.Dec.{eqb}
use lib.ListN.{length, take, drop}
use borrow.Author.Tests.{eq-eqb, ne_eqb}
use Rattle.scan.specs.Byte.{is_within}
use Rattle.utf8.specs.declared.Place.{Place}
use Rattle.utf8.specs.Table.{Bounds, rows, fits, size_in, char_length}
use Rattle.utf8.specs.Text.{Char, char_of, chars_past, chars_of, size_of, begun_in, char_number}
use Rattle.utf8.specs.Answers.{place, next_start}
use Rattle.proving.proofs.Choice.{either, and_right}

-- what holds of 0 and of the length of each row that the bytes fit holds of the size that a table gives
module _ (xs : List ℕ) (P : ℕ → Type 0) where
  abbrev pub EachRow : List (List Bounds) → Type 0
  EachRow [] = Unit {0}
  EachRow (r ∷ rs) = (fits r xs ≡ true → P (length r)) × EachRow rs

  pub each_row : ((r : List Bounds) → fits r xs ≡ true → P (length r)) → (rs : List (List Bounds)) → EachRow rs
  each_row f [] = tt
  each_row f (r ∷ rs) = (f r, each_row f rs)

  pub of_size : P 0 → (rs : List (List Bounds)) → EachRow rs → P (size_in rs xs)
  unfolding size_in
  of_size z [] e = z
  of_size z (r ∷ rs) e = either P (fits r xs) e.0 (λ n. of_size z rs e.1)

fits_bound : (xs : List ℕ) (r : List Bounds) → fits r xs ≡ true → length r ≤ length xs
unfolding fits
fits_bound xs [] e = omega arith
fits_bound [] (b ∷ bs) e = let z : ◌≡◌ {A = ℕ} 0 1 = cc in let f : ⊥ = omega arith in absurd f
fits_bound (x ∷ xs) (b ∷ bs) e = omega (arith, fits_bound xs bs (and_right (is_within b.lo b.hi x) (fits bs xs) e))

-- a character lies within the bytes
pub char_bound : (xs : List ℕ) → char_length xs ≤ length xs
unfolding char_length
char_bound xs = of_size xs (λ n. n ≤ length xs) (omega arith) rows (each_row xs (λ n. n ≤ length xs) (fits_bound xs) rows)

-- what a character has taken is passed over
chars_past_holds : (k : ℕ) (xs : List ℕ) → chars_past k xs ≡ chars_of (drop k xs)
unfolding chars_past
chars_past_holds zero [] = refl
chars_past_holds (suc k) [] = refl
chars_past_holds zero (x ∷ xs) = refl
chars_past_holds (suc k) (x ∷ xs) = chars_past_holds k xs

-- the characters are the first one and those of what it leaves
pub chars_are : (xs : List ℕ) → chars_of xs ≡ cond (eqb (char_length xs) 0) [] (char_of (char_length xs) xs ∷ chars_of (drop (char_length xs) xs))
unfolding chars_past
chars_are [] = unfold char_length size_in fits in refl
chars_are (x ∷ xs) = go (char_length (x ∷ xs))
  where
    go : (n : ℕ) → cond (eqb n 0) [] (char_of n (x ∷ xs) ∷ chars_past (pred n) xs) ≡ cond (eqb n 0) [] (char_of n (x ∷ xs) ∷ chars_of (drop n (x ∷ xs)))
    go zero = refl
    go (suc n) = ap (λ (t : List Char). cond (eqb (suc n) 0) [] (char_of (suc n) (x ∷ xs) ∷ t)) (chars_past_holds n xs)

-- where none begins there are none
pub chars_none : (xs : List ℕ) → char_length xs ≡ 0 → chars_of xs ≡ []
chars_none xs e = chars_are xs ∙ rw e

pub chars_some : (xs : List ℕ) → 0 < char_length xs → chars_of xs ≡ char_of (char_length xs) xs ∷ chars_of (drop (char_length xs) xs)
chars_some xs h = chars_are xs ∙ rw (ne_eqb (char_length xs) 0 (λ e. omega arith))

-- the place at which characters stop that begin before an offset, counted from a place before them
abbrev pub stop : ℕ → ℕ → ℕ → List Char → Place
stop to at n cs = let k = begun_in (to - at) cs in place (at + size_of (take k cs)) (n + k)

-- none of them begins past the offset
pub stop_out : (to at n : ℕ) (cs : List Char) → to ≤ at → stop to at n cs ≡ place at n
unfolding begun_in size_of
stop_out to at n [] h = ap₂ place (omega arith) (omega arith)
stop_out to at n (c ∷ cs) h =
    rw (eq-eqb (to - at) 0 (omega arith)) (ap₂ place (omega arith) (omega arith))

-- the first of them is passed where it begins before the offset
pub stop_more : (to at n : ℕ) (c : Char) (cs : List Char) → at < to → stop to at n (c ∷ cs) ≡ stop to (at + c.size) (n + 1) cs
unfolding begun_in size_of
stop_more to at n c cs h =
    let e : to - at - c.size ≡ to - (at + c.size) = omega arith in
    rw (ne_eqb (to - at) 0 (λ z. omega arith), e) (ap₂ place (omega arith) (omega arith))

pub stop_none : (to at n : ℕ) → stop to at n [] ≡ place at n
unfolding begun_in size_of
stop_none to at n = ap₂ place (omega arith) (omega arith)

pub stop_start : (to : ℕ) (xs : List ℕ) → next_start xs to ≡ stop to 0 0 (chars_of xs)
unfolding char_number
stop_start to xs = rw (sub-zero) (ap₂ place (omega arith) (omega arith))
