-- Bytes from an offset on: the first of them and those behind it, and where a byte first stands, in the words of the passes over them.
use Rattle.std.proofs.Common.{ℕ, suc, ◌+◌, ◌<◌, ◌≤◌, false, ◌||◌, List, ◌≡◌, refl, ap, arith, length, get_or, drop, add-one, drop-cons, cond, ◌∙◌, unwrap_or, sym, [], ◌∷◌, ◌==◌, ◌++◌}
use lib.Dec.{eqb}
use lib.ListN.{drop_of_length-le}
use Rattle.std.specs.List.{position_or_len, position}
use Rattle.std.proofs.lemmas.List.Recursion.{is_position_or_len}
use Rattle.scan.specs.Text.{has}
use Rattle.string.specs.Literal.{first_of}
use Rattle.scan.specs.Byte.{peek_at, end}
use lib.Seq.{get_or-drop}
use Rattle.proving.proofs.Lists.{get_d_any}
use native.Mathlib.Nat.{add-zero, zero-add}
use native.Mathlib.Decide.{dec_lt}
use borrow.Author.Tests.{lt-ltb, le-ltb}
use Rattle.proving.proofs.Choice.{either}
use Rattle.std.proofs.lemmas.List.Edits.{sets, sets-eq}

pub has_next : (c : ℕ) (xs : List ℕ) (i : ℕ) → i < length xs → has c (drop i xs) ≡ eqb (get_or xs i 0) c || has c (drop (i + 1) xs)
unfolding has
has_next c xs i l = rw (drop-cons xs i 0 l, add-one)

pub has_over : (c : ℕ) (xs : List ℕ) (i : ℕ) → length xs ≤ i → has c (drop i xs) ≡ false
unfolding has
has_over c xs i l = rw (drop_of_length-le xs l)

-- where a byte first stands is within the text
pub first_within : (c : ℕ) (xs : List ℕ) → first_of c xs ≤ length xs
unfolding first_of
first_within c [] = omega arith
first_within c (x ∷ xs) = either (λ (k : ℕ). k ≤ suc (length xs)) (eqb x c) (λ e. omega arith) (λ e. omega (arith, first_within c xs))

-- where it first stands is its position, or the end
pub first_position : (c : ℕ) (xs : List ℕ) → unwrap_or (position (λ x. x == c) xs) (length xs) ≡ first_of c xs
first_position c xs = go (dec_lt (position_or_len (λ x. x == c) xs) (length xs))
  where
    same : first_of c xs ≡ position_or_len (λ x. x == c) xs
    same = unfold first_of in is_position_or_len (first_of c) (λ x. x == c) refl (λ x xs. ap (λ (n : ℕ). cond (x == c) 0 n) (omega arith)) xs

    go : Dec (position_or_len (λ x. x == c) xs < length xs) → unwrap_or (position (λ x. x == c) xs) (length xs) ≡ first_of c xs
    go (yes l) = rw (lt-ltb _ _ l) (sym same)
    go (no l) = rw (le-ltb (position_or_len (λ x. x == c) xs) (length xs) (omega arith)) (omega (arith, same, first_within c xs))

-- what stands behind a place, and at it
pub peek_behind : (xs : List ℕ) (at i : ℕ) → at + i < length xs → peek_at (drop at xs) i ≡ get_or xs (at + i) 0
peek_behind xs at i l = get_or-drop at xs i end ∙ get_d_any xs (at + i) end 0 l

pub peek_here : (xs : List ℕ) (at : ℕ) → at < length xs → peek_at (drop at xs) 0 ≡ get_or xs at 0
peek_here xs at l = peek_behind xs at 0 (omega arith) ∙ ap (λ (i : ℕ). get_or xs i 0) (add-zero at)

-- what is stored at the front of a buffer stands there, and the rest stays
pub sets_front : (ys d : List ℕ) → length ys ≤ length d → sets d 0 ys ≡ ys ++ drop (length ys) d
sets_front ys d h = sets-eq ys d 0 (omega arith) ∙ rw zero-add
