-- The test of the word `or` by its bytes: a word of two bytes is the text `or` where both are its letters, and one of another length is not.
-- Past the last byte stands no letter and no space, so that this holds for all bytes and every n.
use Prim.Native.Nat.{ℕ, ◌≤◌}
use Prim.Native.Char.{code}
use native.Mathlib.Decide.{dec_le}
use native.Mathlib.Omega.{arith}
use mathlib.Core.Bool.{Bool, true, false, ◌&&◌}
use mathlib.Core.List.{List, [], ◌∷◌, map}
use mathlib.Core.Path.{◌≡◌, refl, sym, ◌∙◌}
use lib.Dec.{eqb}
use lib.ListN.{length, take, length-map, get_or-eq_default}
use lib.Seq.{length-take-le}
use Rattle.scan.specs.Ascii.{ascii}
use Rattle.scan.specs.Byte.{end, peek_at, is_within, lowered}
use Rattle.scan.specs.Text.{same_text}
use Rattle.scan.proofs.Same.{same_not}
use Rattle.munch.specs.Word.{is_or}

and_false : (b : Bool) → b && false ≡ false
and_false true = refl
and_false false = refl

pub or_letters : (xs : List ℕ) → is_or xs 2 ≡ eqb (lowered (peek_at xs 0)) (code "o") && (eqb (lowered (peek_at xs 1)) (code "r") && eqb (peek_at xs 2) (code " "))
unfolding is_or same_text lowered is_within
or_letters [] = refl
or_letters (a ∷ []) = rw (and_false (eqb (lowered a) (code "o")))
or_letters (a ∷ b ∷ xs) = go (eqb (lowered a) (code "o")) (eqb (lowered b) (code "r")) (eqb (peek_at xs 0) (code " "))
  where
    go : (x y z : Bool) → (x && (y && true)) && z ≡ x && (y && z)
    go true true z = refl
    go true false z = refl
    go false y z = refl

pub or_other : (xs : List ℕ) (n : ℕ) → (n ≡ 2 → ⊥) → is_or xs n ≡ false
unfolding is_or
or_other xs n d = go (dec_le n (length xs))
  where
    go : Dec (n ≤ length xs) → is_or xs n ≡ false
    go (yes h) = rw (same_not (map lowered (take n xs)) (ascii "or") (λ e. d (sym (length-map (take n xs) lowered ∙ length-take-le n xs h) ∙ e)))
    go (no h) =
        let l : length xs ≤ n = omega arith in
        rw (get_or-eq_default xs end l, and_false (same_text (map lowered (take n xs)) (ascii "or")))
