-- A label may be told by its bytes: no byte that is not ASCII is in its classes (`by_bytes` of utf8), and a text is all of a class where
-- its run is the whole of it.
use Prim.Native.Nat.{ℕ, suc, ◌+◌, ◌<◌, ◌≤◌}
use native.Mathlib.Numerals.{one-add}
use native.Mathlib.Omega.{arith}
use native.Mathlib.Decide.{dec_lt}
use mathlib.Core.Bool.{Bool, true, false, cond, ◌&&◌, and-false, true≢false}
use mathlib.Core.List.{List, [], ◌∷◌}
use mathlib.Core.Path.{◌≡◌, refl, sym, ap, ◌∙◌}
use lib.Dec.{eqb, eqb-zero-suc, eqb-suc-suc}
use lib.ListN.{length}
use borrow.Author.Tests.{lt-ltb}
use Rattle.scan.specs.declared.byte.Class.TheVariants.{Alpha, AlphaNumeric}
use Rattle.scan.specs.Byte.{peek_at, is_within, is_alpha, is_alpha_numeric, is_in}
use Rattle.scan.specs.Run.{run_length, run_end}
use Rattle.scan.specs.laws.Edge.{AsciiAlone}
use Rattle.proving.proofs.Tests.{affirmed, itself}
use Rattle.scan.proofs.Edges.{class_ascii}
use Rattle.utf8.specs.laws.Ascii.{is_ascii}
use Rattle.utf8.proofs.Ascii.{by_bytes}
use Rattle.token.specs.Label.{every, named, is_label}

other : {p : ℕ → Bool} → AsciiAlone p → (x : ℕ) → 0x80 ≤ x → p x ≡ false
other {p} a x h = affirmed (itself (p x)) (λ e. omega (arith, a x e))

other_alpha : (x : ℕ) → 0x80 ≤ x → is_alpha x ≡ false
unfolding is_in
other_alpha = other (class_ascii Alpha refl)

other_alpha_numeric : (x : ℕ) → 0x80 ≤ x → is_alpha_numeric x ≡ false
unfolding is_in
other_alpha_numeric = other (class_ascii AlphaNumeric refl)

-- a test that takes no byte that is not ASCII does not hold of every byte where there is one
other_every : (p : ℕ → Bool) → ((x : ℕ) → 0x80 ≤ x → p x ≡ false) → (xs : List ℕ) → is_ascii xs ≡ false → every p xs ≡ false
other_every p away [] h = absurd (true≢false h)
other_every p away (x ∷ xs) h = go (dec_lt x 0x80) (other_every p away xs)
  where
    go : Dec (x < 0x80) → (is_ascii xs ≡ false → every p xs ≡ false) → p x && every p xs ≡ false
    go (yes l) ih = rw (ih (rw (lt-ltb x 0x80 l) at h)) (and-false (p x))
    go (no l) ih = rw (away x (omega arith))

other_named : (xs : List ℕ) → is_ascii xs ≡ false → named xs ≡ false
other_named [] h = refl
other_named (x ∷ xs) h = go (dec_lt x 0x80)
  where
    go : Dec (x < 0x80) → is_alpha x && every is_alpha_numeric xs ≡ false
    go (yes l) = rw (other_every is_alpha_numeric other_alpha_numeric xs (rw (lt-ltb x 0x80 l) at h)) (and-false (is_alpha x))
    go (no l) = rw (other_alpha x (omega arith))

every_run : (p : ℕ → Bool) (xs : List ℕ) → every p xs ≡ eqb (run_length p xs) (length xs)
unfolding run_length
every_run p [] = refl
every_run p (x ∷ xs) = go (p x) (every_run p xs)
  where
    go : (b : Bool) → every p xs ≡ eqb (run_length p xs) (length xs) → b && every p xs ≡ eqb (cond b (suc (run_length p xs)) 0) (suc (length xs))
    go true h = h ∙ sym (eqb-suc-suc (run_length p xs) (length xs))
    go false h = sym (eqb-zero-suc (length xs))

-- the two tests of the code
pub label_is : (xs : List ℕ) → is_label xs ≡ is_alpha (peek_at xs 0) && eqb (run_end (is_in AlphaNumeric) xs 1) (length xs)
unfolding is_label is_in
label_is xs = sym (by_bytes Bool false named other_named xs) ∙ go xs
  where
    go : (ys : List ℕ) → named ys ≡ is_alpha (peek_at ys 0) && eqb (run_end (is_in AlphaNumeric) ys 1) (length ys)
    go [] = unfold is_alpha is_within in refl
    go (y ∷ ys) =
        let r = run_length (is_in AlphaNumeric) ys in
        let e : eqb r (length ys) ≡ eqb (1 + r) (suc (length ys)) = rw (one-add r) (sym (eqb-suc-suc r (length ys))) in
        ap (λ (t : Bool). is_alpha y && t) (every_run (is_in AlphaNumeric) ys ∙ e)
