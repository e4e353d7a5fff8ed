-- A letter stands for a code point exactly where it is the sign or one of 01's letters, since the table is looked through from its front.
use Prim.Native.Nat.{ℕ, ◌<◌, ◌+◌, ◌≤◌}
use native.Mathlib.Omega.{arith}
use mathlib.Core.Bool.{Bool, true, false, cond, ◌&&◌, ◌||◌}
use mathlib.Core.List.{List, [], ◌∷◌, map}
use mathlib.Core.Logic.{◌⊎◌, inl, inr}
use Rattle.std.specs.Prelude.{None, Option, Some, is_some}
use mathlib.Core.Path.{◌≡◌, refl, sym, ap, subst, ◌∙◌}
use lib.Dec.{eqb, ltb, leb}
use borrow.Author.Tests.{eq-eqb, eqb-true, lt-ltb, ltb-true, ne_eqb, le-leb, leb-true}
use Rattle.scan.specs.Ascii.{ascii}
use Rattle.scan.specs.Text.{has, Stands}
use Rattle.proving.proofs.Choice.{either, and_left, and_right}
use Rattle.proving.proofs.Tests.{Tests}
use Rattle.scan.proofs.Stands.{tests_has}
use Rattle.string.specs.Letters.{letters, looked_up, is_own_sign, letter_value}
use Rattle.scan.specs.Byte.{peek_at, backslash, backquote}
use Rattle.string.specs.Tile.{piece, tile_of, begins_escape, escape_of}
use Rattle.string.specs.declared.tile.Form.TheVariants.{Letter}
use Rattle.string.proofs.Bytes.{peek_here, peek_behind}
use lib.ListN.{length, get_or, drop}

-- what is found passes a test
abbrev pub passes : (ℕ → Bool) → Option ℕ → Bool
passes p (Some v) = p v
passes p None = true

abbrev pub every : (ℕ → Bool) → List ℕ → Bool
every p [] = true
every p (x ∷ xs) = p x && every p xs

abbrev keys : List (ℕ × ℕ) → List ℕ
keys rs = map (λ (r : ℕ × ℕ). r.0) rs

abbrev values : List (ℕ × ℕ) → List ℕ
values rs = map (λ (r : ℕ × ℕ). r.1) rs

-- a table gives a value exactly to its letters, and the values are the table's
in_table : (rs : List (ℕ × ℕ)) (c : ℕ) → is_some (looked_up rs c) ≡ has c (keys rs)
unfolding looked_up has
in_table [] c = refl
in_table (r ∷ rs) c = go (eqb r.0 c) (in_table rs c)
  where
    go : (b : Bool) → is_some (looked_up rs c) ≡ has c (keys rs) → is_some (cond b (Some r.1) (looked_up rs c)) ≡ b || has c (keys rs)
    go true e = refl
    go false e = e

value_passes : (p : ℕ → Bool) (rs : List (ℕ × ℕ)) (c : ℕ) → every p (values rs) ≡ true → passes p (looked_up rs c) ≡ true
unfolding looked_up
value_passes p [] c a = refl
value_passes p (r ∷ rs) c a =
    either (λ (o : Option ℕ). passes p o ≡ true) (eqb r.0 c) (λ e. and_left (p r.1) (every p (values rs)) a)
    (λ e. value_passes p rs c (and_right (p r.1) (every p (values rs)) a))

tests_table : (c : ℕ) → Tests (is_some (looked_up letters c)) (Stands c (ascii "abfnrtv\\"))
tests_table c = subst (λ (b : Bool). Tests b (Stands c (ascii "abfnrtv\\"))) (sym (in_table letters c)) (tests_has c (ascii "abfnrtv\\"))

module _ (q c : ℕ) where
  pub letter_told : (v : ℕ) → letter_value q c ≡ Some v → (c ≡ q) ⊎ Stands c (ascii "abfnrtv\\")
  unfolding letter_value
  letter_told v =
      either (λ (o : Option ℕ). o ≡ Some v → (c ≡ q) ⊎ Stands c (ascii "abfnrtv\\")) (is_own_sign q c)
      (λ t e. inl (eqb-true c q (and_left (eqb c q) (ltb 0 q) t)))
      (λ t e. inr ((tests_table c).0 (ap is_some e)))

  pub letter_some : 0 < q → (c ≡ q) ⊎ Stands c (ascii "abfnrtv\\") → is_some (letter_value q c) ≡ true
  unfolding letter_value
  letter_some h (inl e) = rw (eq-eqb c q e, lt-ltb 0 q h)
  letter_some h (inr s) = either (λ (o : Option ℕ). is_some o ≡ true) (is_own_sign q c) (λ t. refl) (λ t. (tests_table c).1 s)

  -- every value is some sign or one of the table's
  pub letter_passes : (p : ℕ → Bool) → (0 < q → p q ≡ true) → every p (values letters) ≡ true → passes p (letter_value q c) ≡ true
  unfolding letter_value
  letter_passes p s a =
      either (λ (o : Option ℕ). passes p o ≡ true) (is_own_sign q c)
      (λ t. s (ltb-true 0 q (and_right (eqb c q) (ltb 0 q) t)))
      (λ t. value_passes p letters c a)

-- what a letter behind a backslash at a place stands for is a tile there, and is ASCII, as signs are
pub letter_tile : (q v : ℕ) (xs : List ℕ) (at : ℕ) → at + 1 < length xs → get_or xs at 0 ≡ backslash → (backslash ≡ q → ⊥) → (q ≡ backquote → ⊥) → letter_value q (get_or xs (at + 1) 0) ≡ Some v → tile_of q (drop at xs) ≡ piece Letter v 2
unfolding tile_of begins_escape escape_of
letter_tile q v xs at k e n m l =
    let here : peek_at (drop at xs) 0 ≡ backslash = peek_here xs at (omega arith) ∙ e in
    let behind = peek_behind xs at 1 k in
    rw (here, ne_eqb backslash q n, ne_eqb q backquote m, behind, l)

pub letter_small : (q c v : ℕ) → q < 0x80 → letter_value q c ≡ Some v → v ≤ 0x7f
letter_small q c v h e =
    let p : ℕ → Bool = λ n. leb n 0x7f in
    leb-true v 0x7f (sym (ap (passes p) e) ∙ letter_passes q c p (λ s. le-leb q 0x7f (omega arith)) refl)
