-- Behind a tile of text there is text: a character is taken whole, and the bytes of an escape are ASCII, each a character by itself.
use Prim.Native.Nat.{ℕ, zero, suc, ◌+◌, ◌*◌, ◌<◌, ◌≤◌}
use native.Mathlib.Omega.{arith}
use native.Mathlib.Decide.{dec_lt, ℕ_discrete}
use mathlib.Core.Bool.{true, not}
use mathlib.Core.List.{List, [], ◌∷◌}
use mathlib.Core.Logic.{◌⊎◌, inl, inr}
use Rattle.std.specs.Prelude.{None, Option, Some}
use mathlib.Core.Path.{◌≡◌, refl, sym, ◌∙◌}
use lib.Dec.{eqb, ltb}
use lib.ListN.{drop}
use borrow.Author.Tests.{eqb-true, ltb-true}
use Rattle.scan.specs.Ascii.{ascii}
use Rattle.scan.specs.Byte.{peek_at, backslash, digit_of, is_digit_in, backquote}
use Rattle.scan.specs.Text.{Stands}
use Rattle.proving.proofs.Choice.{either, and_left, and_right}
use Rattle.scan.proofs.byte.Classes.{digit_bounds}
use Rattle.utf8.specs.declared.Character.TheVariants.{Nothing, IllFormed}
use Rattle.utf8.specs.Table.{char_length}
use Rattle.utf8.specs.Text.{WellFormed}
use Rattle.utf8.specs.laws.Ascii.{is_ascii}
use Rattle.utf8.specs.Answers.{character_at}
use Rattle.utf8.proofs.Bounds.{first_character}
use Rattle.utf8.proofs.Laws.{ascii_head, rest_text}
use Rattle.string.specs.declared.tile.Form.{Form}
use Rattle.string.specs.declared.tile.Form.TheVariants.{Hex, Octal, Point}
use Rattle.string.specs.Letters.{letter_value}
use Rattle.string.specs.Tile.{amount_from, is_allowed, numbered_as, numbered, escape_of, begins_escape, plain_of, tile_of}
use Rattle.string.proofs.tile.Digits.{here, turn}
use Rattle.string.proofs.tile.Letters.{letter_told}
use Rattle.string.proofs.tile.Forms.{by_letter}
use Rattle.string.specs.declared.tile.Piece.{Piece}

abbrev pub TextAfter : List ℕ → Option Piece → Type 0
TextAfter xs (Some p) = WellFormed (drop p.size xs)
TextAfter xs None = Unit {0}

-- ASCII bytes are passed one by one
ascii_drop : (n : ℕ) (xs : List ℕ) → ((i : ℕ) → i < n → peek_at xs i < 0x80) → WellFormed xs → WellFormed (drop n xs)
ascii_drop zero xs a w = w
ascii_drop (suc n) [] a w = w
ascii_drop (suc n) (x ∷ xs) a w =
    ascii_drop n xs (λ i l. a (suc i) (omega arith)) (omega (arith, (ascii_head x xs (a 0 (omega arith))).0, w))

-- each place of digits
places : (radix : ℕ) (xs : List ℕ) (n v at w : ℕ) → amount_from radix v n at xs ≡ Some w → (i : ℕ) → at ≤ i → i < at + n → peek_at xs i < 0x80
places radix xs zero v at w e i l m = let f : ⊥ = omega arith in absurd f
places radix xs (suc n) v at w e i l m =
    let d = here radix xs n v at w e in
    go (ℕ_discrete i at) d (places radix xs n (v * radix + digit_of (peek_at xs at)) (at + 1) w (sym (turn radix xs n v at d) ∙ e) i)
  where
    go : Dec (i ≡ at) → is_digit_in radix (peek_at xs at) ≡ true → (at + 1 ≤ i → i < at + 1 + n → peek_at xs i < 0x80) → peek_at xs i < 0x80
    go (yes s) d ih = rw s (omega (arith, digit_bounds radix (peek_at xs at) d))
    go (no s) d ih = ih (omega arith) (omega arith)

stands_ascii : (c : ℕ) (ys : List ℕ) → is_ascii ys ≡ true → Stands c ys → c < 0x80
stands_ascii c [] a s = absurd s
stands_ascii c (y ∷ ys) a (inl e) = rw (← e) (ltb-true y 0x80 (and_left (ltb y 0x80) (is_ascii ys) a))
stands_ascii c (y ∷ ys) a (inr s) = stands_ascii c ys (and_right (ltb y 0x80) (is_ascii ys) a) s

-- an escape: its backslash, what follows that, and digits
module _ (xs : List ℕ) (w : WellFormed xs) (b : peek_at xs 0 ≡ backslash) where
  numbered_text : (f : Form) (radix at n : ℕ) → ((i : ℕ) → i < at → peek_at xs i < 0x80) → TextAfter xs (numbered f radix at n xs)
  unfolding numbered
  numbered_text f radix at n a = go (amount_from radix 0 n at xs) refl
    where
      all : (v : ℕ) → amount_from radix 0 n at xs ≡ Some v → (i : ℕ) → i < at + n → peek_at xs i < 0x80
      all v e i l = by (dec_lt i at)
        where
          by : Dec (i < at) → peek_at xs i < 0x80
          by (yes m) = a i m
          by (no m) = places radix xs n 0 at v e i (omega arith) l

      go : (m : Option ℕ) → amount_from radix 0 n at xs ≡ m → TextAfter xs (numbered_as f (at + n) m)
      go (Some v) e = either (TextAfter xs) (is_allowed f v) (λ t. ascii_drop (at + n) xs (all v e) w) (λ t. tt)
      go None e = tt

  two : peek_at xs 1 < 0x80 → (i : ℕ) → i < 2 → peek_at xs i < 0x80
  two l zero m = rw b (omega arith)
  two l (suc zero) m = l
  two l (suc (suc i)) m = let f : ⊥ = omega arith in absurd f

  one : (i : ℕ) → i < 1 → peek_at xs i < 0x80
  one zero m = rw b (omega arith)
  one (suc i) m = let f : ⊥ = omega arith in absurd f

  letter_ascii : (q v : ℕ) → q < 0x80 → letter_value q (peek_at xs 1) ≡ Some v → peek_at xs 1 < 0x80
  letter_ascii q v l e = go (letter_told q (peek_at xs 1) v e)
    where
      go : (peek_at xs 1 ≡ q) ⊎ Stands (peek_at xs 1) (ascii "abfnrtv\\") → peek_at xs 1 < 0x80
      go (inl e) = rw e l
      go (inr s) = stands_ascii (peek_at xs 1) (ascii "abfnrtv\\") refl s

  escape_text : (q : ℕ) → q < 0x80 → TextAfter xs (escape_of q xs)
  unfolding escape_of
  escape_text q l =
      let P : Option Piece → Type 0 = TextAfter xs in
      let c = peek_at xs 1 in
      by_letter P (letter_value q c) (λ v e. ascii_drop 2 xs (two (letter_ascii q v l e)) w)
      (λ e. either P (eqb c 120) (λ e. numbered_text Hex 16 2 2 (two (omega (arith, eqb-true c 120 e))))
      (λ e. either P (eqb c 117) (λ e. numbered_text Point 16 2 4 (two (omega (arith, eqb-true c 117 e))))
      (λ e. either P (eqb c 85) (λ e. numbered_text Point 16 2 8 (two (omega (arith, eqb-true c 85 e))))
      (λ e. numbered_text Octal 8 1 3 one))))

plain_text_holds : (xs : List ℕ) → WellFormed xs → TextAfter xs (plain_of (character_at xs 0))
plain_text_holds xs w = go (ℕ_discrete (char_length xs) 0)
  where
    none : (character_at xs 0 ≡ Nothing) ⊎ (character_at xs 0 ≡ IllFormed) → TextAfter xs (plain_of (character_at xs 0))
    none (inl e) = rw e tt
    none (inr e) = rw e tt

    go : Dec (char_length xs ≡ 0) → TextAfter xs (plain_of (character_at xs 0))
    go (yes e) = none ((first_character xs).1 e)
    go (no z) = rw ((first_character xs).0 (omega arith)) (rest_text xs (omega arith) w)

begins : (q c : ℕ) → begins_escape q c ≡ true → c ≡ backslash
unfolding begins_escape
begins q c e = eqb-true c backslash (and_left (eqb c backslash) (not (eqb q backquote)) e)

pub text_behind : (q : ℕ) (xs : List ℕ) → q < 0x80 → WellFormed xs → TextAfter xs (tile_of q xs)
unfolding tile_of
text_behind q xs l w =
    let P : Option Piece → Type 0 = TextAfter xs in
    either P (eqb (peek_at xs 0) q) (λ e. tt)
    (λ e. either P (begins_escape q (peek_at xs 0)) (λ e. escape_text xs w (begins q (peek_at xs 0) e) q l) (λ e. plain_text_holds xs w))
