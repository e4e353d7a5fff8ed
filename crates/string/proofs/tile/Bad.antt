-- When a tile is bad. An escape that stands there is read, whichever it is; and what is not read is none of them, since the definition tries
-- each. An escape by `x` or digits needs no bound of its own: two digits of 16 are at most 255.
use Prim.Native.Nat.{ℕ, ◌+◌, ◌<◌, ◌≤◌}
use native.Mathlib.Omega.{arith}
use native.Mathlib.Decide.{ℕ_discrete}
use mathlib.Core.Bool.{Bool, true, false, true≢false}
use mathlib.Core.List.{List}
use mathlib.Core.Logic.{◌⊎◌, inl, inr}
use Rattle.std.specs.Prelude.{None, Option, Some, is_some}
use mathlib.Core.Path.{◌≡◌, refl, sym, ap, subst, ◌∙◌}
use lib.Dec.{eqb}
use borrow.Author.Tests.{le-leb, eq-eqb, ne_eqb, eqb-true, leb-true}
use Rattle.scan.specs.Byte.{peek_at, backslash, is_within, is_hex_digit, digit_of, is_digit_in, backquote}
use Rattle.proving.proofs.Choice.{either}
use Rattle.proving.proofs.Tests.{Tests, denied, tests_and, tests_not, tests_eq}
use Rattle.utf8.specs.Table.{char_length}
use Rattle.utf8.specs.Code.{is_scalar}
use Rattle.utf8.specs.declared.Character.TheVariants.{Nothing, IllFormed}
use Rattle.utf8.specs.Answers.{character_at}
use Rattle.utf8.proofs.Bounds.{first_character}
use Rattle.string.specs.declared.tile.Form.{Form}
use Rattle.string.specs.declared.tile.Form.TheVariants.{Letter, Hex, Octal, Point}
use Rattle.string.specs.Letters.{letter_value}
use Rattle.string.specs.Tile.{amount_from, is_allowed, numbered_as, numbered, escape_of, begins_escape, plain_of, tile_of, piece}
use Rattle.string.specs.laws.Tile.{AmountTo, IsEscape, EscapeBegun, BadWhen}
use Rattle.string.proofs.tile.Digits.{here, digits_small}
use Rattle.string.proofs.tile.Letters.{letter_some, letter_told}
use Rattle.string.proofs.tile.Forms as forms
use Rattle.string.specs.declared.tile.Piece.{Piece}

abbrev Good : Option Piece → Type 0
Good t = t ≡ None → ⊥

piece_good : {t : Option Piece} (f : Form) (v n : ℕ) → piece f v n ≡ t → Good t
piece_good f v n e b = cc

-- an escape by digits is bad exactly where there are none, or none that it may have
module _ (f : Form) (radix at n : ℕ) (xs : List ℕ) where
  numbered_good : (v : ℕ) → AmountTo radix at n xs v → is_allowed f v ≡ true → Good (numbered f radix at n xs)
  numbered_good v d a = piece_good f v (at + n) (unfold numbered in rw (d, a))

  numbered_bad : ((v : ℕ) → AmountTo radix at n xs v → is_allowed f v ≡ true → ⊥) → numbered f radix at n xs ≡ None
  unfolding numbered
  numbered_bad never = go (amount_from radix 0 n at xs) refl
    where
      go : (m : Option ℕ) → amount_from radix 0 n at xs ≡ m → numbered_as f (at + n) m ≡ None
      go (Some v) e = either (λ (t : Option Piece). t ≡ None) (is_allowed f v) (λ a. absurd (never v e a)) (λ a. refl)
      go None e = refl

byte_allowed : (v : ℕ) → v ≤ 0xff → (is_allowed Hex v ≡ true) × (is_allowed Octal v ≡ true)
unfolding is_allowed
byte_allowed v h = (le-leb v 0xff h, le-leb v 0xff h)

octal_small : (v : ℕ) → is_allowed Octal v ≡ true → v ≤ 0xff
unfolding is_allowed
octal_small v a = leb-true v 0xff a

point_allowed : (v : ℕ) → is_allowed Point v ≡ is_scalar v
unfolding is_allowed
point_allowed v = refl

-- the letters that say how many digits follow are no octal digits
no_octal : (c : ℕ) → is_digit_in 8 c ≡ true → (c ≡ 120 → ⊥) × (c ≡ 117 → ⊥) × (c ≡ 85 → ⊥)
unfolding is_digit_in is_hex_digit is_within digit_of
no_octal c d = ((λ e. true≢false (sym d ∙ rw e)), (λ e. true≢false (sym d ∙ rw e)), λ e. true≢false (sym d ∙ rw e))

module _ (q : ℕ) (h : 0 < q) (xs : List ℕ) where
  abbrev c : ℕ
  c = peek_at xs 1

  -- every escape is read
  read : IsEscape q xs → Good (escape_of q xs)
  read i = go (letter_value q c) refl i
    where
      go : (o : Option ℕ) → letter_value q c ≡ o → IsEscape q xs → Good (escape_of q xs)
      go (Some w) v i = piece_good Letter w 2 (forms.letter q xs w v)
      go None v (inl n) = absurd (true≢false (sym (letter_some q c h n) ∙ ap is_some v))
      go None v (inr (inl (e, (w, d)))) = subst Good (forms.hex q xs v e) (numbered_good Hex 16 2 2 xs w d (byte_allowed w (omega (arith, digits_small 16 xs (omega arith) 2 0 0 2 w (omega arith) d))).0)
      go None v (inr (inr (inl (w, d, h)))) =
          let o = no_octal c (here 8 xs 2 0 1 w d) in
          subst Good (forms.octal q xs v o.0 o.1 o.2) (numbered_good Octal 8 1 3 xs w d (byte_allowed w h).1)
      go None v (inr (inr (inr (inl (e, (w, d, s)))))) = subst Good (forms.short q xs v e) (numbered_good Point 16 2 4 xs w d (point_allowed w ∙ s))
      go None v (inr (inr (inr (inr (e, (w, d, s)))))) = subst Good (forms.long q xs v e) (numbered_good Point 16 2 8 xs w d (point_allowed w ∙ s))

  -- and nothing else is
  unread : (IsEscape q xs → ⊥) → escape_of q xs ≡ None
  unfolding escape_of
  unread n =
      let P : Option Piece → Type 0 = λ t. t ≡ None in
      forms.by_letter P (letter_value q c) (λ v e. absurd (n (inl (letter_told q c v e))))
      (λ e. either P (eqb c 120) (λ e. numbered_bad Hex 16 2 2 xs (λ v d a. n (inr (inl (eqb-true c 120 e, (v, d))))))
      (λ e. either P (eqb c 117) (λ e. numbered_bad Point 16 2 4 xs (λ v d a. n (inr (inr (inr (inl (eqb-true c 117 e, (v, d, sym (point_allowed v) ∙ a))))))))
      (λ e. either P (eqb c 85) (λ e. numbered_bad Point 16 2 8 xs (λ v d a. n (inr (inr (inr (inr (eqb-true c 85 e, (v, d, sym (point_allowed v) ∙ a))))))))
      (λ e. numbered_bad Octal 8 1 3 xs (λ v d a. n (inr (inr (inl (v, d, octal_small v a)))))))))

-- a character is read where one begins
module _ (xs : List ℕ) where
  plain_told : plain_of (character_at xs 0) ≡ None → char_length xs ≡ 0
  plain_told b = go (ℕ_discrete (char_length xs) 0)
    where
      go : Dec (char_length xs ≡ 0) → char_length xs ≡ 0
      go (yes z) = z
      go (no z) = let y : ⊥ = cc (b, ap plain_of ((first_character xs).0 (omega arith))) in absurd y

  pub plain_none : char_length xs ≡ 0 → plain_of (character_at xs 0) ≡ None
  plain_none z = go ((first_character xs).1 z)
    where
      go : (character_at xs 0 ≡ Nothing) ⊎ (character_at xs 0 ≡ IllFormed) → plain_of (character_at xs 0) ≡ None
      go (inl e) = ap plain_of e
      go (inr e) = ap plain_of e

-- the first byte decides
module _ (q : ℕ) (xs : List ℕ) where
  abbrev first : ℕ
  first = peek_at xs 0

  abbrev Why : Type 0
  Why = (first ≡ q) ⊎ ((EscapeBegun q xs × (IsEscape q xs → ⊥)) ⊎ ((EscapeBegun q xs → ⊥) × (char_length xs ≡ 0)))

  tests_begun : Tests (begins_escape q first) (EscapeBegun q xs)
  unfolding begins_escape
  tests_begun = tests_and (tests_eq first backslash) (tests_not (tests_eq q backquote))

  module _ (h : 0 < q) where
    why : Dec (first ≡ q) → (t : Bool) → begins_escape q first ≡ t → tile_of q xs ≡ None → Why
    unfolding tile_of
    why (yes s) t u e = inl s
    why (no s) true u e =
        let b : escape_of q xs ≡ None = rw (ne_eqb first q s, u) at e in inr (inl (tests_begun.0 u, λ i. read q h xs i b))
    why (no s) false u e =
        let b : plain_of (character_at xs 0) ≡ None = rw (ne_eqb first q s, u) at e in
        inr (inr (denied tests_begun u, plain_told xs b))

    bad : Dec (first ≡ q) → (t : Bool) → begins_escape q first ≡ t → Why → tile_of q xs ≡ None
    unfolding tile_of
    bad (yes s) t u w = rw (eq-eqb first q s)
    bad (no s) t u (inl e) = absurd (s e)
    bad (no s) t u (inr (inl (b, n))) = rw (ne_eqb first q s, tests_begun.1 b) (unread q h xs n)
    bad (no s) true u (inr (inr (n, z))) = absurd (n (tests_begun.0 u))
    bad (no s) false u (inr (inr (n, z))) = rw (ne_eqb first q s, u) (plain_none xs z)

pub bad_when : BadWhen
bad_when q xs h =
    let d = ℕ_discrete (peek_at xs 0) q in
    (why q xs h d (begins_escape q (peek_at xs 0)) refl, bad q xs h d (begins_escape q (peek_at xs 0)) refl)
