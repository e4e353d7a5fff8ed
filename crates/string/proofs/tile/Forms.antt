-- The escapes, by the byte behind the backslash, as the definition tells them apart.
use Prim.Native.Nat.{ℕ, ◌<◌, ◌≤◌}
use native.Mathlib.Omega.{arith}
use mathlib.Core.List.{List}
use Rattle.std.specs.Prelude.{None, Option, Some}
use mathlib.Core.Path.{◌≡◌, refl}
use lib.ListN.{length, get_or-eq_default}
use borrow.Author.Tests.{ne_eqb}
use Rattle.scan.specs.Byte.{end, peek_at, is_within, is_hex_digit, is_digit_in}
use Rattle.string.specs.declared.tile.Form.TheVariants.{Letter, Hex, Octal, Point}
use Rattle.string.specs.Letters.{looked_up, letter_value}
use Rattle.string.specs.Tile.{amount_from, lettered_or, numbered, escape_of, piece}
use Rattle.string.specs.declared.tile.Piece.{Piece}

-- a fact of each way that an escape goes on
pub by_letter : (P : Option Piece → Type 0) (o : Option ℕ) {other : Option Piece} → ((v : ℕ) → o ≡ Some v → P (piece Letter v 2)) → (o ≡ None → P other) → P (lettered_or o other)
by_letter P (Some v) f g = f v refl
by_letter P None f g = g refl

module _ (q : ℕ) (xs : List ℕ) where
  pub past_end : q < end → length xs ≤ 1 → None ≡ escape_of q xs
  unfolding escape_of letter_value looked_up numbered amount_from is_digit_in is_hex_digit is_within
  past_end h l = rw (get_or-eq_default xs end l, ne_eqb end q (λ e. omega arith))

  abbrev second : ℕ
  second = peek_at xs 1

  pub letter : (v : ℕ) → letter_value q second ≡ Some v → piece Letter v 2 ≡ escape_of q xs
  unfolding escape_of
  letter v e = rw e

  module _ (v : letter_value q second ≡ None) where
    pub hex : second ≡ 120 → numbered Hex 16 2 2 xs ≡ escape_of q xs
    unfolding escape_of
    hex e = rw (v, e)

    pub short : second ≡ 117 → numbered Point 16 2 4 xs ≡ escape_of q xs
    unfolding escape_of
    short e = rw (v, e)

    pub long : second ≡ 85 → numbered Point 16 2 8 xs ≡ escape_of q xs
    unfolding escape_of
    long e = rw (v, e)

    pub octal : (second ≡ 120 → ⊥) → (second ≡ 117 → ⊥) → (second ≡ 85 → ⊥) → numbered Octal 8 1 3 xs ≡ escape_of q xs
    unfolding escape_of
    octal x u l = rw (v, ne_eqb second 120 x, ne_eqb second 117 u, ne_eqb second 85 l)
