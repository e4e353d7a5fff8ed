-- How many bytes a good tile has: the definition says it of each form, and a character is as long as `utf8` says.
use Prim.Native.Nat.{ℕ, ◌+◌}
use native.Mathlib.Decide.{ℕ_discrete}
use native.Mathlib.Omega.{arith}
use mathlib.Core.List.{List}
use mathlib.Core.Logic.{◌⊎◌, inl, inr}
use mathlib.Core.Path.{◌≡◌, refl, subst}
use lib.Dec.{eqb}
use borrow.Author.Tests.{eqb-true}
use Rattle.scan.specs.Byte.{peek_at}
use Rattle.proving.proofs.Choice.{either}
use Rattle.utf8.specs.Table.{char_length}
use Rattle.utf8.specs.declared.Character.TheVariants.{Nothing, IllFormed}
use Rattle.utf8.specs.Answers.{character_at}
use Rattle.utf8.proofs.Bounds.{first_character}
use Rattle.string.specs.declared.tile.Form.{Form}
use Rattle.string.specs.declared.tile.Form.TheVariants.{Hex, Octal, Point}
use Rattle.string.specs.Letters.{letter_value}
use Rattle.string.specs.Tile.{amount_from, is_allowed, numbered_as, numbered, escape_of, begins_escape, plain_of, tile_of}
use Rattle.string.specs.laws.Tile.{SizedAs, PieceSized}
use Rattle.string.proofs.tile.Forms.{by_letter}
use Rattle.std.specs.Prelude.{None, Option, Some}
use Rattle.string.specs.declared.tile.Piece.{Piece}

abbrev Sized : List ℕ → Option Piece → Type 0
Sized xs (Some p) = SizedAs p.form xs p.size
Sized xs None = Unit {0}

module _ (xs : List ℕ) where
  numbered_sized : (f : Form) (radix at n : ℕ) → SizedAs f xs (at + n) → Sized xs (numbered f radix at n xs)
  unfolding numbered
  numbered_sized f radix at n s = go (amount_from radix 0 n at xs)
    where
      go : (m : Option ℕ) → Sized xs (numbered_as f (at + n) m)
      go (Some v) = either (Sized xs) (is_allowed f v) (λ t. s) (λ t. tt)
      go None = tt

  plain_sized : Sized xs (plain_of (character_at xs 0))
  plain_sized = go (ℕ_discrete (char_length xs) 0)
    where
      none : (character_at xs 0 ≡ Nothing) ⊎ (character_at xs 0 ≡ IllFormed) → Sized xs (plain_of (character_at xs 0))
      none (inl e) = rw e tt
      none (inr e) = rw e tt

      go : Dec (char_length xs ≡ 0) → Sized xs (plain_of (character_at xs 0))
      go (yes e) = none ((first_character xs).1 e)
      go (no z) = rw ((first_character xs).0 (omega arith)) refl

  tile_sized : (q : ℕ) → Sized xs (tile_of q xs)
  unfolding tile_of escape_of
  tile_sized q =
      let P : Option Piece → Type 0 = Sized xs in
      let c = peek_at xs 1 in
      either P (eqb (peek_at xs 0) q) (λ e. tt)
      (λ e. either P (begins_escape q (peek_at xs 0))
      (λ e. by_letter P (letter_value q c) (λ v e. refl)
      (λ e. either P (eqb c 120) (λ e. numbered_sized Hex 16 2 2 refl)
      (λ e. either P (eqb c 117) (λ e. numbered_sized Point 16 2 4 (inl (eqb-true c 117 e, refl)))
      (λ e. either P (eqb c 85) (λ e. numbered_sized Point 16 2 8 (inr (eqb-true c 85 e, refl)))
      (λ e. numbered_sized Octal 8 1 3 refl)))))
      (λ e. plain_sized))

pub piece_sized : PieceSized
piece_sized q xs f v n e = subst (Sized xs) e (tile_sized xs q)
