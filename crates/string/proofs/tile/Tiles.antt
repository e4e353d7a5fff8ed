-- Every tile is fair: a character is by what `utf8` says of one; a letter has one byte; and an escape by digits has as many bytes as digits
-- were read, and the letter before them, which makes four at least, where no code point has more.
use Prim.Native.Nat.{ℕ, suc, ◌+◌, ◌<◌, ◌≤◌}
use native.Mathlib.Omega.{arith}
use native.Mathlib.Decide.{dec_lt, ℕ_discrete}
use mathlib.Core.Bool.{true, true≢false}
use mathlib.Core.List.{List}
use mathlib.Core.Logic.{◌⊎◌, inl, inr}
use Rattle.std.specs.Prelude.{None, Option, Some, is_some}
use mathlib.Core.Path.{◌≡◌, refl, sym, ap, ◌∙◌}
use lib.Dec.{eqb}
use lib.ListN.{length, get_or-eq_default}
use lib.Seq.{length-take-le}
use borrow.Author.Tests.{ne_eqb}
use Rattle.scan.specs.Byte.{end, peek_at}
use Rattle.proving.proofs.Choice.{either}
use Rattle.utf8.specs.Table.{char_length}
use Rattle.utf8.specs.Code.{code_of, encoded}
use Rattle.utf8.specs.declared.Character.TheVariants.{Nothing, IllFormed}
use Rattle.utf8.specs.Answers.{character_at}
use Rattle.utf8.proofs.Laws.{steps}
use Rattle.utf8.proofs.Ascii.{ascii_bytes}
use Rattle.utf8.proofs.Bounds.{first_character, byte_scalar, encoded_bound}
use Rattle.utf8.proofs.Inverse.{decode_encode}
use Rattle.string.specs.declared.tile.Form.{Form}
use Rattle.string.specs.declared.tile.Form.TheVariants.{Plain, Letter, Hex, Octal, Point}
use Rattle.string.specs.Letters.{looked_up, letter_value}
use Rattle.string.specs.Tile.{amount_from, is_allowed, numbered_as, numbered, escape_of, begins_escape, plain_of, tile_of}
use Rattle.string.proofs.tile.Letters.{letter_small}
use Rattle.string.proofs.tile.Forms.{by_letter}
use Rattle.string.proofs.tile.Digits.{digits_within_text}
use Rattle.string.specs.declared.tile.Piece.{Piece}

-- a tile takes one byte at least, and no more than there are; its form may have its value, and has as many bytes as that character, or more
pub record Fair (room : ℕ) (form : Form) (value size : ℕ) : Type 0 where
  pub some : 0 < size
  pub within : size ≤ room
  pub allowed : is_allowed form value ≡ true
  pub few : length (encoded value) ≤ size

abbrev pub FairTile : ℕ → Option Piece → Type 0
FairTile room (Some p) = Fair room p.form p.value p.size
FairTile room None = Unit {0}

module _ (xs : List ℕ) where
  abbrev n : ℕ
  n = char_length xs

  character_fair : (n ≡ 0 → ⊥) → Fair (length xs) Plain (code_of n xs) n
  character_fair z =
      let d = decode_encode xs (omega arith) in
      let t = ap length d.1 ∙ length-take-le n xs (steps xs).0 in
      record { some = omega arith; within = (steps xs).0; allowed = unfold is_allowed in d.0; few = omega (arith, t) }

  plain_fair : FairTile (length xs) (plain_of (character_at xs 0))
  plain_fair = go (ℕ_discrete n 0)
    where
      none : (character_at xs 0 ≡ Nothing) ⊎ (character_at xs 0 ≡ IllFormed) → FairTile (length xs) (plain_of (character_at xs 0))
      none (inl e) = rw e tt
      none (inr e) = rw e tt

      go : Dec (n ≡ 0) → FairTile (length xs) (plain_of (character_at xs 0))
      go (yes e) = none ((first_character xs).1 e)
      go (no z) = rw ((first_character xs).0 (omega arith)) (character_fair z)

ascii_allowed : (v : ℕ) → v < 0x80 → is_allowed Letter v ≡ true
unfolding is_allowed
ascii_allowed v l = byte_scalar v (omega arith)

module _ (q : ℕ) (h : q < 0x80) where
  no_letter : letter_value q end ≡ None
  unfolding letter_value looked_up
  no_letter = rw (ne_eqb end q (λ e. omega arith))

  letter_fair : (xs : List ℕ) (v : ℕ) → letter_value q (peek_at xs 1) ≡ Some v → Fair (length xs) Letter v 2
  letter_fair xs v e =
      let l : v < 0x80 = omega (arith, letter_small q (peek_at xs 1) v h e) in
      record { some = omega arith; within = inside (dec_lt 1 (length xs)); allowed = ascii_allowed v l; few = omega (arith, ap length (ascii_bytes v l)) }
    where
      inside : Dec (1 < length xs) → 2 ≤ length xs
      inside (yes l) = omega arith
      inside (no l) =
          let z : None ≡ Some v = sym (ap (letter_value q) (get_or-eq_default xs end (omega arith)) ∙ no_letter) ∙ e in
          absurd (true≢false (sym (ap is_some z)))

numbered_fair : (f : Form) (radix at n : ℕ) (xs : List ℕ) → 4 ≤ at + suc n → FairTile (length xs) (numbered f radix at (suc n) xs)
unfolding numbered
numbered_fair f radix at n xs h = go (amount_from radix 0 (suc n) at xs) refl
  where
    go : (m : Option ℕ) → amount_from radix 0 (suc n) at xs ≡ m → FairTile (length xs) (numbered_as f (at + suc n) m)
    go (Some v) e =
        either (FairTile (length xs)) (is_allowed f v)
        (λ t. record { some = omega arith; within = digits_within_text radix xs n 0 at v e; allowed = t; few = omega (arith, encoded_bound v) })
        (λ t. tt)
    go None e = tt

-- every tile is such a one, where the sign is ASCII, as quote signs are
pub each_fair : (q : ℕ) (xs : List ℕ) → q < 0x80 → FairTile (length xs) (tile_of q xs)
unfolding tile_of escape_of
each_fair q xs h =
    let P : Option Piece → Type 0 = FairTile (length xs) in
    let c = peek_at xs 1 in
    either P (eqb (peek_at xs 0) q) (λ e. tt)
    (λ e. either P (begins_escape q (peek_at xs 0))
    (λ e. by_letter P (letter_value q c) (letter_fair q h xs)
    (λ e. either P (eqb c 120) (λ e. numbered_fair Hex 16 2 1 xs (omega arith))
    (λ e. either P (eqb c 117) (λ e. numbered_fair Point 16 2 3 xs (omega arith))
    (λ e. either P (eqb c 85) (λ e. numbered_fair Point 16 2 7 xs (omega arith))
    (λ e. numbered_fair Octal 8 1 2 xs (omega arith))))))
    (λ e. plain_fair xs))
