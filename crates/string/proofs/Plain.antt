-- A content without escapes stands for itself: each of its characters is a tile, which gives the character's bytes, unless it is the sign.
-- The sign and the backslash are ASCII, so neither stands inside a longer character.
use Prim.Native.Nat.{ℕ, suc, ◌+◌, ◌<◌, ◌≤◌}
use native.Mathlib.Omega.{arith}
use native.Mathlib.Decide.{dec_lt, ℕ_discrete}
use mathlib.Core.Bool.{Bool, true, false, ◌&&◌, ◌||◌, not, and-or_distrib_left, true≢false}
use mathlib.Core.List.{List, [], ◌∷◌, ◌++◌}
use mathlib.Core.Path.{◌≡◌, refl, sym, ap, ◌∙◌}
use lib.Dec.{eqb}
use lib.ListN.{length, length-append, get_or-append}
use lib.Seq.{drop-append_seam}
use borrow.Author.Tests.{eq-eqb, ne_eqb}
use Rattle.scan.specs.Text.{has}
use Rattle.scan.specs.Byte.{end, peek_at, backslash, backquote}
use Rattle.utf8.specs.declared.Reading.{Reading}
use Rattle.utf8.specs.declared.Reading.TheVariants.{Crate, Documented}
use Rattle.utf8.specs.Code.{code_of}
use Rattle.utf8.specs.Text.{WellFormed}
use Rattle.utf8.specs.laws.Characters.{One}
use Rattle.utf8.proofs.Texts.{character_one, by_characters}
use Rattle.utf8.proofs.Laws.{none_empty, rest_well, none_ascii}
use Rattle.string.specs.declared.tile.Form.TheVariants.{Plain}
use Rattle.string.specs.Tile.{begins_escape, tile_of, piece}
use Rattle.string.specs.Tiles.{tiles_of, has_bad, good_size, gives_byte, piece_bytes, bytes_of}
use Rattle.string.specs.Literal.{first_of, has_escape}
use Rattle.string.proofs.escape.Escapes.{back}
use Rattle.string.proofs.Contents.{tiles_none, first_piece, first_bad}
use Rattle.std.specs.Prelude.{None}

-- a character as it is gives its bytes in both readings
as_it_is : (r : Reading) → gives_byte r Plain ≡ false
as_it_is Crate = refl
as_it_is Documented = refl

-- one character that is neither the sign nor begins an escape, and what follows it
module _ (q : ℕ) (h : q < 0x80) (bs ys : List ℕ) (o : One bs) where
  first : peek_at (bs ++ ys) 0 ≡ peek_at bs 0
  first = get_or-append bs ys end 0 o.some

  some : 0 < length (bs ++ ys)
  some = omega (arith, length-append bs ys, o.some)

  sign_bad : peek_at bs 0 ≡ q → (has_bad (tiles_of q (bs ++ ys)) ≡ true) × (good_size (tiles_of q (bs ++ ys)) ≡ 0)
  sign_bad e = first_bad q h (bs ++ ys) some (tile (first ∙ e))
    where
      tile : peek_at (bs ++ ys) 0 ≡ q → tile_of q (bs ++ ys) ≡ None
      tile e = unfold tile_of in rw (eq-eqb (peek_at (bs ++ ys) 0) q e)

  module _ (n : peek_at bs 0 ≡ q → ⊥) (e : begins_escape q (peek_at bs 0) ≡ false) where
    plain_tile : tile_of q (bs ++ ys) ≡ piece Plain (code_of (length bs) bs) (length bs)
    unfolding tile_of
    plain_tile = rw (first, ne_eqb (peek_at bs 0) q n, e, character_one bs ys o)

    plain_tiles : tiles_of q (bs ++ ys) ≡ piece Plain (code_of (length bs) bs) (length bs) ∷ tiles_of q ys
    plain_tiles = first_piece q h (bs ++ ys) Plain (code_of (length bs) bs) (length bs) some plain_tile ∙ rw (drop-append_seam bs ys)

    pub plain_bad : has_bad (tiles_of q (bs ++ ys)) ≡ has_bad (tiles_of q ys)
    unfolding has_bad
    plain_bad = rw plain_tiles

    plain_good : good_size (tiles_of q (bs ++ ys)) ≡ length bs + good_size (tiles_of q ys)
    unfolding good_size
    plain_good = rw plain_tiles

    pub plain_bytes : (r : Reading) → bytes_of r (tiles_of q (bs ++ ys)) ≡ bs ++ bytes_of r (tiles_of q ys)
    unfolding bytes_of piece_bytes
    plain_bytes r = rw (plain_tiles, as_it_is r, back bs o)

pub neither : (a b : Bool) → a || b ≡ false → (a ≡ false) × (b ≡ false)
neither true b e = absurd (true≢false e)
neither false b e = (refl, e)

-- where a byte stands in joined lists
pub has_join : (c : ℕ) (xs ys : List ℕ) → has c (xs ++ ys) ≡ has c xs || has c ys
unfolding has
has_join c [] ys = refl
has_join c (x ∷ xs) ys = go (eqb x c) (has_join c xs ys)
  where
    go : (t : Bool) → has c (xs ++ ys) ≡ has c xs || has c ys → t || has c (xs ++ ys) ≡ (t || has c xs) || has c ys
    go true e = refl
    go false e = e

has_high : (c : ℕ) → c < 0x80 → (xs : List ℕ) → ((i : ℕ) → i < length xs → 0x80 ≤ peek_at xs i) → has c xs ≡ false
unfolding has
has_high c h [] l = refl
has_high c h (x ∷ xs) l = rw (ne_eqb x c (λ e. omega (arith, l 0 (omega arith)))) (has_high c h xs (λ i m. l (suc i) (omega arith)))

-- an ASCII byte that a character does not begin with does not stand in it
pub has_not : (c : ℕ) → c < 0x80 → (bs : List ℕ) → One bs → (peek_at bs 0 ≡ c → ⊥) → has c bs ≡ false
has_not c h bs o n = go bs o n (dec_lt 1 (length bs))
  where
    go : (bs : List ℕ) → One bs → (peek_at bs 0 ≡ c → ⊥) → Dec (1 < length bs) → has c bs ≡ false
    go bs o n (yes l) = has_high c h bs (λ i m. none_ascii bs i (omega (arith, o.whole)) (omega (arith, o.whole)))
    go [] o n (no l) = let f : ⊥ = omega (arith, o.some) in absurd f
    go (b ∷ []) o n (no l) = unfold has in rw (ne_eqb b c n)
    go (b ∷ b₂ ∷ bs) o n (no l) = let f : ⊥ = omega arith in absurd f

-- a byte that does not stand in a list first stands behind it
first_behind : (c : ℕ) (xs ys : List ℕ) → has c xs ≡ false → first_of c (xs ++ ys) ≡ length xs + first_of c ys
unfolding has first_of
first_behind c [] ys n = omega arith
first_behind c (x ∷ xs) ys n =
    let b = neither (eqb x c) (has c xs) n in
    rw b.0 (omega (arith, first_behind c xs ys b.1))

-- an escape stands in joined contents where it stands in one of them, and where a byte begins one
escape_join : (q : ℕ) (xs ys : List ℕ) → has_escape q (xs ++ ys) ≡ has_escape q xs || has_escape q ys
unfolding has_escape
escape_join q xs ys = rw (has_join backslash xs ys) (and-or_distrib_left (not (eqb q backquote)) (has backslash xs) (has backslash ys))

escape_begun : (q x : ℕ) (xs : List ℕ) → begins_escape q x ≡ true → has_escape q (x ∷ xs) ≡ true
unfolding has_escape begins_escape has
escape_begun q x xs = go (eqb x backslash) (not (eqb q backquote))
  where
    go : (s t : Bool) → s && t ≡ true → t && (s || has backslash xs) ≡ true
    go true true e = refl
    go true false e = e
    go false t e = absurd (true≢false (sym e))

module _ (q : ℕ) (h : q < 0x80) (r : Reading) where
  abbrev Unescaped : List ℕ → Type 0
  Unescaped ys = WellFormed ys → has_escape q ys ≡ false → (has_bad (tiles_of q ys) ≡ has q ys) × (good_size (tiles_of q ys) ≡ first_of q ys) × (has q ys ≡ false → bytes_of r (tiles_of q ys) ≡ ys)

  at_end : Unescaped []
  unfolding has_bad good_size bytes_of has first_of
  at_end w e = rw (tiles_none q) (refl, refl, λ n. refl)

  more : (bs ys : List ℕ) → One bs → Unescaped ys → Unescaped (bs ++ ys)
  more [] ys o ih w e = let f : ⊥ = omega (arith, o.some) in absurd f
  more (b ∷ bs) ys o ih w e = go (ℕ_discrete b q) (begins_escape q b) refl
    where
      parts : (has_escape q (b ∷ bs) ≡ false) × (has_escape q ys ≡ false)
      parts = neither (has_escape q (b ∷ bs)) (has_escape q ys) (sym (escape_join q (b ∷ bs) ys) ∙ e)

      go : Dec (b ≡ q) → (t : Bool) → begins_escape q b ≡ t → (has_bad (tiles_of q (b ∷ bs ++ ys)) ≡ has q (b ∷ bs ++ ys)) × (good_size (tiles_of q (b ∷ bs ++ ys)) ≡ first_of q (b ∷ bs ++ ys)) × (has q (b ∷ bs ++ ys) ≡ false → bytes_of r (tiles_of q (b ∷ bs ++ ys)) ≡ b ∷ bs ++ ys)
      go (yes s) t u =
          let a : has q (b ∷ bs ++ ys) ≡ true = unfold has in rw (eq-eqb b q s) in
          let f : first_of q (b ∷ bs ++ ys) ≡ 0 = unfold first_of in rw (eq-eqb b q s) in
          let z = sign_bad q h (b ∷ bs) ys o s in
          (z.0 ∙ sym a, z.1 ∙ sym f, λ n. absurd (true≢false (sym a ∙ n)))
      go (no s) true u = absurd (true≢false (sym (escape_begun q b bs u) ∙ parts.0))
      go (no s) false u =
          let i = ih (rest_well (b ∷ bs) ys o w) parts.1 in
          let none = has_not q h (b ∷ bs) o s in
          let a : has q (b ∷ bs ++ ys) ≡ has q ys = has_join q (b ∷ bs) ys ∙ rw none in (
            plain_bad q h (b ∷ bs) ys o s u ∙ i.0 ∙ sym a,
            omega (arith, plain_good q h (b ∷ bs) ys o s u, i.1, first_behind q (b ∷ bs) ys none),
            λ n. plain_bytes q h (b ∷ bs) ys o s u r ∙ ap (λ (t : List ℕ). b ∷ bs ++ t) (i.2 (sym a ∙ n)),
          )

  pub unescaped : (ys : List ℕ) → Unescaped ys
  unescaped = by_characters Unescaped (λ xs e w. rw (none_empty xs e w) (at_end (rw (none_empty xs e w) at w))) more
