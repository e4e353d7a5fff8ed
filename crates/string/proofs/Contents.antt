-- Laws of the tiles of a content, from a place on: the first of them, and those from behind it on. A tile takes some of the bytes that are
-- there and gives no more than it takes (`each_fair`), so both passes end, and what they count fits.
use Prim.Native.Nat.{ℕ, zero, suc, pred, ◌+◌, ◌-◌, ◌<◌, ◌≤◌}
use native.Mathlib.Omega.{arith}
use mathlib.Core.Bool.{Bool, true, false, cond, ◌&&◌, ◌||◌, not, true≢false}
use mathlib.Core.List.{List, [], ◌∷◌, ◌++◌}
use mathlib.Core.Path.{◌≡◌, refl, sym, ap, subst, ◌∙◌}
use lib.ListN.{length, drop, length-drop, length-append}
use lib.Seq.{drop-drop}
use lib.Dec.{eqb, leb}
use borrow.Author.Tests.{leb-true, not-true}
use Rattle.proving.proofs.Choice.{either, and_left, and_right}
use Rattle.scan.specs.Byte.{peek_at, backslash}
use Rattle.utf8.specs.declared.Reading.{Reading}
use Rattle.utf8.specs.Code.{encoded}
use Rattle.utf8.proofs.Ascii.{ascii_bytes}
use Rattle.utf8.proofs.Bounds.{ascii_at}
use Rattle.string.specs.declared.tile.Form.{Form}
use Rattle.string.specs.declared.tile.Form.TheVariants.{Plain}
use Rattle.string.specs.Tile.{begins_escape, tile_of, piece}
use Rattle.string.proofs.tile.Tiles.{Fair, FairTile, each_fair}
use Rattle.string.specs.Tiles.{tile_size, tiles_past, tiles_of, is_bad, has_bad, good_size, gives_byte, piece_bytes, tile_bytes, bytes_of}
use Rattle.string.specs.steps.Measure.{is_plain, GivesOne, is_single}
use Rattle.std.specs.Prelude.{None, Option, Some}
use Rattle.string.specs.declared.tile.Piece.{Piece}

piece_few : (r : Reading) {room : ℕ} {f : Form} {v n : ℕ} → Fair room f v n → length (piece_bytes r f v) ≤ n
unfolding piece_bytes
piece_few r {f = f} {n = n} a = either (λ (bs : List ℕ). length bs ≤ n) (gives_byte r f) (λ t. omega (arith, a.some)) (λ t. a.few)

-- what one tile gives
module _ (r : Reading) (f : Form) (v : ℕ) where
  pub single : is_single r f v ≡ true → piece_bytes r f v ≡ v ∷ []
  unfolding is_single piece_bytes
  single = go (leb v 0x7f) refl (gives_byte r f)
    where
      go : (s : Bool) → leb v 0x7f ≡ s → (t : Bool) → s || t ≡ true → cond t (v ∷ []) (encoded v) ≡ v ∷ []
      go true a true e = refl
      go true a false e = let h : v ≤ 0x7f = leb-true v 0x7f a in ascii_bytes v (omega arith)
      go false a true e = refl
      go false a false e = absurd (true≢false (sym e))

  pub several : is_single r f v ≡ false → piece_bytes r f v ≡ encoded v
  unfolding is_single piece_bytes
  several = go (leb v 0x7f) (gives_byte r f)
    where
      go : (s t : Bool) → s || t ≡ false → cond t (v ∷ []) (encoded v) ≡ encoded v
      go true t e = absurd (true≢false e)
      go false true e = absurd (true≢false e)
      go false false e = refl

tiles_past_holds : (q k : ℕ) (xs : List ℕ) → tiles_past q k xs ≡ tiles_of q (drop k xs)
unfolding tiles_past
tiles_past_holds q zero [] = refl
tiles_past_holds q (suc k) [] = refl
tiles_past_holds q zero (x ∷ xs) = refl
tiles_past_holds q (suc k) (x ∷ xs) = tiles_past_holds q k xs

pub tiles_none : (q : ℕ) → tiles_of q [] ≡ []
unfolding tiles_past
tiles_none q = refl

-- a plain byte is a tile by itself, and gives itself
module _ (q c : ℕ) (p : is_plain q c ≡ true) where
  others : not (eqb c q) && leb c 0x7f ≡ true
  unfolding is_plain
  others = and_right (not (eqb c backslash)) (not (eqb c q) && leb c 0x7f) p

  no_sign : eqb c q ≡ false
  no_sign = not-true (eqb c q) (and_left (not (eqb c q)) (leb c 0x7f) others)

  no_escape : begins_escape q c ≡ false
  unfolding is_plain begins_escape
  no_escape = rw (not-true (eqb c backslash) (and_left (not (eqb c backslash)) (not (eqb c q) && leb c 0x7f) p))

  ascii : c ≤ 0x7f
  ascii = leb-true c 0x7f (and_right (not (eqb c q)) (leb c 0x7f) others)

  pub plain_one : (xs : List ℕ) → peek_at xs 0 ≡ c → GivesOne q xs c 1
  plain_one xs e = (Plain, tile, ascii)
    where
      tile : tile_of q xs ≡ piece Plain c 1
      tile = unfold tile_of in rw (ascii_at xs 0 (omega (arith, e, ascii)), e, no_sign, no_escape)

module _ (q : ℕ) (h : q < 0x80) where
  -- the first tile, and those behind it
  pub tiles_some : (xs : List ℕ) → 0 < length xs → tiles_of q xs ≡ tile_of q xs ∷ tiles_of q (drop (tile_size (tile_of q xs)) xs)
  unfolding tiles_past
  tiles_some [] l = let f : ⊥ = omega arith in absurd f
  tiles_some (x ∷ xs) l = ap (λ (ts : List (Option Piece)). tile_of q (x ∷ xs) ∷ ts) (behind (tile_of q (x ∷ xs)) (each_fair q (x ∷ xs) h))
    where
      past : (n : ℕ) → 0 < n → tiles_past q (pred n) xs ≡ tiles_of q (drop n (x ∷ xs))
      past zero z = let f : ⊥ = omega arith in absurd f
      past (suc n) z = tiles_past_holds q n xs

      behind : (t : Option Piece) → FairTile (length (x ∷ xs)) t → tiles_past q (pred (tile_size t)) xs ≡ tiles_of q (drop (tile_size t) (x ∷ xs))
      behind (Some p) a = past p.size a.some
      behind None a = past 1 (omega arith)

  pub first_piece : (xs : List ℕ) (f : Form) (v n : ℕ) → 0 < length xs → tile_of q xs ≡ piece f v n → tiles_of q xs ≡ piece f v n ∷ tiles_of q (drop n xs)
  first_piece xs f v n l e = tiles_some xs l ∙ rw e

  pub first_bad : (xs : List ℕ) → 0 < length xs → tile_of q xs ≡ None → (has_bad (tiles_of q xs) ≡ true) × (good_size (tiles_of q xs) ≡ 0)
  unfolding has_bad good_size
  first_bad xs l e = rw (tiles_some xs l, e) (refl, refl)

  -- from a place of a content on
  module _ (ys : List ℕ) (at : ℕ) (l : at < length ys) where
    abbrev rest : List ℕ
    rest = drop at ys

    left : 0 < length rest
    left = omega (arith, length-drop at ys)

    pub bad_here : tile_of q rest ≡ None → (has_bad (tiles_of q rest) ≡ true) × (good_size (tiles_of q rest) ≡ 0)
    bad_here e = first_bad rest left e

    module _ (f : Form) (v n : ℕ) (e : tile_of q rest ≡ piece f v n) where
      pub fair : Fair (length ys - at) f v n
      fair = let p = subst (FairTile (length rest)) e (each_fair q rest h) in rw (length-drop at ys) at p

      tiles_here : tiles_of q rest ≡ piece f v n ∷ tiles_of q (drop (at + n) ys)
      tiles_here = first_piece rest f v n left e ∙ rw drop-drop

      pub bad_behind : has_bad (tiles_of q rest) ≡ has_bad (tiles_of q (drop (at + n) ys))
      unfolding has_bad
      bad_behind = rw tiles_here

      pub good_behind : good_size (tiles_of q rest) ≡ n + good_size (tiles_of q (drop (at + n) ys))
      unfolding good_size
      good_behind = rw tiles_here

      pub bytes_here : (r : Reading) → bytes_of r (tiles_of q rest) ≡ piece_bytes r f v ++ bytes_of r (tiles_of q (drop (at + n) ys))
      unfolding bytes_of
      bytes_here r = rw tiles_here

      pub few : (r : Reading) → length (piece_bytes r f v) ≤ n
      few r = piece_few r fair

-- what holds of no bytes, and of bytes where it holds of those behind their first tile, holds of any
module _ (q : ℕ) (h : q < 0x80) where
  tile_moves : (room : ℕ) (t : Option Piece) → 0 < room → FairTile room t → (0 < tile_size t) × (tile_size t ≤ room)
  tile_moves room (Some p) l a = (a.some, a.within)
  tile_moves room None l a = (omega arith, omega arith)

  -- the first tile of some bytes has a byte at least, and no more than there are
  pub first_moves : (ys : List ℕ) → 0 < length ys → let t = tile_of q ys in (0 < tile_size t) × (tile_size t ≤ length ys)
  first_moves ys l = tile_moves (length ys) (tile_of q ys) l (each_fair q ys h)

  module _ (P : List ℕ → Type 0) (none : P []) (some : (ys : List ℕ) → 0 < length ys → P (drop (tile_size (tile_of q ys)) ys) → P ys) where
    up_to : (m : ℕ) (ys : List ℕ) → length ys ≤ m → P ys
    up_to zero [] l = none
    up_to zero (y ∷ ys) l = let f : ⊥ = omega arith in absurd f
    up_to (suc m) ys l = go ys l (up_to m)
      where
        go : (ys : List ℕ) → length ys ≤ suc m → ((zs : List ℕ) → length zs ≤ m → P zs) → P ys
        go [] l ih = none
        go (y ∷ ys) l ih =
            let n = tile_size (tile_of q (y ∷ ys)) in
            some (y ∷ ys) (omega arith) (ih (drop n (y ∷ ys)) (omega (arith, length-drop n (y ∷ ys), first_moves (y ∷ ys) (omega arith))))

    pub by_tiles : (ys : List ℕ) → P ys
    by_tiles ys = up_to (length ys) ys (omega arith)

-- tiles give no more bytes than they have, and the good ones before a bad one have no more than there are
module _ (q : ℕ) (h : q < 0x80) where
  pub bytes_few : (r : Reading) (ys : List ℕ) → length (bytes_of r (tiles_of q ys)) ≤ length ys
  unfolding bytes_of
  bytes_few r =
      by_tiles q h (λ (ys : List ℕ). length (bytes_of r (tiles_of q ys)) ≤ length ys) (rw (tiles_none q) (omega arith))
      (λ ys l ih.
      let t = tile_of q ys in
      rw (tiles_some q h ys l)
      (omega (arith, length-append (tile_bytes r t) (bytes_of r (tiles_of q (drop (tile_size t) ys))), few (length ys) t l (each_fair q ys h), first_moves q h ys l, length-drop (tile_size t) ys, ih)))
    where
      few : (room : ℕ) (t : Option Piece) → 0 < room → FairTile room t → length (tile_bytes r t) ≤ tile_size t
      few room (Some p) l a = piece_few r a
      few room None l a = omega arith

  pub good_within : (ys : List ℕ) → good_size (tiles_of q ys) ≤ length ys
  unfolding good_size
  good_within =
      by_tiles q h (λ (ys : List ℕ). good_size (tiles_of q ys) ≤ length ys) (rw (tiles_none q) (omega arith))
      (λ ys l ih.
      let n = tile_size (tile_of q ys) in
      rw (tiles_some q h ys l)
      (either (λ (k : ℕ). k ≤ length ys) (is_bad (tile_of q ys)) (λ e. omega arith) (λ e. omega (arith, first_moves q h ys l, length-drop n ys, ih))))
