-- What a pass over the tiles of a content has passed, of which both passes go on by a tile: what the tiles from here on give, and n, is what all
-- of them give; one from here on is bad exactly where one is; and the good ones before it begin the content.
use Rattle.std.proofs.Common.{ℕ, ◌+◌, ◌<◌, ◌≤◌, Bool, true, false, cond, List, [], ◌∷◌, ◌≡◌, refl, ap, ◌∙◌, length, drop, length-append, Option, None, Ok, Err, arith}
use Rattle.std.proofs.lemmas.List.Edits.{sets}
use lib.ListN.{drop_of_length-le}
use borrow.Author.Tests.{le-leb}
use Rattle.proving.proofs.Stores.{sets_join}
use Rattle.utf8.specs.declared.Reading.{Reading}
use Rattle.string.specs.declared.tile.Form.{Form}
use Rattle.string.specs.declared.tile.Piece.{Piece}
use Rattle.string.specs.Tile.{piece, is_allowed, tile_of}
use Rattle.string.specs.Tiles.{tiles_of, has_bad, good_size, piece_bytes, bytes_of}
use Rattle.string.specs.steps.Measure.{GivesOne, is_single, tiles_extent}
use Rattle.string.proofs.Contents as contents

module _ (r : Reading) (q : ℕ) (ys : List ℕ) where
  abbrev all : List (Option Piece)
  all = tiles_of q ys

  abbrev rest : ℕ → List (Option Piece)
  rest at = tiles_of q (drop at ys)

  pub record Passed (at n : ℕ) : Type 0 where
    pub within : at ≤ length ys
    pub few : n ≤ at
    pub bad : has_bad all ≡ has_bad (rest at)
    pub good : good_size all ≡ at + good_size (rest at)
    pub long : n + length (bytes_of r (rest at)) ≡ length (bytes_of r all)

  pub passed_none : Passed 0 0
  passed_none = record { within = omega arith; few = omega arith; bad = refl; good = omega arith; long = omega arith }

  -- a tile of some bytes that gives some
  pub record Turn (at n size : ℕ) (given : List ℕ) : Type 0 where
    pub some : 0 < size
    pub passed : Passed (at + size) (n + length given)
    pub left : (d : List ℕ) → sets d n (bytes_of r (rest at)) ≡ sets (sets d n given) (n + length given) (bytes_of r (rest (at + size)))

  pub passed_all : (at n : ℕ) → Passed at n → length ys ≤ at → (Ok n ≡ tiles_extent r all) × ((d : List ℕ) → sets d n (bytes_of r (rest at)) ≡ d)
  unfolding tiles_extent has_bad bytes_of
  passed_all at n p l =
      let e : rest at ≡ [] = ap (tiles_of q) (drop_of_length-le ys l) ∙ contents.tiles_none q in
      let k : n ≡ length (bytes_of r all) = let z = rw e at p.long in omega arith in
      let b : has_bad all ≡ false = let z = rw e at p.bad in z in
      (rw (b, ← k), λ d. rw e)

  module _ (h : q < 0x80) (at n : ℕ) (p : Passed at n) (l : at < length ys) where
    pub passed_bad : tile_of q (drop at ys) ≡ None → (Err at ≡ tiles_extent r all) × (has_bad all ≡ true)
    unfolding tiles_extent
    passed_bad e =
        let b = contents.bad_here q h ys at l e in
        let t : has_bad all ≡ true = p.bad ∙ b.0 in
        let k : good_size all ≡ at = omega (arith, p.good, b.1) in
        (rw (t, k), t)

    pub turn : (f : Form) (v size : ℕ) → tile_of q (drop at ys) ≡ piece f v size → Turn at n size (piece_bytes r f v) × (is_allowed f v ≡ true)
    turn f v size e =
        let a = contents.fair q h ys at l f v size e in
        let k = contents.bytes_here q h ys at l f v size e r in
        let long = ap length k ∙ length-append (piece_bytes r f v) (bytes_of r (rest (at + size))) in (
          record {
            some = a.some;
            passed = record {
              within = omega (arith, a.within);
              few = omega (arith, p.few, contents.few q h ys at l f v size e r);
              bad = p.bad ∙ contents.bad_behind q h ys at l f v size e;
              good = omega (arith, p.good, contents.good_behind q h ys at l f v size e);
              long = omega (arith, p.long, long);
            };
            left = λ d. rw (k, sets_join);
          },
          a.allowed,
        )

    pub turn_one : (v size : ℕ) → GivesOne q (drop at ys) v size → Turn at n size (v ∷ [])
    turn_one v size (f, e, s) =
        let one : is_single r f v ≡ true = unfold is_single in rw (le-leb v 0x7f s) in
        let t = (turn f v size e).0 in
        rw (contents.single r f v one) at t

-- and what is told of tiles that none is bad among
pub extent_told : (r : Reading) (ts : List (Option Piece)) (n : ℕ) → tiles_extent r ts ≡ Ok n → (n ≡ length (bytes_of r ts)) × (has_bad ts ≡ false)
unfolding tiles_extent
extent_told r ts n = go (has_bad ts)
  where
    go : (b : Bool) → cond b (Err (good_size ts)) (Ok (length (bytes_of r ts))) ≡ Ok n → (n ≡ length (bytes_of r ts)) × (b ≡ false)
    go true e = let z : ⊥ = cc in absurd z
    go false e = (cc, refl)
