-- Where the first bad tile of a text stands. Reading comes to where the good ones end (`comes`), since behind a good tile there is text
-- (`text_behind`); so the first bad one stands where a character begins, and is bad for the sign or the escape (`bad_when`). Wherever reading
-- comes, the tiles from there on are bad where one is, and the good ones before have passed (`reads_over`).
use Prim.Native.Nat.{ℕ, ◌+◌, ◌<◌, ◌≤◌}
use native.Mathlib.Nat.{zero-add, add-zero, add_assoc}
use native.Mathlib.Omega.{arith}
use mathlib.Core.Bool.{true, true≢false}
use mathlib.Core.List.{List, [], ◌∷◌}
use mathlib.Core.Logic.{◌⊎◌, inl, inr}
use mathlib.Core.Path.{◌≡◌, refl, sym, ap, subst, ◌∙◌}
use lib.ListN.{length, drop, length-drop}
use lib.Seq.{drop-drop}
use Rattle.proving.proofs.Tests.{Tests, tests_or}
use Rattle.scan.specs.Byte.{peek_at}
use Rattle.utf8.specs.Table.{char_length}
use Rattle.utf8.specs.Text.{WellFormed}
use Rattle.utf8.proofs.Laws.{none_empty}
use Rattle.string.specs.declared.tile.Form.{Form}
use Rattle.string.specs.Tile.{tile_of, piece}
use Rattle.string.specs.Tiles.{tile_size, tiles_of, is_bad, has_bad, good_size}
use Rattle.string.specs.laws.Tile.{IsEscape, EscapeBegun}
use Rattle.string.specs.laws.Refusals.{BadAmong, ReadsTo, start, tile, BareSign, BadEscape, BadThere}
use Rattle.string.proofs.tile.Tiles.{FairTile, each_fair}
use Rattle.string.proofs.tile.Behind.{TextAfter, text_behind}
use Rattle.string.proofs.tile.Bad.{bad_when}
use Rattle.string.proofs.Contents.{tiles_none, bad_here, bad_behind, good_behind, by_tiles}
use Rattle.std.specs.Prelude.{None, Option, Some}
use Rattle.string.specs.declared.tile.Piece.{Piece}

pub tests_bad : (ts : List (Option Piece)) → Tests (has_bad ts) (BadAmong ts)
unfolding has_bad
tests_bad [] = ((λ e. absurd (true≢false (sym e))), λ s. absurd s)
tests_bad (t ∷ ts) = tests_or (one t) (tests_bad ts)
  where
    one : (t : Option Piece) → Tests (is_bad t) (t ≡ None)
    one (Some p) = ((λ e. absurd (true≢false (sym e))), λ e. ap is_bad e)
    one None = ((λ e. refl), λ e. refl)

module _ (q : ℕ) (l : q < 0x80) (ys : List ℕ) where
  -- a tile that reading goes on with
  goes_on : (at : ℕ) (f : Form) (v n : ℕ) → tile_of q (drop at ys) ≡ piece f v n → (0 < n) × (at + n ≤ length ys)
  goes_on at f v n e =
      let a = subst (FairTile (length (drop at ys))) e (each_fair q (drop at ys) l) in
      (a.some, omega (arith, a.some, a.within, length-drop at ys))

  pub record Over (at : ℕ) : Type 0 where
    pub within : at ≤ length ys
    pub bad : has_bad (tiles_of q ys) ≡ has_bad (tiles_of q (drop at ys))
    pub good : good_size (tiles_of q ys) ≡ at + good_size (tiles_of q (drop at ys))

  pub reads_over : {at : ℕ} → ReadsTo q ys at → Over at
  reads_over start = record { within = omega arith; bad = refl; good = omega arith }
  reads_over (tile at f v n r e) =
      let o = reads_over r in
      let g = goes_on at f v n e in
      let k : at < length ys = omega arith in
      record {
        within = g.1;
        bad = o.bad ∙ bad_behind q l ys at k f v n e;
        good = omega (arith, o.good, good_behind q l ys at k f v n e);
      }

  -- where a tile is bad that reading comes to, the good ones end
  pub ends_there : (at : ℕ) → at < length ys → ReadsTo q ys at → tile_of q (drop at ys) ≡ None → (has_bad (tiles_of q ys) ≡ true) × (at ≡ good_size (tiles_of q ys))
  ends_there at k r e =
      let o = reads_over r in
      let b = bad_here q l ys at k e in
      (o.bad ∙ b.0, omega (arith, o.good, b.1))

  -- reading behind a first tile is reading on
  reads_on : (f : Form) (v n : ℕ) → tile_of q ys ≡ piece f v n → {at : ℕ} → ReadsTo q (drop n ys) at → ReadsTo q ys (n + at)
  reads_on f v n e start = subst (ReadsTo q ys) (zero-add n ∙ sym (add-zero n)) (tile 0 f v n start e)
  reads_on f v n e (tile at g w m r b) =
      subst (ReadsTo q ys) (add_assoc n at m) (tile (n + at) g w m (reads_on f v n e r) (ap (tile_of q) (sym (drop-drop at n ys)) ∙ b))

-- a bad tile that reading comes to
abbrev Found : ℕ → List ℕ → Type 0
Found q ys = (at : ℕ) × (at < length ys) × ReadsTo q ys at × (tile_of q (drop at ys) ≡ None) × WellFormed (drop at ys)

module _ (q : ℕ) (l : q < 0x80) where
  abbrev Comes : List ℕ → Type 0
  Comes ys = WellFormed ys → has_bad (tiles_of q ys) ≡ true → Found q ys

  none : Comes []
  unfolding has_bad
  none w b = absurd (true≢false (sym (rw (tiles_none q) at b)))

  some : (ys : List ℕ) → 0 < length ys → Comes (drop (tile_size (tile_of q ys)) ys) → Comes ys
  some ys k ih w b = go (tile_of q ys) refl (text_behind q ys l w) ih
    where
      go : (t : Option Piece) → tile_of q ys ≡ t → TextAfter ys t → Comes (drop (tile_size t) ys) → Found q ys
      go None e x ih = (0, k, start, e, w)
      go (Some p) e x ih =
          let behind : has_bad (tiles_of q ys) ≡ has_bad (tiles_of q (drop p.size ys)) = bad_behind q l ys 0 k p.form p.value p.size e ∙ rw zero-add in
          let (at, s, r, t, u) = ih x (sym behind ∙ b) in (
            p.size + at,
            omega (arith, s, length-drop p.size ys),
            reads_on q l ys p.form p.value p.size e r,
            ap (tile_of q) (sym (drop-drop at p.size ys)) ∙ t,
            subst WellFormed (drop-drop at p.size ys) u,
          )

  pub comes : (ys : List ℕ) → Comes ys
  comes = by_tiles q l Comes none some

-- why a tile of text is bad
pub why_bad : (q : ℕ) (zs : List ℕ) → 0 < q → 0 < length zs → WellFormed zs → tile_of q zs ≡ None → (peek_at zs 0 ≡ q) ⊎ (EscapeBegun q zs × (IsEscape q zs → ⊥))
why_bad q zs h k w e = go ((bad_when q zs h).0 e)
  where
    go : (peek_at zs 0 ≡ q) ⊎ ((EscapeBegun q zs × (IsEscape q zs → ⊥)) ⊎ ((EscapeBegun q zs → ⊥) × (char_length zs ≡ 0))) → (peek_at zs 0 ≡ q) ⊎ (EscapeBegun q zs × (IsEscape q zs → ⊥))
    go (inl b) = inl b
    go (inr (inl b)) = inr b
    go (inr (inr (n, z))) = let f : ⊥ = omega (arith, ap length (none_empty zs z w)) in absurd f

-- the sign and a bad escape are bad tiles
module _ (q : ℕ) (h : 0 < q) (ys : List ℕ) (at : ℕ) where
  pub bare_bad : BareSign q ys at → tile_of q (drop at ys) ≡ None
  bare_bad (r, b) = (bad_when q (drop at ys) h).1 (inl b)

  pub escape_bad : BadEscape q ys at → tile_of q (drop at ys) ≡ None
  escape_bad (r, b, n) = (bad_when q (drop at ys) h).1 (inr (inl (b, n)))

pub bad_there : BadThere
bad_there q ys l h w = (there, λ (at, k, b). (tests_bad (tiles_of q ys)).0 (back at k b))
  where
    there : BadAmong (tiles_of q ys) → (at : ℕ) × (at < length ys) × (BareSign q ys at ⊎ BadEscape q ys at)
    there b = let (at, k, r, e, u) = comes q l ys w ((tests_bad (tiles_of q ys)).1 b) in (at, k, by at r (why_bad q (drop at ys) h (omega (arith, length-drop at ys)) u e))
      where
        by : (at : ℕ) → ReadsTo q ys at → (peek_at (drop at ys) 0 ≡ q) ⊎ (EscapeBegun q (drop at ys) × (IsEscape q (drop at ys) → ⊥)) → BareSign q ys at ⊎ BadEscape q ys at
        by at r (inl s) = inl (r, s)
        by at r (inr (b, n)) = inr (r, b, n)

    back : (at : ℕ) → at < length ys → BareSign q ys at ⊎ BadEscape q ys at → has_bad (tiles_of q ys) ≡ true
    back at k (inl b) = (ends_there q l ys at k b.0 (bare_bad q h ys at b)).0
    back at k (inr b) = (ends_there q l ys at k b.0 (escape_bad q h ys at b)).0
