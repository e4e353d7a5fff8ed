-- One byte is stored: an ASCII character's, or a byte escape's, whose value is at most 255. Any other character is encoded, and every value
-- that a form may have is one.
use Rattle.std.proofs.Common.{ℕ, ◌+◌, ◌≤◌, Bool, true, false, ◌||◌, List, [], ◌∷◌, ◌≡◌, refl, sym, ap, ◌∙◌, length, Ok, arith}
use Rattle.std.proofs.lemmas.List.Edits.{sets}
use mathlib.Core.Bool.{true≢false}
use lib.Dec.{leb}
use borrow.Author.Tests.{leb-true}
use Rattle.utf8.specs.declared.Reading.{Reading}
use Rattle.utf8.specs.declared.Reading.TheVariants.{Crate, Documented}
use Rattle.utf8.specs.Code.{is_scalar, encoded}
use Rattle.utf8.specs.Encode.{encoding_of}
use Rattle.utf8.specs.Writing.{left_at}
use Rattle.utf8.proofs.Bounds.{byte_scalar}
use Rattle.utf8.proofs.encode.Bounds.{encoding_fits, written_sets}
use Rattle.string.specs.declared.tile.Form.{Form}
use Rattle.string.specs.Tile.{is_byte, is_allowed}
use Rattle.string.specs.Tiles.{gives_byte, piece_bytes}
use Rattle.string.specs.steps.Measure.{is_single}
use Rattle.string.proofs.Contents.{single, several}
use Rattle.string.proofs.content.put_piece.Goals as goal
use Rattle.string.proofs.content.put_piece.Goals.{After-encode, After-unwrap, Start, Then-is_single}

module _ (f : Form) (v : ℕ) (a : is_allowed f v ≡ true) where
  byte_small : (r : Reading) → is_single r f v ≡ true → v ≤ 0xff
  unfolding is_single is_allowed
  byte_small r = go (leb v 0x7f) refl r
    where
      go : (s : Bool) → leb v 0x7f ≡ s → (r : Reading) → s || gives_byte r f ≡ true → v ≤ 0xff
      go true l r e = let h : v ≤ 0x7f = leb-true v 0x7f l in omega arith
      go false l Crate e = absurd (true≢false (sym e))
      go false l Documented e = leb-true v 0xff (rw e at a)

  scalar : is_scalar v ≡ true
  unfolding is_allowed
  scalar = go (is_byte f) refl
    where
      go : (t : Bool) → is_byte f ≡ t → is_scalar v ≡ true
      go true e = byte_scalar v (leb-true v 0xff (rw e at a))
      go false e = rw e at a

  stored : (r : Reading) → is_single r f v ≡ true → (piece_bytes r f v ≡ v ∷ []) × (v ≤ 0xff)
  stored r s = (single r f v s, byte_small r s)

  written : (r : Reading) (at : ℕ) (d : List ℕ) → is_single r f v ≡ false → at + length (piece_bytes r f v) ≤ length d → (encoding_of v (length d) at ≡ Ok (length (piece_bytes r f v))) × (left_at at (encoding_of v (length d) at) (encoded v) d ≡ sets d at (piece_bytes r f v))
  written r at d s h =
      let k : at + length (encoded v) ≤ length d = omega (arith, h, ap length (several r f v s)) in
      let e = encoding_fits v (length d) at scalar k in
      rw (several r f v s, e) (refl, written_sets (encoded v) d at k)

one : (c : Then-is_single) → let a = c.args in (piece_bytes a.reading a.form a.value ≡ a.value ∷ []) × (a.value ≤ 0xff)
one c =
    let a = (goal.at.Then-is_single c).Start in
    stored a.args.form a.args.value a.requires.value_value a.args.reading (sym c.is_single.ensures ∙ c.if-is_single.true)

pub overflow_cast-out : goal.overflow_cast-out
overflow_cast-out c = omega (arith, (one c).1)

pub bounds-out-at : goal.bounds-out-at
bounds-out-at c = omega (arith, ap length (one c).0, c.requires.value_in_bounds)

pub returns-then-is_single : goal.returns-then-is_single
returns-then-is_single c = rw ((one c).0) record { value = refl; out_after = refl }

-- it has room
more : (c : After-encode) → let a = c.args in (c.encode.result ≡ Ok (length (piece_bytes a.reading a.form a.value))) × (c.encode.new.out ≡ sets a.out.now a.at (piece_bytes a.reading a.form a.value))
more c =
    let a = (goal.at.After-encode c).Start in
    let w = written a.args.form a.args.value a.requires.value_value a.args.reading a.args.at a.args.out.now (sym c.is_single.ensures ∙ c.if-is_single.false) a.requires.value_in_bounds in
    (c.encode.ensures.value ∙ w.0, cc (w.1, c.encode.ensures.value, c.encode.ensures.out_after))

pub unwrap-requires : goal.unwrap-requires
unwrap-requires c = rw (more (goal.at.unwrap-requires c).After-encode).0

size : (c : After-unwrap) → let a = c.args in c.unwrap.result ≡ length (piece_bytes a.reading a.form a.value)
size c = cc (c.unwrap.ensures, (more (goal.at.After-unwrap c).After-encode).0)

pub overflow_add-result-2 : goal.overflow_add-result-2
overflow_add-result-2 c = omega (arith, size c, c.requires.value_in_bounds)

pub returns : goal.returns
returns c = rw (size c) record { value = refl; out_after = (more (goal.at.returns c).After-encode).1 }
