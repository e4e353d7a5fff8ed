-- Laws of what a literal stands for. Without escapes it is what stands between the signs (`Plain`), and otherwise what was written; so the
-- part that an answer names is the text. The readings give the same of a byte escape below 80 hex, since an ASCII code point is its byte.
use Prim.Native.Nat.{ℕ, ◌-◌, ◌≤◌}
use native.Mathlib.Omega.{arith}
use mathlib.Core.Bool.{Bool, true, false, cond, ◌&&◌, true≢false}
use mathlib.Core.List.{List, [], ◌∷◌, ◌++◌}
use Rattle.std.specs.Prelude.{Err, None, Ok, Option, Result, Some}
use mathlib.Core.Path.{◌≡◌, refl, sym, ap, ◌∙◌}
use lib.Dec.{leb}
use lib.ListN.{length, drop, length-append, length-drop}
use lib.Seq.{take-append_seam, length-take-le}
use borrow.Author.Tests.{le-leb, lt-ltb, leb-false}
use Rattle.utf8.specs.declared.Refusal.{Refusal}
use Rattle.utf8.specs.declared.CharNumber.{CharNumber}
use Rattle.utf8.specs.declared.Reading.{Reading}
use Rattle.utf8.specs.declared.Reading.TheVariants.{Crate, Documented}
use Rattle.utf8.specs.Text.{WellFormed}
use Rattle.utf8.specs.Code.{encoded}
use Rattle.utf8.specs.Answers.{text_limit, no_room, admitted}
use Rattle.utf8.proofs.Ascii.{ascii_bytes}
use Rattle.utf8.proofs.Given.{given_exactly, admitted_text}
use Rattle.string.specs.declared.tile.Form.{Form}
use Rattle.string.specs.Tile.{is_byte}
use Rattle.string.specs.Tiles.{tiles_of, piece_bytes, bytes_of}
use Rattle.string.specs.Literal.{sign_of, inner_of, fault_of, is_fault, is_bad_literal, has_escape, unquoted, extent_as, extent_of, unquoting_by, unquoting_as, unquoting_of, text_by, part_of}
use Rattle.string.specs.laws.ReadBack.{is_read, PartIsText, GoodRead, has_high_byte, ReadingsAgree}
use Rattle.string.proofs.Plain.{neither, unescaped}
use Rattle.string.proofs.Literals.{good_none, Sound, sound, two, sign_ascii, inner_well}
use Rattle.string.specs.declared.Unquoted.TheVariants.{Inner, Written}
use Rattle.string.specs.declared.tile.Piece.{Piece}
use Rattle.string.specs.declared.Unquoted.{Unquoted}

-- a literal without escapes stands for what is between its signs
pub as_between : (r : Reading) (xs : List ℕ) → WellFormed xs → Sound xs → has_escape (sign_of xs) (inner_of xs) ≡ false → unquoted r xs ≡ inner_of xs
as_between r xs w s e =
    let u = unescaped (sign_of xs) (sign_ascii xs s.enclosed) r (inner_of xs) (inner_well xs s.enclosed w) e in
    u.2 (sym u.0 ∙ s.good)

module _ (r : Reading) (xs d : List ℕ) (w : WellFormed xs) where
  abbrev Named : Result Unquoted ℕ → Type 0
  Named e = let u = unquoting_by (length d) xs e in is_read u ≡ true → part_of u xs (text_by u (unquoted r xs) d) ≡ unquoted r xs

  between : Sound xs → has_escape (sign_of xs) (inner_of xs) ≡ false → Named (Ok (Inner (length (inner_of xs))))
  unfolding part_of
  between s e t =
      let h = two xs s.enclosed in
      let l = length-take-le (length xs - 2) (drop 1 xs) (omega (arith, length-drop 1 xs)) in
      rw (lt-ltb (length (inner_of xs)) (length xs) (omega (arith, l)), l) (sym (as_between r xs w s e))

  written : Named (Ok (Written (length (unquoted r xs))))
  unfolding part_of
  written = go (leb (length ys) (length d)) refl
    where
      ys : List ℕ
      ys = unquoted r xs

      go : (t : Bool) → leb (length ys) (length d) ≡ t → let u = cond t (Ok (Written (length ys))) (Err no_room) in is_read u ≡ true → part_of u xs (text_by u ys d) ≡ ys
      go true e h =
          let l : length ys ≤ length (ys ++ drop (length ys) d) = omega (arith, length-append ys (drop (length ys) d)) in
          rw (le-leb (length ys) (length (ys ++ drop (length ys) d)) l) (take-append_seam ys (drop (length ys) d))
      go false e h = absurd (true≢false (sym h))

  named : Named (extent_of r xs)
  unfolding extent_of
  named = go (fault_of xs) refl
    where
      by : is_bad_literal xs ≡ false → (t : Bool) → has_escape (sign_of xs) (inner_of xs) ≡ t → Named (cond t (Ok (Written (length (unquoted r xs)))) (Ok (Inner (length (inner_of xs)))))
      by a true b h = written h
      by a false b h = between (sound xs a) b h

      go : (o : Option ℕ) → fault_of xs ≡ o → Named (extent_as r xs o)
      go (Some at) e h = absurd (true≢false (sym h))
      go None e h = by (ap is_fault e) (has_escape (sign_of xs) (inner_of xs)) refl h

pub part_is_text : PartIsText
unfolding unquoting_of
part_is_text r xs d = go (admitted text_limit xs) refl
  where
    go : (a : Result CharNumber Refusal) → admitted text_limit xs ≡ a → let u = unquoting_as r (length d) xs a in is_read u ≡ true → part_of u xs (text_by u (unquoted r xs) d) ≡ unquoted r xs
    go (Ok n) e h = named r xs d (admitted_text text_limit xs n e).1 h
    go (Err s) e h = absurd (true≢false (sym h))

-- a literal that is not bad is read where the limit and the room are kept
pub good_read : GoodRead
unfolding unquoting_of extent_of
good_read r room xs t b h = rw ((given_exactly text_limit xs).2.1 t, good_none xs b) (go (has_escape (sign_of xs) (inner_of xs)))
  where
    go : (e : Bool) → is_read (unquoting_by room xs (cond e (Ok (Written (length (unquoted r xs)))) (Ok (Inner (length (inner_of xs)))))) ≡ true
    go true = rw (le-leb (length (unquoted r xs)) room h)
    go false = refl

-- the two readings, tile by tile
same_piece : (f : Form) (v : ℕ) → is_byte f && leb 0x80 v ≡ false → piece_bytes Crate f v ≡ piece_bytes Documented f v
unfolding piece_bytes
same_piece f v = go (is_byte f)
  where
    go : (t : Bool) → t && leb 0x80 v ≡ false → encoded v ≡ cond t (v ∷ []) (encoded v)
    go true e = ascii_bytes v (leb-false 0x80 v e)
    go false e = refl

same_bytes : (ts : List (Option Piece)) → has_high_byte ts ≡ false → bytes_of Crate ts ≡ bytes_of Documented ts
unfolding bytes_of has_high_byte
same_bytes [] e = refl
same_bytes (Some p ∷ ts) e =
    let h = neither (is_byte p.form && leb 0x80 p.value) (has_high_byte ts) e in
    rw (same_piece p.form p.value h.0, same_bytes ts h.1)
same_bytes (None ∷ ts) e = same_bytes ts e

same_extent : (xs : List ℕ) → unquoted Crate xs ≡ unquoted Documented xs → extent_of Crate xs ≡ extent_of Documented xs
unfolding extent_of
same_extent xs s = go (fault_of xs)
  where
    go : (o : Option ℕ) → extent_as Crate xs o ≡ extent_as Documented xs o
    go (Some at) = refl
    go None = rw s

pub readings_agree : ReadingsAgree
unfolding unquoting_of
readings_agree xs e = (s, λ room. go room (admitted text_limit xs))
  where
    s : unquoted Crate xs ≡ unquoted Documented xs
    s = same_bytes (tiles_of (sign_of xs) (inner_of xs)) e

    go : (room : ℕ) (a : Result CharNumber Refusal) → unquoting_as Crate room xs a ≡ unquoting_as Documented room xs a
    go room (Ok n) = ap (unquoting_by room xs) (same_extent xs s)
    go room (Err t) = refl
