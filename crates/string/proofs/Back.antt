-- Reading the escape of a text gives the text. Character by character: what is escaped is a tile of two bytes that stands for it (one test of
-- all ASCII bytes), and what is copied is neither the sign nor a backslash, so it is a tile as it is. No LF is copied.
use Prim.Native.Nat.{ℕ, ◌<◌, ◌≤◌}
use native.Mathlib.Omega.{arith}
use native.Mathlib.Decide.{dec_lt}
use mathlib.Core.Bool.{Bool, true, false, ◌&&◌, not, true≢false}
use mathlib.Core.List.{List, [], ◌∷◌, ◌++◌, append-nil}
use Rattle.std.specs.Prelude.{None, Option, Some}
use mathlib.Core.Path.{◌≡◌, refl, sym, ap, ◌∙◌}
use lib.Dec.{eqb}
use lib.ListN.{length}
use borrow.Author.Tests.{ne_eqb, eqb-true, eqb-false, le-ltb, not-true}
use Rattle.scan.specs.Text.{has}
use Rattle.scan.specs.Byte.{peek_at, backslash, double_quote, is_quote}
use Rattle.proving.proofs.Below.{below}
use Rattle.proving.proofs.Choice.{and_left, and_right}
use Rattle.utf8.specs.declared.Reading.{Reading}
use Rattle.utf8.specs.declared.Reading.TheVariants.{Crate, Documented}
use Rattle.utf8.specs.Text.{WellFormed}
use Rattle.utf8.specs.laws.Characters.{One}
use Rattle.utf8.proofs.Texts.{by_characters}
use Rattle.utf8.proofs.Laws.{none_empty, rest_well, none_ascii, text_join}
use Rattle.utf8.proofs.Ascii.{ascii_bytes, ascii_text, one_ascii}
use Rattle.string.specs.declared.tile.Form.TheVariants.{Letter}
use Rattle.string.specs.Letters.{looked_up, letter_value, is_for, letter_among, letter_of}
use Rattle.string.specs.Tile.{begins_escape, escape_of, tile_of, piece}
use Rattle.string.specs.Escape.{escaped}
use Rattle.string.specs.steps.Bytes.{escaped_bytes}
use Rattle.string.specs.Tiles.{tiles_of, has_bad, piece_bytes, bytes_of}
use Rattle.string.specs.Literal.{line_feed, has_newline, fault_of}
use Rattle.string.specs.laws.ReadBack.{quoted, ReadBack, ReadBackJoin, ReadBackPart}
use Rattle.string.proofs.escape.Escapes.{copied, lettered, high_copied, empty_escaped, bytes_join, by_characters_escaped, escape_join, escaped_text}
use Rattle.string.proofs.Literals.{closed_is}
use Rattle.string.proofs.Readings.{part_is_text, good_read}
use Rattle.string.proofs.Contents.{tiles_none, first_piece}
use Rattle.string.proofs.Plain.{plain_bad, plain_bytes, has_join, has_not}

-- an ASCII byte is copied, and is then no sign, backslash or LF; or its letter stands for it, and is no LF
abbrev fine_by : ℕ → Option ℕ → Bool
fine_by b None = not (eqb b double_quote) && (not (eqb b backslash) && not (eqb b line_feed))
fine_by b (Some l) = is_for b (letter_value double_quote l) && not (eqb l line_feed)

all_fine : (b : ℕ) → b < 0x80 → fine_by b (letter_of b) ≡ true
unfolding letter_of letter_among letter_value looked_up
all_fine = below (λ b. fine_by b (letter_of b)) 0x80 refl

is_for_holds : (b : ℕ) (o : Option ℕ) → is_for b o ≡ true → o ≡ Some b
is_for_holds b (Some v) e = ap (λ (n : ℕ). Some n) (eqb-true v b e)
is_for_holds b None e = absurd (true≢false (sym e))

-- a byte behind a backslash, and what follows the two
module _ (b : ℕ) (h : b < 0x80) (l : ℕ) (s : letter_of b ≡ Some l) (ys : List ℕ) where
  fine_letter : is_for b (letter_value double_quote l) && not (eqb l line_feed) ≡ true
  fine_letter = let f = all_fine b h in rw s at f

  tile : tile_of double_quote (backslash ∷ l ∷ ys) ≡ piece Letter b 2
  unfolding tile_of begins_escape escape_of
  tile = rw (is_for_holds b (letter_value double_quote l) (and_left (is_for b (letter_value double_quote l)) (not (eqb l line_feed)) fine_letter))

  tiles : tiles_of double_quote (backslash ∷ l ∷ ys) ≡ piece Letter b 2 ∷ tiles_of double_quote ys
  tiles = first_piece double_quote (omega arith) (backslash ∷ l ∷ ys) Letter b 2 (omega arith) tile

  no_feed : eqb l line_feed ≡ false
  no_feed = not-true (eqb l line_feed) (and_right (is_for b (letter_value double_quote l)) (not (eqb l line_feed)) fine_letter)

-- it gives the byte in both readings
letter_bytes : (r : Reading) (b : ℕ) → b < 0x80 → piece_bytes r Letter b ≡ b ∷ []
unfolding piece_bytes
letter_bytes Crate b l = ascii_bytes b l
letter_bytes Documented b l = ascii_bytes b l

-- a byte that is copied
fine_copy : (b : ℕ) → b < 0x80 → letter_of b ≡ None → (b ≡ double_quote → ⊥) × (b ≡ backslash → ⊥) × (b ≡ line_feed → ⊥)
fine_copy b l e =
    let f = all_fine b l in
    let g : not (eqb b double_quote) && (not (eqb b backslash) && not (eqb b line_feed)) ≡ true = rw e at f in
    let t = and_right (not (eqb b double_quote)) (not (eqb b backslash) && not (eqb b line_feed)) g in
    (unlike (and_left (not (eqb b double_quote)) (not (eqb b backslash) && not (eqb b line_feed)) g), unlike (and_left (not (eqb b backslash)) (not (eqb b line_feed)) t), unlike (and_right (not (eqb b backslash)) (not (eqb b line_feed)) t))
  where
    unlike : {c : ℕ} → not (eqb b c) ≡ true → b ≡ c → ⊥
    unlike {c = c} n = eqb-false b c (not-true (eqb b c) n)

-- what reading an escape gives, and that no LF is in it
module _ (r : Reading) where
  pub record Back (xs : List ℕ) : Type 0 where
    pub good : has_bad (tiles_of double_quote (escaped_bytes xs)) ≡ false
    pub text : bytes_of r (tiles_of double_quote (escaped_bytes xs)) ≡ xs
    pub whole : has line_feed (escaped_bytes xs) ≡ false

  at_end : Back []
  unfolding has_bad bytes_of has
  at_end = record { good = rw (empty_escaped, tiles_none double_quote); text = rw (empty_escaped, tiles_none double_quote); whole = rw empty_escaped }

  -- a character that is copied
  copy : (bs ys : List ℕ) → One bs → escaped_bytes bs ≡ bs → (peek_at bs 0 ≡ double_quote → ⊥) → (peek_at bs 0 ≡ backslash → ⊥) → (peek_at bs 0 ≡ line_feed → ⊥) → Back ys → Back (bs ++ ys)
  copy bs ys o e q s f b =
      let j : escaped_bytes (bs ++ ys) ≡ bs ++ escaped_bytes ys = bytes_join bs ys ∙ rw e in
      let h : double_quote < 0x80 = omega arith in
      let t : begins_escape double_quote (peek_at bs 0) ≡ false = unfold begins_escape in rw (ne_eqb (peek_at bs 0) backslash s) in
      record {
        good = rw j (plain_bad double_quote h bs (escaped_bytes ys) o q t ∙ b.good);
        text = rw j (plain_bytes double_quote h bs (escaped_bytes ys) o q t r ∙ rw b.text);
        whole = rw j (has_join line_feed bs (escaped_bytes ys) ∙ rw (has_not line_feed (omega arith) bs o f) b.whole);
      }

  -- a byte that is escaped
  letter : (b : ℕ) (ys : List ℕ) → b < 0x80 → (l : ℕ) → letter_of b ≡ Some l → Back ys → Back (b ∷ ys)
  unfolding has_bad bytes_of has
  letter b ys h l s k =
      let j : escaped_bytes (b ∷ ys) ≡ backslash ∷ l ∷ escaped_bytes ys = unfold escaped_bytes in rw (lettered b l s) in
      let t = tiles b h l s (escaped_bytes ys) in
      record {
        good = rw (j, t) k.good;
        text = rw (j, t, letter_bytes r b h) (ap (λ (zs : List ℕ). b ∷ zs) k.text);
        whole = rw (j, no_feed b h l s (escaped_bytes ys)) k.whole;
      }

  one : (bs ys : List ℕ) → One bs → Back ys → Back (bs ++ ys)
  one bs ys o k = go bs o (dec_lt 1 (length bs))
    where
      short : (b : ℕ) → b < 0x80 → One (b ∷ []) → (s : Option ℕ) → letter_of b ≡ s → Back (b ∷ ys)
      short b h o None e =
          let f = fine_copy b h e in
          copy (b ∷ []) ys o (unfold escaped_bytes in rw (append-nil, copied b e)) f.0 f.1 f.2 k
      short b h o (Some l) e = letter b ys h l e k

      go : (bs : List ℕ) → One bs → Dec (1 < length bs) → Back (bs ++ ys)
      go bs o (yes l) =
          let h : (i : ℕ) → i < length bs → 0x80 ≤ peek_at bs i = λ i m. none_ascii bs i (omega (arith, o.whole)) (omega (arith, o.whole)) in
          let z = h 0 o.some in
          copy bs ys o (high_copied bs h) (λ e. omega arith) (λ e. omega arith) (λ e. omega arith) k
      go [] o (no l) = let f : ⊥ = omega (arith, o.some) in absurd f
      go (b ∷ []) o (no l) = short b (one_ascii b [] o.whole) o (letter_of b) refl
      go (b ∷ b₂ ∷ bs) o (no l) = let f : ⊥ = omega arith in absurd f

  back : (xs : List ℕ) → WellFormed xs → Back xs
  back =
      by_characters (λ xs. WellFormed xs → Back xs)
      (λ xs e w. rw (none_empty xs e w) at_end)
      (λ bs ys o ih w. one bs ys o (ih (rest_well bs ys o w)))

pub read_back : ReadBack
unfolding fault_of is_quote has_newline
read_back r xs w =
    let b = back r xs w in
    let e = by_characters_escaped xs w in
    let c = closed_is double_quote (escaped_bytes xs) in
    rw (e, c.inner, le-ltb (length (quoted (escaped_bytes xs))) 2 c.two, c.last, b.whole, b.good) (refl, b.text)

pub read_back_join : ReadBackJoin
read_back_join r xs ys w v = rw (← escape_join xs ys w v) (read_back r (xs ++ ys) (text_join xs ys w v))

-- what stands between double quotes is text where it is text
pub quoted_text : (ys : List ℕ) → WellFormed ys → WellFormed (quoted ys)
quoted_text ys w =
    let sign : WellFormed (double_quote ∷ []) = (ascii_text (double_quote ∷ []) refl).0 in
    text_join (double_quote ∷ []) (ys ++ (double_quote ∷ [])) sign (text_join ys (double_quote ∷ []) w sign)

pub read_back_part : ReadBackPart
read_back_part r xs d w l h =
    let b = read_back r xs w in
    let literal = quoted (escaped xs) in
    let t : WellFormed literal = quoted_text (escaped xs) (escaped_text xs w) in
    let e = good_read r (length d) literal ((λ n. omega arith), t) b.0 (omega (arith, ap length b.1)) in
    (e, part_is_text r literal d e ∙ b.1)
