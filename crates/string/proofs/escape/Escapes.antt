-- Laws of escaping. A byte is escaped to one or two; text escaped byte by byte is the text escaped by characters, since the five that
-- have a letter are ASCII, and the bytes of a longer character have none.
use Prim.Native.Nat.{ℕ, suc, ◌+◌, ◌<◌, ◌≤◌}
use native.Mathlib.Numerals.{add-one}
use native.Mathlib.Omega.{arith}
use native.Mathlib.Decide.{dec_lt}
use mathlib.Core.Bool.{Bool, true, ◌&&◌}
use mathlib.Core.List.{List, [], ◌∷◌, ◌++◌, append_assoc, append-nil}
use Rattle.std.specs.Prelude.{None, Ok, Option, Some}
use mathlib.Core.Path.{◌≡◌, refl, sym, ap, ◌∙◌}
use lib.Dec.{ltb}
use lib.ListN.{length, get_or, drop, drop_of_length-le, length-append}
use lib.Seq.{take-length, drop-cons, sets}
use borrow.Author.Tests.{ne_eqb, lt-ltb}
use Rattle.scan.specs.Ascii.{ascii}
use Rattle.scan.specs.Byte.{peek_at, backslash, double_quote}
use Rattle.proving.proofs.Choice.{either, and_left, and_right}
use Rattle.proving.proofs.Stores.{sets_join}
use Rattle.utf8.specs.Table.{char_length}
use Rattle.utf8.specs.Code.{code_of, encoded}
use Rattle.utf8.specs.Text.{WellFormed}
use Rattle.utf8.specs.declared.CharNumber.{CharNumber}
use Rattle.utf8.specs.Answers.{text_limit, admitted}
use Rattle.utf8.specs.laws.Characters.{One}
use Rattle.utf8.proofs.Texts.{chars_one, by_characters}
use Rattle.utf8.proofs.Laws.{steps, none_empty, rest_well, none_ascii, ascii_code, one_text, text_join}
use Rattle.utf8.proofs.Ascii.{ascii_text, one_ascii}
use Rattle.utf8.proofs.Given.{admitted_text}
use Rattle.utf8.proofs.Inverse.{decode_encode, long_code}
use Rattle.string.specs.Letters.{looked_up, letter_value, is_for, letter_among, letter_of}
use Rattle.string.specs.Escape.{or_letter, escaped}
use Rattle.string.specs.laws.Escape.{EscapeJoin, EscapedText}
use Rattle.string.specs.steps.Bytes.{escaped_byte, escaped_bytes}
use Rattle.string.proofs.tile.Letters.{passes, every}

module _ (b : ℕ) where
  pub copied : letter_of b ≡ None → escaped_byte b ≡ b ∷ []
  copied e = rw e

  pub lettered : (l : ℕ) → letter_of b ≡ Some l → escaped_byte b ≡ backslash ∷ l ∷ []
  lettered l e = rw e

  pub byte_few : length (escaped_byte b) ≤ 2
  byte_few = go (letter_of b)
    where
      go : (o : Option ℕ) → length (or_letter (b ∷ []) o) ≤ 2
      go (Some l) = omega arith
      go None = omega arith

-- the letters that are written are ASCII, and no NUL
abbrev is_letter : ℕ → Bool
is_letter l = ltb 0 l && ltb l 0x80

letter_among_holds : (ls : List ℕ) (c : ℕ) → every is_letter ls ≡ true → passes is_letter (letter_among ls c) ≡ true
unfolding letter_among
letter_among_holds [] c a = refl
letter_among_holds (l ∷ ls) c a =
    either (λ (o : Option ℕ). passes is_letter o ≡ true) (is_for c (letter_value double_quote l)) (λ e. and_left (is_letter l) (every is_letter ls) a)
    (λ e. letter_among_holds ls c (and_right (is_letter l) (every is_letter ls) a))

letter_is : (c : ℕ) → passes is_letter (letter_of c) ≡ true
unfolding letter_of
letter_is c = letter_among_holds (ascii "\\\"nrt") c refl

-- from i on: the byte there, and what follows it
pub next : (xs : List ℕ) (i : ℕ) → i < length xs → escaped_bytes (drop i xs) ≡ escaped_byte (get_or xs i 0) ++ escaped_bytes (drop (i + 1) xs)
unfolding escaped_bytes
next xs i h = rw (drop-cons xs i 0 h, add-one)

pub next_length : (xs : List ℕ) (i : ℕ) → i < length xs → length (escaped_bytes (drop i xs)) ≡ length (escaped_byte (get_or xs i 0)) + length (escaped_bytes (drop (i + 1) xs))
next_length xs i h = rw (next xs i h) (length-append _ _)

pub over_length : (xs : List ℕ) (i : ℕ) → length xs ≤ i → length (escaped_bytes (drop i xs)) ≡ 0
unfolding escaped_bytes
over_length xs i h = rw (drop_of_length-le xs h)

-- and where they are written
pub next_written : (xs out : List ℕ) (i at : ℕ) → i < length xs → sets out at (escaped_bytes (drop i xs)) ≡ sets (sets out at (escaped_byte (get_or xs i 0))) (at + length (escaped_byte (get_or xs i 0))) (escaped_bytes (drop (i + 1) xs))
next_written xs out i at h = rw (next xs i h, sets_join)

pub over_written : (xs out : List ℕ) (i at : ℕ) → length xs ≤ i → sets out at (escaped_bytes (drop i xs)) ≡ out
unfolding escaped_bytes
over_written xs out i at h = rw (drop_of_length-le xs h)

pub empty_escaped : escaped_bytes [] ≡ []
unfolding escaped_bytes
empty_escaped = refl

-- what is not ASCII has no letter
high : (c : ℕ) → 0x80 ≤ c → letter_of c ≡ None
unfolding letter_of letter_among letter_value looked_up
high c h =
    rw (ne_eqb 92 c (λ e. omega arith), ne_eqb 34 c (λ e. omega arith), ne_eqb 10 c (λ e. omega arith), ne_eqb 13 c (λ e. omega arith), ne_eqb 9 c (λ e. omega arith))

pub high_copied : (xs : List ℕ) → ((i : ℕ) → i < length xs → 0x80 ≤ peek_at xs i) → escaped_bytes xs ≡ xs
unfolding escaped_bytes
high_copied [] h = refl
high_copied (x ∷ xs) h =
    rw (copied x (high x (h 0 (omega arith)))) (ap (λ (t : List ℕ). x ∷ t) (high_copied xs (λ i l. h (suc i) (omega arith))))

pub bytes_join : (xs ys : List ℕ) → escaped_bytes (xs ++ ys) ≡ escaped_bytes xs ++ escaped_bytes ys
unfolding escaped_bytes
bytes_join [] ys = refl
bytes_join (x ∷ xs) ys = rw (bytes_join xs ys, append_assoc)

-- the bytes of one character: a byte by itself, or more, none of which is ASCII
module _ (bs : List ℕ) (o : One bs) where
  abbrev its : ℕ
  its = code_of (length bs) bs

  pub back : encoded its ≡ bs
  back =
      let e = (decode_encode bs (omega (arith, o.some, o.whole))).1 in
      rw (o.whole, take-length bs) at e

  long_one : 1 < length bs → or_letter (encoded its) (letter_of its) ≡ escaped_bytes bs
  long_one l =
      let w : 1 < char_length bs = omega (arith, o.whole) in
      let h : 0x80 ≤ its = rw o.whole at (long_code bs w) in
      rw (high its h) (back ∙ sym (high_copied bs (λ i m. none_ascii bs i w (omega (arith, o.whole)))))

short_one : (bs : List ℕ) → One bs → length bs ≤ 1 → let c = code_of (length bs) bs in or_letter (encoded c) (letter_of c) ≡ escaped_bytes bs
unfolding escaped_bytes
short_one [] o l = let f : ⊥ = omega (arith, o.some) in absurd f
short_one (b ∷ []) o l = rw (append-nil, back (b ∷ []) o, ascii_code b [] (one_ascii b [] o.whole))
short_one (b ∷ b₂ ∷ bs) o l = let f : ⊥ = omega arith in absurd f

escaped_one : (bs : List ℕ) → One bs → let c = code_of (length bs) bs in or_letter (encoded c) (letter_of c) ≡ escaped_bytes bs
escaped_one bs o = go (dec_lt 1 (length bs))
  where
    go : Dec (1 < length bs) → let c = code_of (length bs) bs in or_letter (encoded c) (letter_of c) ≡ escaped_bytes bs
    go (yes l) = long_one bs o l
    go (no l) = short_one bs o (omega arith)

pub by_characters_escaped : (xs : List ℕ) → WellFormed xs → escaped xs ≡ escaped_bytes xs
by_characters_escaped =
    by_characters (λ xs. WellFormed xs → escaped xs ≡ escaped_bytes xs)
    (λ xs e w. rw ((steps xs).1 e) (sym (ap escaped_bytes (none_empty xs e w) ∙ empty_escaped)))
    (λ bs ys o ih w. rw (chars_one bs ys o, escaped_one bs o, ih (rest_well bs ys o w), bytes_join bs ys))

pub escape_join : EscapeJoin
escape_join xs ys w v =
    rw (by_characters_escaped xs w, by_characters_escaped ys v) (by_characters_escaped (xs ++ ys) (text_join xs ys w v) ∙ bytes_join xs ys)

-- an escape is text: of what is copied it is the character, and otherwise two ASCII bytes
byte_text : (b : ℕ) → b < 0x80 → WellFormed (escaped_byte b)
byte_text b l = go (letter_of b) (letter_is b)
  where
    go : (o : Option ℕ) → passes is_letter o ≡ true → WellFormed (or_letter (b ∷ []) o)
    go (Some k) e = (ascii_text (backslash ∷ k ∷ []) (rw (and_right (ltb 0 k) (ltb k 0x80) e))).0
    go None e = (ascii_text (b ∷ []) (rw (lt-ltb b 0x80 l))).0

one_escaped : (bs : List ℕ) → One bs → WellFormed (escaped_bytes bs)
one_escaped bs o = go bs o (dec_lt 1 (length bs))
  where
    go : (bs : List ℕ) → One bs → Dec (1 < length bs) → WellFormed (escaped_bytes bs)
    go bs o (yes l) = rw (high_copied bs (λ i m. none_ascii bs i (omega (arith, o.whole)) (omega (arith, o.whole)))) (one_text bs o)
    go [] o (no l) = let f : ⊥ = omega (arith, o.some) in absurd f
    go (b ∷ []) o (no l) = unfold escaped_bytes in rw append-nil (byte_text b (one_ascii b [] o.whole))
    go (b ∷ b₂ ∷ bs) o (no l) = let f : ⊥ = omega arith in absurd f

pub escaped_text : EscapedText
escaped_text xs w = rw (by_characters_escaped xs w) (go xs w)
  where
    go : (xs : List ℕ) → WellFormed xs → WellFormed (escaped_bytes xs)
    go =
        by_characters (λ xs. WellFormed xs → WellFormed (escaped_bytes xs))
        (λ xs e w. rw (none_empty xs e w, empty_escaped) (ascii_text [] refl).0)
        (λ bs ys o ih w. rw (bytes_join bs ys) (text_join (escaped_bytes bs) (escaped_bytes ys) (one_escaped bs o) (ih (rest_well bs ys o w))))

-- a text that is admitted is within the limit, and escaped byte by byte
module _ (xs : List ℕ) (n : CharNumber) (a : admitted text_limit xs ≡ Ok n) where
  pub admitted_few : length xs ≤ text_limit
  admitted_few = omega (arith, (admitted_text text_limit xs n a).0)

  pub admitted_bytes : escaped xs ≡ escaped_bytes xs
  admitted_bytes = by_characters_escaped xs (admitted_text text_limit xs n a).1
