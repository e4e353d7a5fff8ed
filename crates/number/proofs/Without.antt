-- Without its separators a text is text still, and what is kept of it is what is kept of the text, without separators. It goes by characters: a
-- separator is one by itself and is kept as it is, and no other has one in its bytes (`Free`) or in what is kept of them.
use Rattle.std.proofs.Common.{◌≡◌, ℕ, suc, ◌<◌, ◌≤◌, Bool, true, false, cond, ◌||◌, eqb, ◌⊎◌, List, [], ◌∷◌, ◌++◌, length, sym, refl, ap, ◌∙◌, subst, inl, inr, ⊎_elim, true≢false, arith, eq-eqb, ne_eqb}
use Prim.Native.Char.{code}
use native.Mathlib.Decide.{ℕ_discrete}
use lib.Seq.{take-length}
use Rattle.proving.proofs.Choice.{either}
use Rattle.proving.proofs.Tests.{denied}
use Rattle.scan.specs.Byte.{peek_at, is_within, lowered}
use Rattle.scan.specs.Separated.{separator, without_separators}
use Rattle.scan.specs.Text.{has}
use Rattle.scan.proofs.byte.Classes.{within_bounds}
use Rattle.scan.proofs.Stands.{tests_has}
use Rattle.scan.proofs.separated.Whole.{none_dropped}
use Rattle.utf8.specs.Code.{code_of, encoded}
use Rattle.utf8.specs.Text.{codes_of, WellFormed}
use Rattle.utf8.specs.laws.Characters.{One}
use Rattle.utf8.proofs.Ascii.{ascii_bytes, ascii_text}
use Rattle.utf8.proofs.Inverse.{decode_encode}
use Rattle.utf8.proofs.Laws.{none_empty, rest_well, one_text, text_join, none_ascii, ascii_code}
use Rattle.utf8.proofs.Texts.{chars_one, by_characters}
use Rattle.number.specs.White.{is_white, kept_of, kept_bytes, plain_text}
use Rattle.number.proofs.Kept.{white_kept, other_kept, ascii_kept, lowered_ways, kept_join}

-- no separator stands in it
abbrev pub Free : List ℕ → Type 0
Free xs = has separator xs ≡ false

pub neither : (s t : Bool) → s || t ≡ false → (s ≡ false) × (t ≡ false)
neither true t e = absurd (true≢false e)
neither false t e = (refl, e)

pub free_none : Free []
unfolding has
free_none = refl

pub free_cons : (x : ℕ) (xs : List ℕ) → (x ≡ separator → ⊥) → Free xs → Free (x ∷ xs)
unfolding has
free_cons x xs n f = rw (ne_eqb x separator n, f)

free_first : (x : ℕ) (xs : List ℕ) → Free (x ∷ xs) → x ≡ separator → ⊥
unfolding has
free_first x xs f e = true≢false (sym (eq-eqb x separator e) ∙ (neither (eqb x separator) (has separator xs) f).0)

-- where each byte is greater
free_above : (xs : List ℕ) → ((i : ℕ) → i < length xs → 0x80 ≤ peek_at xs i) → Free xs
free_above [] h = free_none
free_above (x ∷ xs) h = free_cons x xs (λ e. omega (arith, h 0 (omega arith), e)) (free_above xs (λ i l. h (suc i) (omega arith)))

-- a separator has no case
pub lowered_separator : lowered separator ≡ separator
unfolding lowered is_within
lowered_separator = refl

only_separator : (c : ℕ) → lowered c ≡ separator → c ≡ separator
unfolding lowered
only_separator c =
    either (λ n. n ≡ separator → c ≡ separator) (is_within (code "A") (code "Z") c) (λ w e. omega (arith, within_bounds (code "A") (code "Z") c w, e)) (λ w e. e)

-- what is left of two texts, one behind the other
without_join : (xs ys : List ℕ) → without_separators (xs ++ ys) ≡ without_separators xs ++ without_separators ys
unfolding without_separators
without_join [] ys = refl
without_join (x ∷ xs) ys = go (eqb x separator) (without_join xs ys)
  where
    go : (s : Bool) → without_separators (xs ++ ys) ≡ without_separators xs ++ without_separators ys
        → cond s (without_separators (xs ++ ys)) (x ∷ without_separators (xs ++ ys)) ≡ cond s (without_separators xs) (x ∷ without_separators xs) ++ without_separators ys
    go true e = e
    go false e = ap (λ (l : List ℕ). x ∷ l) e

free_stays : (xs ys : List ℕ) → Free xs → without_separators (xs ++ ys) ≡ xs ++ without_separators ys
free_stays xs ys f =
    without_join xs ys ∙ ap (λ (l : List ℕ). l ++ without_separators ys) (none_dropped xs (denied (tests_has separator xs) f))

separator_goes : (ys : List ℕ) → without_separators (separator ∷ ys) ≡ without_separators ys
unfolding without_separators
separator_goes ys = refl

separator_kept : kept_bytes separator ≡ separator ∷ []
unfolding is_white is_within
separator_kept = ascii_kept separator (omega arith) refl ∙ ap (λ (c : ℕ). c ∷ []) lowered_separator

-- what is kept of a character without one has none
kept_free : (c : ℕ) → Free (encoded c) → Free (kept_bytes c)
kept_free c f = go (is_white c) refl
  where
    lower : Free (encoded (lowered c))
    lower =
        ⊎_elim
        (λ l. rw (ascii_bytes (lowered c) l.1) (free_cons (lowered c) [] (λ e. free_first c [] (rw (ascii_bytes c l.0) at f) (only_separator c e)) free_none))
        (λ e. rw e f)
        (lowered_ways c)

    go : (t : Bool) → is_white c ≡ t → Free (kept_bytes c)
    go true e = rw (white_kept c e) free_none
    go false e = rw (other_kept c e) lower

-- a character is a separator or has none
one_ways : (bs : List ℕ) → One bs → (bs ≡ separator ∷ []) ⊎ Free bs
one_ways [] o = let f : ⊥ = omega (arith, o.some) in absurd f
one_ways (x ∷ []) o = go (ℕ_discrete x separator)
  where
    go : Dec (x ≡ separator) → (x ∷ [] ≡ separator ∷ []) ⊎ Free (x ∷ [])
    go (yes e) = inl (ap (λ (c : ℕ). c ∷ []) e)
    go (no n) = inr (free_cons x [] n free_none)
one_ways (x ∷ y ∷ bs) o =
    let w = o.whole in
    inr (free_above (x ∷ y ∷ bs) (λ i l. none_ascii (x ∷ y ∷ bs) i (omega (arith, w)) (omega (arith, w, l))))

-- and its code point's bytes are its own
one_bytes : (bs : List ℕ) → One bs → encoded (code_of (length bs) bs) ≡ bs
one_bytes bs o = rw o.whole at (decode_encode bs (omega (arith, o.some, o.whole))).1 ∙ take-length bs

plain_one : (bs ys : List ℕ) → One bs → plain_text (bs ++ ys) ≡ kept_bytes (code_of (length bs) bs) ++ plain_text ys
plain_one bs ys o = rw (chars_one bs ys o) (kept_join (code_of (length bs) bs) (codes_of ys))

abbrev Left : List ℕ → Type 0
Left xs = WellFormed (without_separators xs) × (plain_text (without_separators xs) ≡ without_separators (plain_text xs))

module _ (bs ys : List ℕ) (o : One bs) (h : Left ys) where
  abbrev c : ℕ
  c = code_of (length bs) bs

  free_left : Free bs → Left (bs ++ ys)
  free_left f =
      let e = free_stays bs ys f in
      let k = kept_free c (rw (one_bytes bs o) f) in (
        rw e (text_join bs (without_separators ys) (one_text bs o) h.0),
        ap plain_text e
            ∙ plain_one bs (without_separators ys) o
            ∙ ap (λ (l : List ℕ). kept_bytes c ++ l) h.1
            ∙ sym (ap without_separators (plain_one bs ys o) ∙ free_stays (kept_bytes c) (plain_text ys) k),
      )

  separator_left : bs ≡ separator ∷ [] → Left (bs ++ ys)
  separator_left e =
      let n : c ≡ separator = ap (λ (l : List ℕ). code_of (length l) l) e ∙ ascii_code separator [] (omega arith) in
      let p : plain_text (bs ++ ys) ≡ separator ∷ plain_text ys = plain_one bs ys o ∙ ap (λ (l : List ℕ). l ++ plain_text ys) (ap kept_bytes n ∙ separator_kept) in
      let w : without_separators (bs ++ ys) ≡ without_separators ys = ap (λ (l : List ℕ). without_separators (l ++ ys)) e ∙ separator_goes ys in
      (rw w h.0, ap plain_text w ∙ h.1 ∙ sym (ap without_separators p ∙ separator_goes (plain_text ys)))

none_left : Left []
unfolding without_separators kept_of
none_left = ((ascii_text [] refl).0, rw (ascii_text [] refl).1)

pub without_kept : (xs : List ℕ) → WellFormed xs → Left xs
without_kept =
    by_characters (λ xs. WellFormed xs → Left xs) (λ xs e w. subst Left (sym (none_empty xs e w)) none_left)
    (λ bs ys o ih w. let h = ih (rest_well bs ys o w) in ⊎_elim (separator_left bs ys o h) (free_left bs ys o h) (one_ways bs o))
