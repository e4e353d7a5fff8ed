-- A word of the table is a fill word by its kind exactly where it is one by its text: the texts of the table are ASCII, so that a word is looked for by its bytes
-- (`by_bytes` of utf8), and in each row the kind is a fill word's where the text is one (`each_agrees`).
use Prim.Native.Nat.{ℕ, ◌<◌}
use mathlib.Core.Bool.{Bool, true, false, cond, not, ◌&&◌, ◌||◌, true≢false}
use mathlib.Core.List.{List, [], ◌∷◌, map}
use mathlib.Core.Logic.{inl, inr}
use mathlib.Core.Path.{◌≡◌, refl, sym, ap, subst, ◌∙◌}
use lib.ListN.{length}
use Rattle.std.specs.Prelude.{None, Option, Some}
use Rattle.scan.specs.Ascii.{ascii}
use Rattle.scan.specs.Byte.{is_within, lowered}
use Rattle.scan.specs.Text.{same_text}
use Rattle.scan.proofs.Same.{same_is_equal}
use Rattle.proving.proofs.Below.{below}
use Rattle.proving.proofs.Choice.{either, and_left, and_right}
use Rattle.proving.proofs.Tests.{Tests, tests_or}
use Rattle.utf8.specs.laws.Ascii.{is_ascii}
use Rattle.utf8.proofs.Ascii.{by_bytes, lowered_other}
use Rattle.token.specs.Kinds.{fill, fill_left, fill_right}
use Rattle.token.specs.Words.{KindText, words, kind_in, keyword_of}
use Rattle.token.specs.laws.Words.{word_at}
use Rattle.token.proofs.Table.{none_found}
use Rattle.munch.specs.Word.{is_fill}
use Rattle.lex.specs.Outcome.{Entry}
use Rattle.reason.specs.Conditions.{text_of, InTable, IsFill}

-- a word is looked for by its bytes
rows_ascii : (i : ℕ) → i < length words → is_ascii (word_at i).text ≡ true
unfolding words
rows_ascii = below (λ i. is_ascii (word_at i).text) (length words) refl

found_by_bytes : (xs : List ℕ) → kind_in words (map lowered xs) ≡ keyword_of xs
unfolding keyword_of
found_by_bytes =
    by_bytes (Option ℕ) None (λ ys. kind_in words (map lowered ys))
    (λ ys a. none_found (map lowered ys) (λ i l s. true≢false (sym s ∙ lowered_other ys (word_at i).text a (rows_ascii i l))))

-- the test of a text, and the rows in which that of the kind agrees with it
abbrev is_fill_text : List ℕ → Bool
is_fill_text w = same_text w (ascii "fill") || (same_text w (ascii "fill_left") || same_text w (ascii "fill_right"))

abbrev agreed : KindText → Bool
agreed e = cond (is_fill_text e.text) (is_fill e.kind) (not (is_fill e.kind))

abbrev agreeing : List KindText → Bool
agreeing [] = true
agreeing (e ∷ es) = agreed e && agreeing es

each_agrees : agreeing words ≡ true
unfolding words same_text is_fill is_within
each_agrees = refl

alike : (a b : Bool) → cond a b (not b) ≡ true → b ≡ a
alike true b h = h
alike false true h = sym h
alike false false h = refl

-- so they agree of the row that a word is found in
abbrev Agrees : List ℕ → Option ℕ → Type 0
Agrees w (Some k) = is_fill k ≡ is_fill_text w
Agrees w None = Unit {0}

agrees : (es : List KindText) (w : List ℕ) → agreeing es ≡ true → Agrees w (kind_in es w)
unfolding kind_in
agrees [] w h = tt
agrees (e ∷ es) w h =
    either (Agrees w) (same_text w e.text)
    (λ s. rw ((same_is_equal w e.text).0 s) (alike (is_fill_text e.text) (is_fill e.kind) (and_left (agreed e) (agreeing es) h)))
    (λ s. agrees es w (and_right (agreed e) (agreeing es) h))

module _ (q : List ℕ) (e : Entry) where
  abbrev low : List ℕ
  low = map lowered (text_of q e)

  pub fill_tested : (k : ℕ) → keyword_of (text_of q e) ≡ Some k → Tests (is_fill k) (IsFill q e)
  fill_tested k f =
      let a : is_fill k ≡ is_fill_text low = subst (Agrees low) (found_by_bytes (text_of q e) ∙ f) (agrees words low each_agrees) in
      rw a (tests_or (same_is_equal low (ascii "fill")) (tests_or (same_is_equal low (ascii "fill_left")) (same_is_equal low (ascii "fill_right"))))

  -- and a fill word is found
  found_as : (k : ℕ) {w : List ℕ} → kind_in words w ≡ Some k → low ≡ w → InTable q e
  found_as k f z = (k, sym (found_by_bytes (text_of q e)) ∙ ap (kind_in words) z ∙ f)

  pub fill_in_table : IsFill q e → InTable q e
  unfolding words kind_in same_text
  fill_in_table (inl z) = found_as fill refl z
  fill_in_table (inr (inl z)) = found_as fill_left refl z
  fill_in_table (inr (inr z)) = found_as fill_right refl z
