-- The table of words, by one test that the check computes: there are 35 entries, each text is some bytes, short, ASCII and without a colon, each
-- kind is that of numbers or one from `and` to `end`, each text is unlike each that follows, and the slot of each leads to it. So at most one entry
-- has a word for its text, the first that a search finds is the only one, and a word that has an entry finds it by its slot.
use Prim.Native.Nat.{ℕ, ◌≤◌, ◌<◌}
use Prim.Native.Char.{code}
use mathlib.Core.Bool.{Bool, true, false, ◌&&◌, ◌||◌, not, true≢false}
use mathlib.Core.List.{List}
use mathlib.Core.Path.{◌≡◌, refl, sym, ◌∙◌}
use lib.Dec.{eqb, leb, ltb}
use lib.ListN.{length}
use borrow.Author.Tests.{leb-true, ltb-true, eqb-true, not-true}
use Rattle.std.specs.Prelude.{None, Option, Some}
use Rattle.scan.specs.Text.{same_text, has}
use Rattle.scan.proofs.Same.{same_is_equal}
use Rattle.proving.proofs.Below.{all_below, below}
use Rattle.proving.proofs.Choice.{and_left, and_right}
use Rattle.proving.proofs.Tests.{tests_eq, tests_le, tests_or, tests_and}
use Rattle.utf8.specs.laws.Ascii.{is_ascii}
use Rattle.token.specs.Kinds.{number, land, end_kind}
use Rattle.token.specs.Words.{KindText, ◌names◌, words, kind_in}
use Rattle.token.specs.steps.WordRows.{word_count, widest_word, slot_of, row_for}
use Rattle.token.specs.laws.Words.{KindFits, word_at, OneEntry, EntryFound, NoneFound}
use Rattle.token.proofs.Every.{every, distinct, Search, each_found, none_hit, one_hit, hit_found}

-- a kind that a word has
abbrev is_own : ℕ → Bool
is_own k = eqb k number || (leb land k && leb k end_kind)

abbrev pub is_entry : KindText → Bool
is_entry e = (ltb 0 (length e.text) && leb (length e.text) widest_word) && (is_ascii e.text && (is_own e.kind && not (has (code ":") e.text)))

module _ (e : KindText) (t : is_entry e ≡ true) where
  abbrev sized : Bool
  sized = ltb 0 (length e.text) && leb (length e.text) widest_word

  pub some : 0 < length e.text
  some = ltb-true _ _ (and_left _ _ (and_left sized _ t))

  pub short : length e.text ≤ widest_word
  short = leb-true _ _ (and_right (ltb 0 (length e.text)) _ (and_left sized _ t))

  pub plain : is_ascii e.text ≡ true
  plain = and_left _ _ (and_right sized _ t)

  pub own : KindFits (Some e.kind)
  own =
      (tests_or (tests_eq e.kind number) (tests_and (tests_le land e.kind) (tests_le e.kind end_kind))
      ).0 (and_left (is_own e.kind) _ (and_right (is_ascii e.text) _ (and_right sized _ t)))

  pub whole : has (code ":") e.text ≡ false
  whole = not-true _ (and_right (is_own e.kind) _ (and_right (is_ascii e.text) _ (and_right sized _ t)))

-- the search for a word, which is not both of unlike texts
abbrev unlike : KindText → KindText → Bool
unlike e f = not (same_text e.text f.text)

abbrev searched : List ℕ → Search KindText (Option ℕ)
searched w =
    record {
      is_hit = λ e. same_text w e.text;
      value = λ e. Some e.kind;
      find = λ es. kind_in es w;
      turn = λ e es. unfold kind_in in refl;
      unlike = unlike;
      apart = λ e f u p q. true≢false (sym (rw ((same_is_equal w e.text).0 p) at q) ∙ not-true (same_text e.text f.text) u);
    }

-- the slot of an entry leads to it
abbrev is_led : ℕ → Bool
is_led i = eqb (row_for (slot_of (word_at i).text) 0 words) i

tested : eqb (length words) word_count && (every is_entry words && (distinct unlike words && all_below is_led word_count)) ≡ true
unfolding words same_text has row_for slot_of
tested = refl

pub counted : length words ≡ word_count
counted = eqb-true _ _ (and_left _ _ tested)

pub entries : every is_entry words ≡ true
entries = and_left _ _ (and_right (eqb (length words) word_count) _ tested)

slots_tested : distinct unlike words && all_below is_led word_count ≡ true
slots_tested = and_right (every is_entry words) _ (and_right (eqb (length words) word_count) _ tested)

apart : distinct unlike words ≡ true
apart = and_left _ _ slots_tested

pub slot_leads : (i : ℕ) → i < word_count → row_for (slot_of (word_at i).text) 0 words ≡ i
slot_leads i h = eqb-true _ _ (below is_led word_count (and_right (distinct unlike words) _ slots_tested) i h)

-- what holds of each entry that a word may be, and of none, holds of the word
pub word_found : (w : List ℕ) (P : Option ℕ → Type 0) → P None → ((e : KindText) → is_entry e ≡ true → same_text w e.text ≡ true → P (Some e.kind)) → P (kind_in words w)
unfolding kind_in
word_found w P n v = each_found (searched w) is_entry P n v words entries

pub one_entry : OneEntry
one_entry w i j h l = one_hit (searched w) ("" names 0) words apart i j h l

pub entry_found : EntryFound
entry_found w i h = hit_found (searched w) ("" names 0) words apart i h

pub none_found : NoneFound
unfolding kind_in
none_found w n = none_hit (searched w) ("" names 0) words n
