-- What the crates above may know of words, as statements; `proofs/Lookup`, `proofs/Fits` and `proofs/Table` have their proofs.
use Rattle.std.specs.Prelude.{ℕ, ◌<◌, ◌≤◌, true, List, ◌⊎◌, ◌≡◌, length, get_or, None, Option, Some}
use Prim.Native.Char.{code}
use Rattle.scan.specs.Text.{same_text, has}
use Rattle.token.specs.Kinds.{number, land, end_kind}
use Rattle.token.specs.Words.{KindText, ◌names◌, words, kind_in, keyword_of}
use Rattle.token.specs.steps.WordRows.{word_table, keyword_in}

-- by the table of `words`, a search finds what the definition says
abbrev pub TableFinds : Type 0
TableFinds = (xs : List ℕ) → keyword_in word_table xs ≡ keyword_of xs

-- the kind of a word, if any, is that of numbers, or one from that of `and` to that of `end`
abbrev pub KindFits : Option ℕ → Type 0
KindFits (Some k) = (k ≡ number) ⊎ ((land ≤ k) × (k ≤ end_kind))
KindFits None = Unit {0}

abbrev pub KeywordFits : Type 0
KeywordFits = (xs : List ℕ) → KindFits (keyword_of xs)

-- a row of the words, and none past the last
abbrev pub word_at : ℕ → KindText
word_at i = get_or words i ("" names 0)

-- at most one row has a word for its text
abbrev pub OneEntry : Type 0
OneEntry =
    (w : List ℕ) (i j : ℕ) → i < length words → j < length words → same_text w (word_at i).text ≡ true → same_text w (word_at j).text ≡ true → i ≡ j

-- and its kind is the word's
abbrev pub EntryFound : Type 0
EntryFound = (w : List ℕ) (i : ℕ) → i < length words → same_text w (word_at i).text ≡ true → kind_in words w ≡ Some (word_at i).kind

-- a word that is no row's text has none
abbrev pub NoneFound : Type 0
NoneFound = (w : List ℕ) → ((i : ℕ) → i < length words → same_text w (word_at i).text ≡ true → ⊥) → kind_in words w ≡ None

-- and one with a colon is none
abbrev pub ColonInNone : Type 0
ColonInNone = (xs : List ℕ) → has (code ":") xs ≡ true → keyword_of xs ≡ None
