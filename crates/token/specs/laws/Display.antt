-- What the texts of kinds keep to, as statements; `proofs/Displays` and `proofs/Shown` have their proofs.
use Rattle.std.specs.Prelude.{ℕ, ◌<◌, ◌≤◌, ◌≡◌, length, get_or}
use Rattle.token.specs.Kinds.{number}
use Rattle.token.specs.Words.{KindText, ◌names◌, words}
use Rattle.token.specs.Display.{displays, display_of, unknown}
use Rattle.token.specs.laws.Words.{word_at}

-- a row of the texts, and none past the last
abbrev pub shown_at : ℕ → KindText
shown_at i = get_or displays i ("" names 0)

-- no two rows have one kind
abbrev pub KindsDistinct : Type 0
KindsDistinct = (i j : ℕ) → i < length displays → j < length displays → (shown_at i).kind ≡ (shown_at j).kind → i ≡ j

-- a kind is shown as its row says
abbrev pub KindShown : Type 0
KindShown = (i : ℕ) → i < length displays → display_of (shown_at i).kind ≡ (shown_at i).text

-- and a number that no row has, as unknown
abbrev pub OtherUnknown : Type 0
OtherUnknown = (k : ℕ) → ((i : ℕ) → i < length displays → (shown_at i).kind ≡ k → ⊥) → display_of k ≡ unknown

-- a word is shown as itself, but for inf and nan, which are NUMBER
abbrev pub WordShown : Type 0
WordShown = (i : ℕ) → i < length words → ((word_at i).kind ≡ number → ⊥) → display_of (word_at i).kind ≡ (word_at i).text

-- the longest text, `unknown token`, and no text is longer
abbrev pub text_size : ℕ
text_size = 13

abbrev pub DisplayShort : Type 0
DisplayShort = (k : ℕ) → length (display_of k) ≤ text_size
