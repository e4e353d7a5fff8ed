-- The seven conditions of document 02's L10, each said by itself of a query, its lexemes and one of them: "`or` before a space in braces; any other word in braces;
-- outside braces, table word other than the three fill words; fill word with `(` next, white space aside; fill word without; word with a colon; plain word". Of the lexemes before
-- it their places and kinds are used alone: modes, steps and the order in which a reader tests have no part in it.
use Rattle.std.specs.Prelude.{ℕ, ◌+◌, ◌≤◌, ◌<◌, true, List, map, ◌⊎◌, ◌≡◌, take, drop, Some}
use Prim.Native.Char.{code}
use Rattle.scan.specs.Ascii.{ascii}
use Rattle.scan.specs.Byte.{peek_at, is_space, is_alpha, lowered}
use Rattle.scan.specs.Text.{has}
use Rattle.token.specs.Kinds.{identifier, metric_identifier, left_brace, right_brace, left_bracket, right_bracket, lor}
use Rattle.token.specs.Words.{keyword_of}
use Rattle.munch.specs.Word.{is_word_start}
use Rattle.lex.specs.Outcome.{Entry}
use Rattle.depths.specs.Open.{Since}
use Rattle.depths.specs.laws.Modes.{kinds_before}

-- the bytes of a lexeme, the first of them, and where it ends
abbrev pub text_of : List ℕ → Entry → List ℕ
text_of q e = take e.length (drop e.start q)

abbrev pub first_of : List ℕ → Entry → ℕ
first_of q e = peek_at q e.start

abbrev pub end_of : Entry → ℕ
end_of e = e.start + e.length

-- "in braces": a `{` before it is without its `}`; "outside braces", which 02 says of the third to the seventh: nor is a `[` without its `]`, since brackets
-- hold no words
abbrev pub BracesOpen : List Entry → Entry → Type 0
BracesOpen es e = Since left_brace right_brace (kinds_before e.start es)

abbrev pub NothingOpen : List Entry → Entry → Type 0
NothingOpen es e = (¬ (BracesOpen es e)) × (¬ (Since left_bracket right_bracket (kinds_before e.start es)))

-- a word: 01: "Outside braces a word starts with a letter or `:`", in braces with a letter
abbrev pub WordInBraces : List ℕ → List Entry → Entry → Type 0
WordInBraces q es e = BracesOpen es e × (is_alpha (first_of q e) ≡ true)

abbrev pub WordOutside : List ℕ → List Entry → Entry → Type 0
WordOutside q es e = NothingOpen es e × (is_word_start (first_of q e) ≡ true)

abbrev pub IsWord : List ℕ → List Entry → Entry → Type 0
IsWord q es e = WordInBraces q es e ⊎ WordOutside q es e

-- 01: "the word `or` in any case, with byte 32 next"
abbrev pub IsOr : List ℕ → Entry → Type 0
IsOr q e = (map lowered (text_of q e) ≡ ascii "or") × (peek_at q (end_of e) ≡ code " ")

-- a word of 01's table, in any case
abbrev pub InTable : List ℕ → Entry → Type 0
InTable q e = (k : ℕ) × (keyword_of (text_of q e) ≡ Some k)

-- "the three fill words", in any case
abbrev pub IsFill : List ℕ → Entry → Type 0
IsFill q e = let t = map lowered (text_of q e) in (t ≡ ascii "fill") ⊎ ((t ≡ ascii "fill_left") ⊎ (t ≡ ascii "fill_right"))

-- "`(` next, white space aside"
abbrev pub Called : List ℕ → Entry → Type 0
Called q e = (j : ℕ) × (end_of e ≤ j) × ((i : ℕ) → end_of e ≤ i → i < j → is_space (peek_at q i) ≡ true) × (peek_at q j ≡ code "(")

abbrev pub HasColon : List ℕ → Entry → Type 0
HasColon q e = has (code ":") (text_of q e) ≡ true

-- the seven by their numbers; a plain word is no fill word either, since those are of the table
pub data Applies (q : List ℕ) (es : List Entry) (e : Entry) : ℕ → Type 0 where
  or_in_braces : WordInBraces q es e → IsOr q e → Applies q es e 1
  word_of_braces : WordInBraces q es e → (¬ (IsOr q e)) → Applies q es e 2
  table_word : WordOutside q es e → InTable q e → (¬ (IsFill q e)) → Applies q es e 3
  fill_called : WordOutside q es e → IsFill q e → Called q e → Applies q es e 4
  fill_alone : WordOutside q es e → IsFill q e → (¬ (Called q e)) → Applies q es e 5
  with_colon : WordOutside q es e → HasColon q e → Applies q es e 6
  plain : WordOutside q es e → (¬ (InTable q e)) → (¬ (HasColon q e)) → Applies q es e 7

-- the kind that each of them gives a word
pub data Gives (word : List ℕ) : ℕ → ℕ → Type 0 where
  or_is_or : Gives word 1 lor
  name_in_braces : Gives word 2 identifier
  its_own : (k : ℕ) → keyword_of word ≡ Some k → Gives word 3 k
  called_its_own : (k : ℕ) → keyword_of word ≡ Some k → Gives word 4 k
  fill_is_a_name : Gives word 5 identifier
  metric_name : Gives word 6 metric_identifier
  name : Gives word 7 identifier
