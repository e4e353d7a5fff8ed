-- The text that a kind is shown as: document 01's "Kinds", with the texts of token.rs's `token_display`.
use Rattle.utf8.specs.declared.Refusal.{Refusal}
use Rattle.std.specs.Prelude.{ℕ, cond, List, [], ◌∷◌, ◌++◌, eqb, Result}
use Rattle.scan.specs.Ascii.{ascii}
use Rattle.utf8.specs.Writing.{fitted}
use Rattle.token.specs.Kinds.{eof_kind, identifier, metric_identifier, string, number, duration, left_paren, right_paren, left_brace, right_brace, left_bracket, right_bracket, comma, colon, eql, add, sub, mul, div, modulo, pow, eqlc, neq, lte, lss, gte, gtr, eql_regex, neq_regex, at_sign}
use Rattle.token.specs.Words.{KindText, ◌names◌, words}

-- the kinds that no word has for its own, and how each is shown
unfoldable pub wordless : List KindText
wordless =
    "<eof>" names eof_kind
    ∷ "{ID}" names identifier
    ∷ "{Metric_ID}" names metric_identifier
    ∷ "{Str}" names string
    ∷ "{Num}" names number
    ∷ "[du]" names duration
    ∷ "(" names left_paren
    ∷ ")" names right_paren
    ∷ "{" names left_brace
    ∷ "}" names right_brace
    ∷ "[" names left_bracket
    ∷ "]" names right_bracket
    ∷ "," names comma
    ∷ ":" names colon
    ∷ "=" names eql
    ∷ "+" names add
    ∷ "-" names sub
    ∷ "*" names mul
    ∷ "/" names div
    ∷ "%" names modulo
    ∷ "^" names pow
    ∷ "==" names eqlc
    ∷ "!=" names neq
    ∷ "<=" names lte
    ∷ "<" names lss
    ∷ ">=" names gte
    ∷ ">" names gtr
    ∷ "=~" names eql_regex
    ∷ "!~" names neq_regex
    ∷ "@" names at_sign
    ∷ []

-- the words but inf and nan, which are NUMBER
unfoldable pub own_kinds : List KindText → List KindText
own_kinds [] = []
own_kinds (e ∷ es) = cond (eqb e.kind number) (own_kinds es) (e ∷ own_kinds es)

-- every kind, in the order of their numbers: a word's is shown as the word
unfoldable pub displays : List KindText
displays = wordless ++ own_kinds words

-- "Other numbers .. show `unknown token`."
abbrev pub unknown : List ℕ
unknown = ascii "unknown token"

-- the text of the row that has a kind
unfoldable pub text_in : List KindText → ℕ → List ℕ
text_in [] k = unknown
text_in (e ∷ es) k = cond (eqb e.kind k) e.text (text_in es k)

abbrev pub display_of : ℕ → List ℕ
display_of k = text_in displays k

-- how many bytes of it a buffer takes: all, or refusal 3
abbrev pub displayed : ℕ → ℕ → Result ℕ Refusal
displayed room k = fitted room (display_of k)
