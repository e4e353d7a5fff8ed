-- The rule that gives a word its kind: document 01, "Lexing rules". A word is the first n bytes of those that are left.
use Rattle.std.specs.Prelude.{ℕ, Bool, cond, ◌&&◌, ◌||◌, List, map, eqb, take, None, Option, Some}
use Prim.Native.Char.{code}
use Rattle.scan.specs.declared.byte.Class.TheVariants.{Space}
use Rattle.scan.specs.Ascii.{ascii}
use Rattle.scan.specs.Byte.{peek_at, is_within, is_alpha, lowered, is_in}
use Rattle.scan.specs.Run.{run_end}
use Rattle.scan.specs.Text.{same_text, has}
use Rattle.munch.specs.declared.word.Rule.{Rule}
use Rattle.munch.specs.declared.word.Rule.TheVariants.{Or, InBraces, Table, FillCalled, FillAlone, WithColon, Plain}
use Rattle.token.specs.Kinds.{identifier, metric_identifier, lor, fill, fill_right}

-- "Outside braces a word starts with a letter or `:`"
unfoldable pub is_word_start : ℕ → Bool
is_word_start c = is_alpha c || eqb c (code ":")

-- "fill, fill_left and fill_right"
unfoldable pub is_fill : ℕ → Bool
is_fill kind = is_within fill fill_right kind

-- "with a colon"
abbrev pub has_colon : List ℕ → ℕ → Bool
has_colon xs n = has (code ":") (take n xs)

-- "`(` follows, white space aside"
abbrev pub past_white : List ℕ → ℕ → ℕ
past_white xs n = run_end (is_in Space) xs n

abbrev pub is_called : List ℕ → ℕ → Bool
is_called xs n = eqb (peek_at xs (past_white xs n)) (code "(")

-- outside braces, by the kind that the word has of its own
unfoldable pub rule_by : Option ℕ → List ℕ → ℕ → Rule
rule_by (Some k) xs n = cond (is_fill k) (cond (is_called xs n) (FillCalled k) FillAlone) (Table k)
rule_by None xs n = cond (has_colon xs n) WithColon Plain

-- "the word `or` in any case, with byte 32 next"
unfoldable pub is_or : List ℕ → ℕ → Bool
is_or xs n = same_text (map lowered (take n xs)) (ascii "or") && eqb (peek_at xs n) (code " ")

unfoldable pub brace_rule : List ℕ → ℕ → Rule
brace_rule xs n = cond (is_or xs n) Or InBraces

-- "A word of the table, in any case, has its kind; but fill, fill_left and fill_right are IDENTIFIER unless `(` follows, white space aside.
-- Other words are METRIC_IDENTIFIER with a colon, else IDENTIFIER." "Inside braces every word (no colon) is IDENTIFIER, but the word `or` .. gives
-- kind 36."
unfoldable pub kind_by : Rule → ℕ
kind_by Or = lor
kind_by InBraces = identifier
kind_by (Table k) = k
kind_by (FillCalled k) = k
kind_by FillAlone = identifier
kind_by WithColon = metric_identifier
kind_by Plain = identifier
