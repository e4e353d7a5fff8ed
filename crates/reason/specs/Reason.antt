-- Why a word of a query has its kind: document 02, L10. The rules are those of `munch/specs/Word`, numbered in 02's order.
use Rattle.std.specs.Prelude.{ℕ, ◌+◌, cond, List, [], ◌∷◌, eqb, leb, take, drop, Err, Ok, Result, None, Option, Some}
use Rattle.scan.specs.declared.byte.Class.TheVariants.{AlphaNumeric}
use Rattle.scan.specs.declared.byte.Class.TheVariants as class
use Rattle.scan.specs.Byte.{peek_at, is_alpha, is_in}
use Rattle.scan.specs.Run.{run_end}
use Rattle.utf8.specs.declared.Reading.{Reading}
use Rattle.utf8.specs.declared.Refusal.{Refusal}
use Rattle.utf8.specs.Answers.{at_start}
use Rattle.token.specs.Words.{keyword_of}
use Rattle.munch.specs.declared.word.Rule.{Rule}
use Rattle.munch.specs.declared.word.Rule.TheVariants.{Or, InBraces, Table, FillCalled, FillAlone, WithColon, Plain}
use Rattle.munch.specs.Word.{is_word_start, rule_by, brace_rule}
use Rattle.munch.specs.declared.Inside.{Inside}
use Rattle.munch.specs.declared.Inside.TheVariants.{Nothing, Braces, Brackets}
use Rattle.munch.specs.declared.Mode.{Mode}
use Rattle.munch.specs.declared.Step.{Step}
use Rattle.munch.specs.declared.Step.TheVariants as step
use Rattle.munch.specs.Munch.{outside}
use Rattle.lex.specs.Outcome.{steps_of}
use Rattle.lex.specs.Lex.{measured}
use Rattle.reason.specs.declared.Found.{Found}

-- "say one of: `or` before a space in braces; any other word in braces; outside braces, table word other than the three fill words; fill word with `(` next, white
-- space aside; fill word without; word with a colon; plain word"
abbrev pub reason_by : Rule → ℕ
reason_by Or = 1
reason_by InBraces = 2
reason_by (Table k) = 3
reason_by (FillCalled k) = 4
reason_by FillAlone = 5
reason_by WithColon = 6
reason_by Plain = 7

-- the rule of the word that bytes begin with, by what is open; brackets hold no words
unfoldable pub word_outside : List ℕ → Option Rule
word_outside xs =
    let n = run_end (is_in class.Word) xs 1 in
    cond (is_word_start (peek_at xs 0)) (Some (rule_by (keyword_of (take n xs)) xs n)) None

unfoldable pub word_in_braces : List ℕ → Option Rule
word_in_braces xs = cond (is_alpha (peek_at xs 0)) (Some (brace_rule xs (run_end (is_in AlphaNumeric) xs 1))) None

unfoldable pub wording_of : Inside → List ℕ → Option Rule
wording_of Nothing xs = word_outside xs
wording_of Braces xs = word_in_braces xs
wording_of (Brackets seen fresh) xs = None

-- a lexeme begins at an offset, in a mode
abbrev pub found_at : ℕ → Mode → Option Found
found_at at m = Some (record { at = at; mode = m })

-- where the lexeme of a number begins, and in which mode: the steps begin at an offset in a mode, and i lexemes stand before them. Nothing is found for EOF's number,
-- since EOF is no step's
unfoldable pub found_in : ℕ → ℕ → ℕ → Mode → List Step → Option Found
found_in number i at m [] = None
found_in number i at m (step.Lexeme k n next ∷ t) = cond (eqb i number) (found_at at m) (found_in number (i + 1) (at + n) next t)
found_in number i at m (step.Space next ∷ t) = found_in number i (at + 1) next t
found_in number i at m (step.Comment n ∷ t) = found_in number i (at + n) m t
found_in number i at m (step.Refused row o ∷ t) = None
found_in number i at m (step.Finished ∷ t) = None

abbrev pub lexeme_at : Reading → List ℕ → ℕ → Option Found
lexeme_at r q number = found_in number 0 0 outside (steps_of r q)

-- "72 no such lexeme, 74 not a word"
abbrev pub no_lexeme : Result ℕ Refusal
no_lexeme = Err (at_start 72)

abbrev pub no_word : Result ℕ Refusal
no_word = Err (at_start 74)

abbrev pub reason_of : Option Rule → Result ℕ Refusal
reason_of (Some rule) = Ok (reason_by rule)
reason_of None = no_word

abbrev pub reason_at : List ℕ → Option Found → Result ℕ Refusal
reason_at q (Some f) = reason_of (wording_of f.mode.inside (drop f.at q))
reason_at q None = no_word

-- "Refusals: those of lexing, then 72 .., 74"; 3 is none of them, since nothing is lent
abbrev pub reason_as : Reading → ℕ → List ℕ → Result ℕ Refusal → Result ℕ Refusal
reason_as r number q (Ok n) = cond (leb n number) no_lexeme (reason_at q (lexeme_at r q number))
reason_as r number q (Err refusal) = Err refusal

unfoldable pub reasoned : Reading → ℕ → List ℕ → Result ℕ Refusal
reasoned r number q = reason_as r number q (measured r q)
