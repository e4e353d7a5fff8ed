-- The answer that each promise leaves at a telling input: a program that answers otherwise there, as the theorem's name says, cannot be proved. `FUNCTION_gives`
-- is what the promise of FUNCTION answers at arguments.
use Prim.Native.Nat.{ℕ}
use mathlib.Core.List.{List, [], ◌∷◌}
use mathlib.Core.Path.{◌≡◌}
use Rattle.std.specs.Prelude.{Err, Ok, Result}
use Rattle.scan.specs.Ascii.{ascii}
use Rattle.scan.specs.Byte.{is_within, is_in, is_space, is_alpha, is_alpha_numeric, is_word, is_line, is_quote, lowered}
use Rattle.scan.specs.Run.{run_length}
use Rattle.scan.specs.Text.{has, same_text}
use Rattle.scan.specs.Separated.{separated_length}
use Rattle.utf8.specs.declared.Reading.{Reading}
use Rattle.utf8.specs.declared.Reading.TheVariants.{Crate, Documented}
use Rattle.utf8.specs.Table.{fits, size_in, char_length}
use Rattle.utf8.specs.Code.{code_of}
use Rattle.utf8.specs.Text.{chars_past, size_of, begun_in, char_number}
use Rattle.utf8.specs.Answers.{place, validity_of, admitted}
use Rattle.token.specs.Words.{words, kind_in, keyword_of}
use Rattle.numeral.specs.Numeral.{is_hex, fraction_end, exponent_end, number_end, is_unit, numeral_of, duration_from, turn_of, stop_of}
use Rattle.quoted.specs.Quoted.{is_escape, quoted_from, is_raw, raw_from, comment_end}
use Rattle.munch.specs.Word.{is_word_start, is_fill, is_or, rule_by, brace_rule, kind_by}
use Rattle.munch.specs.Munch.{brace_word, brace_equals, colon_step, number_step, quoted_step, word_step, comment_step, bang_step, right_paren_step, deeper, end_step, outside_table, brace_table, bracket_table, step_in, munched}
use Rattle.utf8.specs.declared.Refusal.{Refusal}
use Rattle.proving.proofs.One.{Answers}
use Rattle.lex.specs.Outcome.{steps_past, read_from}
use Rattle.lex.specs.Lex.{answer_by, measured}
use Rattle.reason.specs.Reason.{word_outside, word_in_braces, wording_of, found_in, reasoned}
use Rattle.reason.proofs.word_reason.Kinds as word_reason
use Rattle.reason.proofs.word_reason.Reads as word_reason_reads

-- what computes at a query
reasoning : Unit {0}
unfolding reasoned found_in wording_of word_outside word_in_braces brace_rule is_or is_fill brace_word brace_equals colon_step duration_from turn_of stop_of measured answer_by steps_past read_from munched step_in outside_table brace_table bracket_table is_word_start is_quote quoted_step is_escape quoted_from is_raw raw_from comment_end number_step numeral_of number_end exponent_end fraction_end is_hex is_unit separated_length word_step comment_step is_line bang_step right_paren_step deeper end_step rule_by kind_by keyword_of words kind_in admitted validity_of chars_past size_of char_number begun_in char_length size_in fits code_of is_within is_in is_space is_alpha is_alpha_numeric is_word lowered run_length same_text has
reasoning = tt

-- a refusal by its number, at a byte and a character
abbrev refused : ℕ → ℕ → ℕ → Result ℕ Refusal
refused r b c = Err (record { number = r; place = place b c })

abbrev word_reason_gives : Reading → List ℕ → ℕ → Result ℕ Refusal → Type 0
word_reason_gives r q n v = Answers word_reason.ps word_reason.r word_reason_reads.Post (λ κs a. (a.0.now ≡ q) × (a.1.0 ≡ r) × (a.1.1.0 ≡ n)) (λ κs. v)

word_reason_at : (r : Reading) (q : List ℕ) (n : ℕ) → word_reason_gives r q n (reasoned r n q)
word_reason_at r q n κs a x e p h = cc (p, h.0, h.1, h.2)

pub or_before_a_space_in_braces_is_or : word_reason_gives Crate (ascii "{or }") 1 (Ok 1)
unfolding reasoning
or_before_a_space_in_braces_is_or = word_reason_at _ _ _

pub or_in_upper_case_is_too : word_reason_gives Documented (ascii "{OR }") 1 (Ok 1)
unfolding reasoning
or_in_upper_case_is_too = word_reason_at _ _ _

pub or_before_a_tab_is_a_name : word_reason_gives Crate (ascii "{or\t}") 1 (Ok 2)
unfolding reasoning
or_before_a_tab_is_a_name = word_reason_at _ _ _

pub or_before_a_brace_is_a_name : word_reason_gives Crate (ascii "{or}") 1 (Ok 2)
unfolding reasoning
or_before_a_brace_is_a_name = word_reason_at _ _ _

pub longer_word_than_or_is_a_name : word_reason_gives Crate (ascii "{order }") 1 (Ok 2)
unfolding reasoning
longer_word_than_or_is_a_name = word_reason_at _ _ _

pub word_of_the_table_in_braces_is_a_name : word_reason_gives Crate (ascii "{sum}") 1 (Ok 2)
unfolding reasoning
word_of_the_table_in_braces_is_a_name = word_reason_at _ _ _

pub fill_word_in_braces_is_a_name : word_reason_gives Crate (ascii "{fill}") 1 (Ok 2)
unfolding reasoning
fill_word_in_braces_is_a_name = word_reason_at _ _ _

pub word_of_the_table_has_its_kind_by_it : word_reason_gives Crate (ascii "sum") 0 (Ok 3)
unfolding reasoning
word_of_the_table_has_its_kind_by_it = word_reason_at _ _ _

pub word_behind_braces_is_outside : word_reason_gives Crate (ascii "{a}or") 3 (Ok 3)
unfolding reasoning
word_behind_braces_is_outside = word_reason_at _ _ _

pub number_that_is_a_word_is_of_the_table : word_reason_gives Documented (ascii "1-inf") 2 (Ok 3)
unfolding reasoning
number_that_is_a_word_is_of_the_table = word_reason_at _ _ _

pub fill_word_before_a_parenthesis_has_its_kind : word_reason_gives Crate (ascii "fill (1)") 0 (Ok 4)
unfolding reasoning
fill_word_before_a_parenthesis_has_its_kind = word_reason_at _ _ _

pub so_has_each_fill_word_in_any_case : word_reason_gives Documented (ascii "FILL_LEFT\n(1)") 0 (Ok 4)
unfolding reasoning
so_has_each_fill_word_in_any_case = word_reason_at _ _ _

pub fill_word_alone_is_a_name : word_reason_gives Crate (ascii "fill") 0 (Ok 5)
unfolding reasoning
fill_word_alone_is_a_name = word_reason_at _ _ _

pub comment_is_no_white_space_before_a_parenthesis : word_reason_gives Crate (ascii "fill#\n(1)") 0 (Ok 5)
unfolding reasoning
comment_is_no_white_space_before_a_parenthesis = word_reason_at _ _ _

pub word_with_a_colon_is_no_plain_word : word_reason_gives Crate (ascii "a:b") 0 (Ok 6)
unfolding reasoning
word_with_a_colon_is_no_plain_word = word_reason_at _ _ _

pub colon_alone_is_a_word : word_reason_gives Documented (ascii ":") 0 (Ok 6)
unfolding reasoning
colon_alone_is_a_word = word_reason_at _ _ _

pub plain_word_is_not_of_the_table : word_reason_gives Crate (ascii "a") 0 (Ok 7)
unfolding reasoning
plain_word_is_not_of_the_table = word_reason_at _ _ _

pub separator_is_taken_in_the_documented_reading : word_reason_gives Documented (ascii "1_0 a") 1 (Ok 7)
unfolding reasoning
separator_is_taken_in_the_documented_reading = word_reason_at _ _ _

pub separator_is_refused_in_the_crate_reading : word_reason_gives Crate (ascii "1_0 a") 1 (refused 20 1 1)
unfolding reasoning
separator_is_refused_in_the_crate_reading = word_reason_at _ _ _

pub colon_in_brackets_is_no_word : word_reason_gives Crate (ascii "a[5m:]") 3 (refused 74 0 0)
unfolding reasoning
colon_in_brackets_is_no_word = word_reason_at _ _ _

pub string_that_looks_like_a_word_is_none : word_reason_gives Crate (ascii "'a'") 0 (refused 74 0 0)
unfolding reasoning
string_that_looks_like_a_word_is_none = word_reason_at _ _ _

pub nor_is_it_in_braces : word_reason_gives Crate (ascii "{a='or '}") 3 (refused 74 0 0)
unfolding reasoning
nor_is_it_in_braces = word_reason_at _ _ _

pub number_is_no_word : word_reason_gives Crate (ascii "5") 0 (refused 74 0 0)
unfolding reasoning
number_is_no_word = word_reason_at _ _ _

pub duration_is_no_word : word_reason_gives Crate (ascii "5m") 0 (refused 74 0 0)
unfolding reasoning
duration_is_no_word = word_reason_at _ _ _

pub end_is_no_word : word_reason_gives Crate (ascii "a") 1 (refused 74 0 0)
unfolding reasoning
end_is_no_word = word_reason_at _ _ _

pub lexeme_past_the_end_is_none : word_reason_gives Crate (ascii "a") 2 (refused 72 0 0)
unfolding reasoning
lexeme_past_the_end_is_none = word_reason_at _ _ _

pub query_is_refused_before_its_word_is_given : word_reason_gives Crate (ascii "a !") 0 (refused 13 3 3)
unfolding reasoning
query_is_refused_before_its_word_is_given = word_reason_at _ _ _

pub query_is_refused_before_its_count_is_met : word_reason_gives Crate (ascii "!") 5 (refused 13 1 1)
unfolding reasoning
query_is_refused_before_its_count_is_met = word_reason_at _ _ _

pub text_that_is_not_utf8_is_refused : word_reason_gives Crate (0xff ∷ []) 0 (refused 2 0 0)
unfolding reasoning
text_that_is_not_utf8_is_refused = word_reason_at _ _ _
