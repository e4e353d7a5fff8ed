-- The answer, and the content of each lent list, that each promise leaves at a telling input: a program that answers or writes otherwise
-- there, as the theorem's name says, cannot be proved. `FUNCTION_gives` and `FUNCTION_leaves_LIST` say what, at the query and the lists.
use Prim.Native.Nat.{ℕ}
use mathlib.Core.List.{List, [], ◌∷◌}
use mathlib.Core.Path.{◌≡◌}
use lib.ListN.{length}
use contract.Lifetimes.{Lfts}
use borrow.Fn.Kinds.{Dens}
use Rattle.std.specs.Prelude.{Err, Ok, Result}
use Rattle.scan.specs.Ascii.{ascii}
use Rattle.scan.specs.Byte.{is_within, is_in, is_space, is_alpha, is_alpha_numeric, is_word, is_line, is_quote, lowered}
use Rattle.proving.proofs.One.{Answers, Leaves}
use Rattle.scan.specs.Run.{run_length}
use Rattle.scan.specs.Text.{has, same_text}
use Rattle.scan.specs.Separated.{separated_length}
use Rattle.utf8.specs.declared.Reading.{Reading}
use Rattle.utf8.specs.declared.Reading.TheVariants.{Crate, Documented}
use Rattle.utf8.specs.Table.{fits, size_in, char_length}
use Rattle.utf8.specs.Code.{code_of}
use Rattle.utf8.specs.Text.{chars_past, size_of, begun_in, char_number}
use Rattle.utf8.specs.Answers.{place, no_room, validity_of, admitted}
use Rattle.token.specs.Kinds.{identifier, string, number, left_brace, right_brace, left_bracket, right_bracket, comma}
use Rattle.token.specs.Words.{words, kind_in, keyword_of}
use Rattle.numeral.specs.Numeral.{is_hex, fraction_end, exponent_end, number_end, is_unit, numeral_of}
use Rattle.quoted.specs.Quoted.{is_escape, quoted_from, is_raw, raw_from, comment_end}
use Rattle.munch.specs.Word.{is_word_start, rule_by, kind_by}
use Rattle.munch.specs.Munch.{number_step, quoted_step, word_step, comment_step, bang_step, right_paren_step, deeper, end_step, outside_table, brace_table, bracket_table, step_in, munched}
use Rattle.lex.specs.Outcome.{steps_past, read_from}
use Rattle.lex.specs.Lex.{answer_by, measured, lexed, listed, left_after, kind_of, starts_at, length_of, depth_of, shortest}
use Rattle.utf8.specs.declared.Refusal.{Refusal}
use Rattle.lex.proofs.measure.Kinds as measure
use Rattle.lex.proofs.measure.Reads as measure_reads
use Rattle.lex.proofs.lexer.Kinds as lexer
use Rattle.lex.proofs.lexer.Reads as lexer_reads

-- what computes at a query
lexing : Unit {0}
unfolding lexed measured answer_by steps_past read_from munched step_in outside_table brace_table bracket_table is_word_start is_quote quoted_step is_escape quoted_from is_raw raw_from comment_end number_step numeral_of number_end exponent_end fraction_end is_hex is_unit separated_length word_step comment_step is_line bang_step right_paren_step deeper end_step rule_by kind_by keyword_of words kind_in admitted validity_of chars_past size_of char_number begun_in char_length size_in fits code_of is_within is_in is_space is_alpha is_alpha_numeric is_word lowered run_length same_text has
lexing = tt

-- a refusal by its number, at a byte and a character
abbrev refused : ℕ → ℕ → ℕ → Result ℕ Refusal
refused r b c = Err (record { number = r; place = place b c })

abbrev measure_gives : Reading → List ℕ → Result ℕ Refusal → Type 0
measure_gives r q v = Answers measure.ps measure.r measure_reads.Post (λ κs a. (a.0.now ≡ q) × (a.1.0 ≡ r)) (λ κs. v)

measure_at : (r : Reading) (q : List ℕ) → measure_gives r q (measured r q)
measure_at r q κs a x e p h = cc (p, h.0, h.1)

pub end_is_counted_once : measure_gives Crate (ascii "a") (Ok 2)
unfolding lexing
end_is_counted_once = measure_at _ _

-- the step is refused behind the byte that it begins with
pub refusal_is_not_where_the_step_began : measure_gives Crate (ascii "!a") (refused 12 1 1)
unfolding lexing
refusal_is_not_where_the_step_began = measure_at _ _

pub place_is_counted_in_characters : measure_gives Crate (0xc3 ∷ 0xa9 ∷ 0xff ∷ []) (refused 2 2 1)
unfolding lexing
place_is_counted_in_characters = measure_at _ _

pub separator_is_refused_in_the_crate_reading : measure_gives Crate (ascii "1_0") (refused 20 1 1)
unfolding lexing
separator_is_refused_in_the_crate_reading = measure_at _ _

pub separator_is_taken_in_the_documented_reading : measure_gives Documented (ascii "[1_0]") (Ok 4)
unfolding lexing
separator_is_taken_in_the_documented_reading = measure_at _ _

pub number_with_a_separator_begins_no_duration : measure_gives Documented (ascii "1_0m") (refused 20 3 3)
unfolding lexing
number_with_a_separator_begins_no_duration = measure_at _ _

pub backslash_between_backquotes_is_refused_in_the_crate_reading : measure_gives Crate (ascii "`\\d`") (refused 21 2 2)
unfolding lexing
backslash_between_backquotes_is_refused_in_the_crate_reading = measure_at _ _

pub backslash_between_backquotes_is_itself_in_the_documented_reading : measure_gives Documented (ascii "{`\\d`}") (Ok 4)
unfolding lexing
backslash_between_backquotes_is_itself_in_the_documented_reading = measure_at _ _

-- the query, its reading, and the four lists that are lent
abbrev Given : List ℕ → Reading → List ℕ → List ℕ → List ℕ → List ℕ → (κs : Lfts 5) → Dens κs lexer.ps → Type 0
Given q r ks ss ls ds κs a =
    (a.0.now ≡ q) × (a.1.0 ≡ r) × (a.1.1.0.now ≡ ks) × (a.1.1.1.0.now ≡ ss) × (a.1.1.1.1.0.now ≡ ls) × (a.1.1.1.1.1.0.now ≡ ds)

abbrev nines : List ℕ
nines = 9 ∷ 9 ∷ 9 ∷ []

abbrev lexer_gives : Reading → List ℕ → List ℕ → List ℕ → List ℕ → List ℕ → Result ℕ Refusal → Type 0
lexer_gives r q ks ss ls ds v = Answers lexer.ps lexer.r lexer_reads.Post (Given q r ks ss ls ds) (λ κs. v)

lexer_at : (r : Reading) (q ks ss ls ds : List ℕ) → lexer_gives r q ks ss ls ds (lexed r (shortest (length ks) (length ss) (length ls) (length ds)) q)
lexer_at r q ks ss ls ds κs a x e p h = cc (p.0, h.0, h.1, h.2, h.3, h.4, h.5)

pub query_with_room_is_not_refused : lexer_gives Crate (ascii "ab") nines nines nines nines (Ok 2)
unfolding lexing
query_with_room_is_not_refused = lexer_at _ _ _ _ _ _

pub shortest_list_is_the_room : lexer_gives Crate (ascii "ab") nines nines (9 ∷ []) nines (Err no_room)
unfolding lexing
shortest_list_is_the_room = lexer_at _ _ _ _ _ _

pub first_list_is_room_too : lexer_gives Crate (ascii "ab") (9 ∷ []) nines nines nines (Err no_room)
unfolding lexing
first_list_is_room_too = lexer_at _ _ _ _ _ _

pub second_list_is_room_too : lexer_gives Crate (ascii "ab") nines (9 ∷ []) nines nines (Err no_room)
unfolding lexing
second_list_is_room_too = lexer_at _ _ _ _ _ _

pub fourth_list_is_room_too : lexer_gives Crate (ascii "ab") nines nines nines (9 ∷ []) (Err no_room)
unfolding lexing
fourth_list_is_room_too = lexer_at _ _ _ _ _ _

pub lexer_refuses_a_separator_in_the_crate_reading : lexer_gives Crate (ascii "1_0") nines nines nines nines (refused 20 1 1)
unfolding lexing
lexer_refuses_a_separator_in_the_crate_reading = lexer_at _ _ _ _ _ _

pub lexer_takes_a_separator_in_the_documented_reading : lexer_gives Documented (ascii "1_0") nines nines nines nines (Ok 2)
unfolding lexing
lexer_takes_a_separator_in_the_documented_reading = lexer_at _ _ _ _ _ _

pub lexer_refuses_a_unit_behind_a_separator : lexer_gives Documented (ascii "1_0m") nines nines nines nines (refused 20 3 3)
unfolding lexing
lexer_refuses_a_unit_behind_a_separator = lexer_at _ _ _ _ _ _

pub lexer_refuses_a_backslash_between_backquotes_in_the_crate_reading : lexer_gives Crate (ascii "`\\d`") nines nines nines nines (refused 21 2 2)
unfolding lexing
lexer_refuses_a_backslash_between_backquotes_in_the_crate_reading = lexer_at _ _ _ _ _ _

pub lexer_takes_a_backslash_between_backquotes_in_the_documented_reading : lexer_gives Documented (ascii "`\\d`") nines nines nines nines (Ok 2)
unfolding lexing
lexer_takes_a_backslash_between_backquotes_in_the_documented_reading = lexer_at _ _ _ _ _ _

abbrev lexer_leaves_kinds : Reading → List ℕ → List ℕ → List ℕ → List ℕ → List ℕ → List ℕ → Type 0
lexer_leaves_kinds r q ks ss ls ds v = Leaves lexer.ps lexer.r lexer_reads.Post (Given q r ks ss ls ds) (λ κs e. e.1.1.0.now) v

lexer_left_kinds : (r : Reading) (q ks ss ls ds : List ℕ) → lexer_leaves_kinds r q ks ss ls ds (left_after (lexed r (shortest (length ks) (length ss) (length ls) (length ds)) q) (listed r kind_of q ks) ks)
lexer_left_kinds r q ks ss ls ds κs a x e p h = cc (p.0, p.1.0, h.0, h.1, h.2, h.3, h.4, h.5)

pub kind_is_written : lexer_leaves_kinds Crate (ascii "ab") nines nines nines nines (identifier ∷ 0 ∷ 9 ∷ [])
unfolding lexing
kind_is_written = lexer_left_kinds _ _ _ _ _ _

pub comma_is_no_identifier : lexer_leaves_kinds Crate (ascii ",") nines nines nines nines (comma ∷ 0 ∷ 9 ∷ [])
unfolding lexing
comma_is_no_identifier = lexer_left_kinds _ _ _ _ _ _

pub end_is_no_comma : lexer_leaves_kinds Crate [] nines nines nines nines (0 ∷ 9 ∷ 9 ∷ [])
unfolding lexing
end_is_no_comma = lexer_left_kinds _ _ _ _ _ _

pub refused_query_leaves_the_kinds : lexer_leaves_kinds Crate (ascii "a!") nines nines nines nines nines
unfolding lexing
refused_query_leaves_the_kinds = lexer_left_kinds _ _ _ _ _ _

pub number_with_a_separator_is_a_number : lexer_leaves_kinds Documented (ascii "1_0") nines nines nines nines (number ∷ 0 ∷ 9 ∷ [])
unfolding lexing
number_with_a_separator_is_a_number = lexer_left_kinds _ _ _ _ _ _

pub and_so_in_brackets : lexer_leaves_kinds Documented (ascii "[1_0]") (9 ∷ nines) (9 ∷ nines) (9 ∷ nines) (9 ∷ nines) (left_bracket ∷ number ∷ right_bracket ∷ 0 ∷ [])
unfolding lexing
and_so_in_brackets = lexer_left_kinds _ _ _ _ _ _

pub text_between_backquotes_is_a_string : lexer_leaves_kinds Documented (ascii "`\\d`") nines nines nines nines (string ∷ 0 ∷ 9 ∷ [])
unfolding lexing
text_between_backquotes_is_a_string = lexer_left_kinds _ _ _ _ _ _

pub and_so_in_braces : lexer_leaves_kinds Documented (ascii "{`\\d`}") (9 ∷ nines) (9 ∷ nines) (9 ∷ nines) (9 ∷ nines) (left_brace ∷ string ∷ right_brace ∷ 0 ∷ [])
unfolding lexing
and_so_in_braces = lexer_left_kinds _ _ _ _ _ _

abbrev lexer_leaves_starts : Reading → List ℕ → List ℕ → List ℕ → List ℕ → List ℕ → List ℕ → Type 0
lexer_leaves_starts r q ks ss ls ds v = Leaves lexer.ps lexer.r lexer_reads.Post (Given q r ks ss ls ds) (λ κs e. e.1.1.1.0.now) v

lexer_left_starts : (r : Reading) (q ks ss ls ds : List ℕ) → lexer_leaves_starts r q ks ss ls ds (left_after (lexed r (shortest (length ks) (length ss) (length ls) (length ds)) q) (listed r starts_at q ss) ss)
lexer_left_starts r q ks ss ls ds κs a x e p h = cc (p.0, p.1.1.0, h.0, h.1, h.2, h.3, h.4, h.5)

pub end_starts_behind_the_last_byte : lexer_leaves_starts Crate (ascii "ab") nines nines nines nines (0 ∷ 2 ∷ 9 ∷ [])
unfolding lexing
end_starts_behind_the_last_byte = lexer_left_starts _ _ _ _ _ _

pub refused_query_leaves_the_starts : lexer_leaves_starts Crate (ascii "a!") nines nines nines nines nines
unfolding lexing
refused_query_leaves_the_starts = lexer_left_starts _ _ _ _ _ _

abbrev lexer_leaves_lengths : Reading → List ℕ → List ℕ → List ℕ → List ℕ → List ℕ → List ℕ → Type 0
lexer_leaves_lengths r q ks ss ls ds v = Leaves lexer.ps lexer.r lexer_reads.Post (Given q r ks ss ls ds) (λ κs e. e.1.1.1.1.0.now) v

lexer_left_lengths : (r : Reading) (q ks ss ls ds : List ℕ) → lexer_leaves_lengths r q ks ss ls ds (left_after (lexed r (shortest (length ks) (length ss) (length ls) (length ds)) q) (listed r length_of q ls) ls)
lexer_left_lengths r q ks ss ls ds κs a x e p h = cc (p.0, p.1.1.1.0, h.0, h.1, h.2, h.3, h.4, h.5)

pub end_has_no_length : lexer_leaves_lengths Crate (ascii "ab") nines nines nines nines (2 ∷ 0 ∷ 9 ∷ [])
unfolding lexing
end_has_no_length = lexer_left_lengths _ _ _ _ _ _

pub separator_is_of_the_number : lexer_leaves_lengths Documented (ascii "1_0") nines nines nines nines (3 ∷ 0 ∷ 9 ∷ [])
unfolding lexing
separator_is_of_the_number = lexer_left_lengths _ _ _ _ _ _

pub backslash_is_of_the_string : lexer_leaves_lengths Documented (ascii "`\\d`") nines nines nines nines (4 ∷ 0 ∷ 9 ∷ [])
unfolding lexing
backslash_is_of_the_string = lexer_left_lengths _ _ _ _ _ _

pub refused_query_leaves_the_lengths : lexer_leaves_lengths Crate (ascii "a!") nines nines nines nines nines
unfolding lexing
refused_query_leaves_the_lengths = lexer_left_lengths _ _ _ _ _ _

abbrev lexer_leaves_depths : Reading → List ℕ → List ℕ → List ℕ → List ℕ → List ℕ → List ℕ → Type 0
lexer_leaves_depths r q ks ss ls ds v = Leaves lexer.ps lexer.r lexer_reads.Post (Given q r ks ss ls ds) (λ κs e. e.1.1.1.1.1.0.now) v

lexer_left_depths : (r : Reading) (q ks ss ls ds : List ℕ) → lexer_leaves_depths r q ks ss ls ds (left_after (lexed r (shortest (length ks) (length ss) (length ls) (length ds)) q) (listed r depth_of q ds) ds)
lexer_left_depths r q ks ss ls ds κs a x e p h = cc (p.0, p.1.1.1.1, h.0, h.1, h.2, h.3, h.4, h.5)

abbrev eights : List ℕ
eights = 8 ∷ 8 ∷ 8 ∷ 8 ∷ 8 ∷ 8 ∷ 8 ∷ []

pub nothing_is_open_before_a_query : lexer_leaves_depths Crate (ascii "a") eights eights eights eights (0 ∷ 0 ∷ 8 ∷ 8 ∷ 8 ∷ 8 ∷ 8 ∷ [])
unfolding lexing
nothing_is_open_before_a_query = lexer_left_depths _ _ _ _ _ _

pub pair_has_one_depth : lexer_leaves_depths Crate (ascii "(a)") eights eights eights eights (0 ∷ 1 ∷ 0 ∷ 0 ∷ 8 ∷ 8 ∷ 8 ∷ [])
unfolding lexing
pair_has_one_depth = lexer_left_depths _ _ _ _ _ _

pub pairs_within_are_deeper : lexer_leaves_depths Crate (ascii "((a),)") eights eights eights eights (0 ∷ 1 ∷ 2 ∷ 1 ∷ 1 ∷ 0 ∷ 0 ∷ [])
unfolding lexing
pairs_within_are_deeper = lexer_left_depths _ _ _ _ _ _

pub pairs_side_by_side_are_not : lexer_leaves_depths Crate (ascii "()()") eights eights eights eights (0 ∷ 0 ∷ 0 ∷ 0 ∷ 0 ∷ 8 ∷ 8 ∷ [])
unfolding lexing
pairs_side_by_side_are_not = lexer_left_depths _ _ _ _ _ _

pub braces_are_no_parentheses : lexer_leaves_depths Crate (ascii "({})") eights eights eights eights (0 ∷ 1 ∷ 1 ∷ 0 ∷ 0 ∷ 8 ∷ 8 ∷ [])
unfolding lexing
braces_are_no_parentheses = lexer_left_depths _ _ _ _ _ _

pub brackets_are_no_parentheses : lexer_leaves_depths Crate (ascii "([5])") eights eights eights eights (0 ∷ 1 ∷ 1 ∷ 1 ∷ 0 ∷ 0 ∷ 8 ∷ [])
unfolding lexing
brackets_are_no_parentheses = lexer_left_depths _ _ _ _ _ _

pub parenthesis_in_a_comment_is_none : lexer_leaves_depths Documented (ascii "#(\na") eights eights eights eights (0 ∷ 0 ∷ 8 ∷ 8 ∷ 8 ∷ 8 ∷ 8 ∷ [])
unfolding lexing
parenthesis_in_a_comment_is_none = lexer_left_depths _ _ _ _ _ _

pub parenthesis_in_a_string_is_none : lexer_leaves_depths Crate (ascii "'('a") eights eights eights eights (0 ∷ 0 ∷ 0 ∷ 8 ∷ 8 ∷ 8 ∷ 8 ∷ [])
unfolding lexing
parenthesis_in_a_string_is_none = lexer_left_depths _ _ _ _ _ _

pub refused_query_leaves_the_depths : lexer_leaves_depths Crate (ascii "(a") eights eights eights eights eights
unfolding lexing
refused_query_leaves_the_depths = lexer_left_depths _ _ _ _ _ _
