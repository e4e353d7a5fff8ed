-- The answer, and the content of each lent list, that the promise leaves at a telling input: a program that answers or writes otherwise
-- there, as the theorem's name says, cannot be proved. `FUNCTION-gives` and `FUNCTION-leaves-LIST` say what, at the query and the lists.
use Prim.Native.Nat.{ℕ}
use mathlib.Core.List.{List, [], ◌∷◌}
use mathlib.Core.Path.{◌≡◌}
use lib.ListN.{length}
use contract.Lifetimes.{Lfts}
use borrow.Fn.Kinds.{Dens}
use Rattle.scan.specs.Ascii.{ascii}
use Rattle.scan.specs.Byte.{is_within, is_in, is_space, is_alpha, is_alpha_numeric, is_word, is_quote, lowered}
use Rattle.proving.proofs.One.{Answers, Leaves}
use Rattle.scan.specs.Run.{run_length}
use Rattle.scan.specs.Text.{has, same_text}
use Rattle.scan.specs.Separated.{separated_length}
use Rattle.utf8.specs.Table.{fits, size_in, char_length}
use Rattle.utf8.specs.Code.{code_of}
use Rattle.utf8.specs.Text.{chars_past, size_of, begun_in, char_number}
use Rattle.utf8.specs.Answers.{validity_of, admitted}
use Rattle.token.specs.Kinds.{number}
use Rattle.token.specs.Words.{words, kind_in, keyword_of}
use Rattle.numeral.specs.Numeral.{is_hex, fraction_end, exponent_end, number_end, is_unit, numeral_of}
use Rattle.munch.specs.Word.{is_word_start, rule_by, kind_by}
use Rattle.munch.specs.Munch.{number_step, word_step, right_paren_step, deeper, end_step, outside_table, bracket_table, step_in, munched}
use Rattle.lex.specs.Outcome.{steps_past, read_from}
use Rattle.lex.specs.Lex.{answer_by, measured, lexed, listed, left_after, kind_of, starts_at, length_of, depth_of, shortest}
use Rattle.exports.specs.Packed.{packed_as, counted_code}
use Rattle.exports.specs.Reading.{reading_of}
use Rattle.reason.specs.Reason.{word_outside, wording_of, found_in, reasoned}
use Rattle.exports.proofs.queries.simmerpath_word_reason.Kinds as simmerpath_word_reason
use Rattle.exports.proofs.queries.simmerpath_word_reason.Reads as simmerpath_word_reason_reads
use Rattle.exports.proofs.queries.simmerpath_lexer.Kinds as simmerpath_lexer
use Rattle.exports.proofs.queries.simmerpath_lexer.Reads as simmerpath_lexer_reads

-- what computes at an input
computing : Unit {0}
unfolding reading_of reasoned found_in wording_of word_outside lexed measured answer_by steps_past read_from munched step_in outside_table bracket_table is_word_start is_quote number_step numeral_of number_end exponent_end fraction_end is_hex is_unit separated_length word_step right_paren_step deeper end_step rule_by kind_by keyword_of words kind_in admitted validity_of chars_past size_of char_number begun_in char_length size_in fits code_of is_within is_in is_space is_alpha is_alpha_numeric is_word lowered run_length same_text has
computing = tt

-- the query, its reading, and the four lists that are lent
abbrev Given : List ℕ → ℕ → List ℕ → List ℕ → List ℕ → List ℕ → (κs : Lfts 5) → Dens κs simmerpath_lexer.ps → Type 0
Given q documented ks ss ls ds κs a =
    (a.0.now ≡ q) × (a.1.0 ≡ documented) × (a.1.1.0.now ≡ ks) × (a.1.1.1.0.now ≡ ss) × (a.1.1.1.1.0.now ≡ ls) × (a.1.1.1.1.1.0.now ≡ ds)

abbrev nines : List ℕ
nines = 9 ∷ 9 ∷ 9 ∷ []

abbrev simmerpath_lexer_gives : List ℕ → ℕ → List ℕ → List ℕ → List ℕ → List ℕ → ℕ → Type 0
simmerpath_lexer_gives q documented ks ss ls ds v = Answers simmerpath_lexer.ps simmerpath_lexer.r simmerpath_lexer_reads.Post (Given q documented ks ss ls ds) (λ κs. v)

simmerpath_lexer_at : (q : List ℕ) (documented : ℕ) (ks ss ls ds : List ℕ) → simmerpath_lexer_gives q documented ks ss ls ds (counted_code (lexed (reading_of documented) (shortest (length ks) (length ss) (length ls) (length ds)) q))
simmerpath_lexer_at q documented ks ss ls ds κs a x e p h = cc (p.0, h.0, h.1, h.2, h.3, h.4, h.5)

pub end_is_counted : simmerpath_lexer_gives (ascii "ab") 0 nines nines nines nines 2
unfolding computing
end_is_counted = simmerpath_lexer_at _ _ _ _ _ _

pub shortest_list_is_the_room : simmerpath_lexer_gives (ascii "ab") 0 nines nines nines (9 ∷ []) (packed_as 3 0 0)
unfolding computing
shortest_list_is_the_room = simmerpath_lexer_at _ _ _ _ _ _

pub third_list_is_room_too : simmerpath_lexer_gives (ascii "ab") 0 nines nines (9 ∷ []) nines (packed_as 3 0 0)
unfolding computing
third_list_is_room_too = simmerpath_lexer_at _ _ _ _ _ _

pub refused_query_is_not_counted : simmerpath_lexer_gives (ascii "a$") 0 nines nines nines nines (packed_as 19 1 1)
unfolding computing
refused_query_is_not_counted = simmerpath_lexer_at _ _ _ _ _ _

pub zero_is_the_crate_reading : simmerpath_lexer_gives (ascii "1_0") 0 nines nines nines nines (packed_as 20 1 1)
unfolding computing
zero_is_the_crate_reading = simmerpath_lexer_at _ _ _ _ _ _

pub one_is_the_documented_reading : simmerpath_lexer_gives (ascii "1_0") 1 nines nines nines nines 2
unfolding computing
one_is_the_documented_reading = simmerpath_lexer_at _ _ _ _ _ _

pub any_other_number_is_too : simmerpath_lexer_gives (ascii "1_0") 2 nines nines nines nines 2
unfolding computing
any_other_number_is_too = simmerpath_lexer_at _ _ _ _ _ _

pub number_with_a_separator_begins_no_duration : simmerpath_lexer_gives (ascii "1_0m") 1 nines nines nines nines (packed_as 20 3 3)
unfolding computing
number_with_a_separator_begins_no_duration = simmerpath_lexer_at _ _ _ _ _ _

pub separator_stands_in_brackets_too : simmerpath_lexer_gives (ascii "[1_0]") 1 (9 ∷ nines) (9 ∷ nines) (9 ∷ nines) (9 ∷ nines) 4
unfolding computing
separator_stands_in_brackets_too = simmerpath_lexer_at _ _ _ _ _ _

abbrev simmerpath_lexer_leaves_kinds : List ℕ → ℕ → List ℕ → List ℕ → List ℕ → List ℕ → List ℕ → Type 0
simmerpath_lexer_leaves_kinds q documented ks ss ls ds v =
    Leaves simmerpath_lexer.ps simmerpath_lexer.r simmerpath_lexer_reads.Post (Given q documented ks ss ls ds) (λ κs e. e.1.1.0.now) v

simmerpath_lexer_left_kinds : (q : List ℕ) (documented : ℕ) (ks ss ls ds : List ℕ) → simmerpath_lexer_leaves_kinds q documented ks ss ls ds (left_after (lexed (reading_of documented) (shortest (length ks) (length ss) (length ls) (length ds)) q) (listed (reading_of documented) kind_of q ks) ks)
simmerpath_lexer_left_kinds q documented ks ss ls ds κs a x e p h = cc (p.1.0, h.0, h.1, h.2, h.3, h.4, h.5)

pub kinds_behind_the_last_stay : simmerpath_lexer_leaves_kinds (ascii "ab") 0 nines nines nines nines (1 ∷ 0 ∷ 9 ∷ [])
unfolding computing
kinds_behind_the_last_stay = simmerpath_lexer_left_kinds _ _ _ _ _ _

pub number_with_a_separator_is_a_number : simmerpath_lexer_leaves_kinds (ascii "1_0") 1 nines nines nines nines (number ∷ 0 ∷ 9 ∷ [])
unfolding computing
number_with_a_separator_is_a_number = simmerpath_lexer_left_kinds _ _ _ _ _ _

pub refused_query_leaves_the_kinds : simmerpath_lexer_leaves_kinds (ascii "a$") 0 nines nines nines nines nines
unfolding computing
refused_query_leaves_the_kinds = simmerpath_lexer_left_kinds _ _ _ _ _ _

abbrev simmerpath_lexer_leaves_starts : List ℕ → ℕ → List ℕ → List ℕ → List ℕ → List ℕ → List ℕ → Type 0
simmerpath_lexer_leaves_starts q documented ks ss ls ds v =
    Leaves simmerpath_lexer.ps simmerpath_lexer.r simmerpath_lexer_reads.Post (Given q documented ks ss ls ds) (λ κs e. e.1.1.1.0.now) v

simmerpath_lexer_left_starts : (q : List ℕ) (documented : ℕ) (ks ss ls ds : List ℕ) → simmerpath_lexer_leaves_starts q documented ks ss ls ds (left_after (lexed (reading_of documented) (shortest (length ks) (length ss) (length ls) (length ds)) q) (listed (reading_of documented) starts_at q ss) ss)
simmerpath_lexer_left_starts q documented ks ss ls ds κs a x e p h = cc (p.1.1.0, h.0, h.1, h.2, h.3, h.4, h.5)

pub starts_are_not_taken_for_lengths : simmerpath_lexer_leaves_starts (ascii "ab") 0 nines nines nines nines (0 ∷ 2 ∷ 9 ∷ [])
unfolding computing
starts_are_not_taken_for_lengths = simmerpath_lexer_left_starts _ _ _ _ _ _

pub refused_query_leaves_the_starts : simmerpath_lexer_leaves_starts (ascii "a$") 0 nines nines nines nines nines
unfolding computing
refused_query_leaves_the_starts = simmerpath_lexer_left_starts _ _ _ _ _ _

abbrev simmerpath_lexer_leaves_lengths : List ℕ → ℕ → List ℕ → List ℕ → List ℕ → List ℕ → List ℕ → Type 0
simmerpath_lexer_leaves_lengths q documented ks ss ls ds v =
    Leaves simmerpath_lexer.ps simmerpath_lexer.r simmerpath_lexer_reads.Post (Given q documented ks ss ls ds) (λ κs e. e.1.1.1.1.0.now) v

simmerpath_lexer_left_lengths : (q : List ℕ) (documented : ℕ) (ks ss ls ds : List ℕ) → simmerpath_lexer_leaves_lengths q documented ks ss ls ds (left_after (lexed (reading_of documented) (shortest (length ks) (length ss) (length ls) (length ds)) q) (listed (reading_of documented) length_of q ls) ls)
simmerpath_lexer_left_lengths q documented ks ss ls ds κs a x e p h = cc (p.1.1.1.0, h.0, h.1, h.2, h.3, h.4, h.5)

pub lengths_are_not_taken_for_starts : simmerpath_lexer_leaves_lengths (ascii "ab") 0 nines nines nines nines (2 ∷ 0 ∷ 9 ∷ [])
unfolding computing
lengths_are_not_taken_for_starts = simmerpath_lexer_left_lengths _ _ _ _ _ _

pub separator_is_of_the_number : simmerpath_lexer_leaves_lengths (ascii "1_0") 1 nines nines nines nines (3 ∷ 0 ∷ 9 ∷ [])
unfolding computing
separator_is_of_the_number = simmerpath_lexer_left_lengths _ _ _ _ _ _

pub refused_query_leaves_the_lengths : simmerpath_lexer_leaves_lengths (ascii "a$") 0 nines nines nines nines nines
unfolding computing
refused_query_leaves_the_lengths = simmerpath_lexer_left_lengths _ _ _ _ _ _

abbrev simmerpath_lexer_leaves_depths : List ℕ → ℕ → List ℕ → List ℕ → List ℕ → List ℕ → List ℕ → Type 0
simmerpath_lexer_leaves_depths q documented ks ss ls ds v =
    Leaves simmerpath_lexer.ps simmerpath_lexer.r simmerpath_lexer_reads.Post (Given q documented ks ss ls ds) (λ κs e. e.1.1.1.1.1.0.now) v

simmerpath_lexer_left_depths : (q : List ℕ) (documented : ℕ) (ks ss ls ds : List ℕ) → simmerpath_lexer_leaves_depths q documented ks ss ls ds (left_after (lexed (reading_of documented) (shortest (length ks) (length ss) (length ls) (length ds)) q) (listed (reading_of documented) depth_of q ds) ds)
simmerpath_lexer_left_depths q documented ks ss ls ds κs a x e p h = cc (p.1.1.1.1, h.0, h.1, h.2, h.3, h.4, h.5)

pub pair_has_one_depth : simmerpath_lexer_leaves_depths (ascii "()") 0 nines nines nines nines (0 ∷ 0 ∷ 0 ∷ [])
unfolding computing
pair_has_one_depth = simmerpath_lexer_left_depths _ _ _ _ _ _

pub depths_are_not_taken_for_lengths : simmerpath_lexer_leaves_depths (ascii "(a)") 0 (9 ∷ nines) (9 ∷ nines) (9 ∷ nines) (9 ∷ nines) (0 ∷ 1 ∷ 0 ∷ 0 ∷ [])
unfolding computing
depths_are_not_taken_for_lengths = simmerpath_lexer_left_depths _ _ _ _ _ _

pub refused_query_leaves_the_depths : simmerpath_lexer_leaves_depths (ascii "(") 0 nines nines nines nines nines
unfolding computing
refused_query_leaves_the_depths = simmerpath_lexer_left_depths _ _ _ _ _ _

abbrev simmerpath_word_reason_gives : List ℕ → ℕ → ℕ → ℕ → Type 0
simmerpath_word_reason_gives q documented n v =
    Answers simmerpath_word_reason.ps simmerpath_word_reason.r simmerpath_word_reason_reads.Post (λ κs a. (a.0.now ≡ q) × (a.1.0 ≡ documented) × (a.1.1.0 ≡ n)) (λ κs. v)

simmerpath_word_reason_at : (q : List ℕ) (documented n : ℕ) → simmerpath_word_reason_gives q documented n (counted_code (reasoned (reading_of documented) n q))
simmerpath_word_reason_at q documented n κs a x e p h = cc (p, h.0, h.1, h.2)

pub word_has_a_reason : simmerpath_word_reason_gives (ascii "ab") 0 0 7
unfolding computing
word_has_a_reason = simmerpath_word_reason_at _ _ _

pub end_has_none : simmerpath_word_reason_gives (ascii "ab") 0 1 (packed_as 74 0 0)
unfolding computing
end_has_none = simmerpath_word_reason_at _ _ _

pub lexeme_past_the_end_has_none : simmerpath_word_reason_gives (ascii "ab") 0 2 (packed_as 72 0 0)
unfolding computing
lexeme_past_the_end_has_none = simmerpath_word_reason_at _ _ _

pub reason_is_asked_in_the_crate_reading_by_zero : simmerpath_word_reason_gives (ascii "1_0") 0 0 (packed_as 20 1 1)
unfolding computing
reason_is_asked_in_the_crate_reading_by_zero = simmerpath_word_reason_at _ _ _

pub and_in_the_documented_one_by_another_number : simmerpath_word_reason_gives (ascii "1_0") 1 0 (packed_as 74 0 0)
unfolding computing
and_in_the_documented_one_by_another_number = simmerpath_word_reason_at _ _ _

pub number_is_not_cut_to_its_lowest_bits : simmerpath_word_reason_gives (ascii "ab") 0 4294967296 (packed_as 72 0 0)
unfolding computing
number_is_not_cut_to_its_lowest_bits = simmerpath_word_reason_at _ _ _
