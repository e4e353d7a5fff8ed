-- The answer that each promise leaves at a telling input: a program that answers otherwise there, as the theorem's name says, cannot be
-- proved. `FUNCTION_gives` is what the promise of FUNCTION answers at arguments, which is the definition's value there.
use Prim.Native.Nat.{ℕ, ◌-◌}
use Prim.Native.Char.{code}
use mathlib.Core.Bool.{Bool, true, false}
use mathlib.Core.List.{List, [], ◌++◌}
use lib.ListN.{replicate}
use mathlib.Core.Path.{◌≡◌, ap}
use Rattle.scan.specs.Ascii.{ascii}
use Rattle.scan.specs.Byte.{is_within, is_in, is_space, is_alpha, is_alpha_numeric, is_word, is_line, is_quote, lowered}
use Rattle.proving.proofs.One.{Answers, Shows}
use Rattle.scan.specs.Run.{run_length}
use Rattle.scan.specs.Text.{has, same_text}
use Rattle.scan.specs.Separated.{separated_length}
use Rattle.utf8.specs.declared.Reading.{Reading}
use Rattle.utf8.specs.declared.Reading.TheVariants.{Crate, Documented}
use Rattle.utf8.specs.Table.{fits, size_in, char_length}
use Rattle.utf8.specs.Code.{code_of}
use Rattle.utf8.specs.Text.{chars_past, size_of}
use Rattle.token.specs.Kinds.{identifier, metric_identifier, string, number, right_paren, left_bracket, comma, at_sign, lor}
use Rattle.token.specs.Words.{◌names◌, words, kind_in, keyword_of}
use Rattle.token.specs.steps.Padded.{padded}
use Rattle.token.specs.steps.WordRows.{word_row, table_size, row_of_word, slot_of, is_row, found_at, keyword_in}
use Rattle.numeral.specs.Numeral.{is_hex, fraction_end, exponent_end, number_end, is_unit, numeral_of}
use Rattle.quoted.specs.Quoted.{is_escape, quoted_from, is_raw, raw_from, comment_end}
use Rattle.munch.specs.Word.{is_word_start, is_fill, rule_by, is_or, brace_rule, kind_by}
use Rattle.munch.specs.declared.Inside.TheVariants.{Nothing, Braces, Brackets}
use Rattle.munch.specs.declared.Mode.{Mode}
use Rattle.munch.specs.declared.Step.{Step}
use Rattle.munch.specs.declared.Step.TheVariants.{Lexeme, Space, Comment, Refused, Finished}
use Rattle.munch.specs.Munch.{mode, outside, quoted_step, comment_step, word_step, bang_step, right_paren_step, end_step, brace_word, number_step, dot_step, colon_step, outside_table, brace_table, bracket_table, step_in, munched}
use Rattle.munch.specs.steps.Leads.{other_lead, white_lead, letter_lead, sign_lead, lead_of, leads_from, lead_table, lead_in, is_sign_lead, starts_word}
use Rattle.munch.specs.steps.Lent.{word_step_by, brace_word_by, brace_signs, outside_led, brace_led, outside_by, brace_by}
use Rattle.munch.proofs.outside_step.Kinds as outside_step
use Rattle.munch.proofs.outside_step.Reads as outside_step_reads
use Rattle.munch.proofs.brace_step.Kinds as brace_step
use Rattle.munch.proofs.brace_step.Reads as brace_step_reads
use Rattle.munch.proofs.bracket_step.Kinds as bracket_step
use Rattle.munch.proofs.bracket_step.Reads as bracket_step_reads
use Rattle.munch.proofs.leads.Kinds as leads
use Rattle.munch.proofs.leads.Reads as leads_reads
use Rattle.munch.proofs.munch.Kinds as munch
use Rattle.munch.proofs.munch.Reads as munch_reads

-- what computes at the bytes that are left
unfoldable pub munching : Unit {0}
unfolding munched outside_by outside_led brace_by brace_led lead_table leads_from lead_of sign_lead is_sign_lead starts_word brace_word_by brace_signs step_in outside_table brace_table bracket_table quoted_step comment_step word_step word_step_by brace_word number_step bang_step right_paren_step end_step dot_step colon_step is_word_start is_quote is_fill rule_by is_or brace_rule kind_by keyword_in found_at is_row slot_of padded keyword_of words kind_in is_escape quoted_from is_raw raw_from comment_end numeral_of number_end exponent_end fraction_end is_hex is_unit separated_length chars_past size_of char_length size_in fits code_of is_within is_in is_space is_alpha is_alpha_numeric is_word is_line lowered run_length same_text has
munching = tt

abbrev outside_step_gives : Reading → List ℕ → List ℕ → List ℕ → ℕ → Step → Type 0
outside_step_gives r leads table xs d v =
    Answers outside_step.ps outside_step.r outside_step_reads.Post (λ κs a. (a.0.now ≡ leads) × (a.1.0.now ≡ table) × (a.1.1.0.now ≡ xs) × (a.1.1.1.0 ≡ r) × (a.1.1.1.1.0 ≡ d)) (λ κs. v)

outside_step_at : (r : Reading) (leads table xs : List ℕ) (d : ℕ) → outside_step_gives r leads table xs d (outside_by r leads table d xs)
outside_step_at r leads table xs d κs a x e p h = cc (p, h.0, h.1, h.2, h.3, h.4)

pub word_has_the_kind_of_the_table : outside_step_gives Crate lead_table (row_of_word ("a" names lor) ++ replicate (table_size - word_row) 0) (ascii "a") 0 (Lexeme lor 1 outside)
unfolding munching
word_has_the_kind_of_the_table = outside_step_at _ _ _ _ _

pub no_word_is_in_an_empty_table : outside_step_gives Crate lead_table [] (ascii "or") 0 (Lexeme identifier 2 outside)
unfolding munching
no_word_is_in_an_empty_table = outside_step_at _ _ _ _ _

pub word_goes_on_behind_its_colon : outside_step_gives Crate lead_table [] (ascii "a:b") 0 (Lexeme metric_identifier 3 outside)
unfolding munching
word_goes_on_behind_its_colon = outside_step_at _ _ _ _ _

pub letter_is_white_where_its_lead_says_so : outside_step_gives Crate (replicate 256 white_lead) [] (ascii "a") 0 (Space outside)
unfolding munching
letter_is_white_where_its_lead_says_so = outside_step_at _ _ _ _ _

pub no_separator_stands_in_a_number_of_the_crate_reading : outside_step_gives Crate lead_table [] (ascii "1_0") 0 (Refused 20 1)
unfolding munching
no_separator_stands_in_a_number_of_the_crate_reading = outside_step_at _ _ _ _ _

pub separator_stands_in_a_number_of_the_documented_reading : outside_step_gives Documented lead_table [] (ascii "1_0") 0 (Lexeme number 3 outside)
unfolding munching
separator_stands_in_a_number_of_the_documented_reading = outside_step_at _ _ _ _ _

pub number_with_a_separator_begins_no_duration : outside_step_gives Documented lead_table [] (ascii "1_0m") 0 (Refused 20 3)
unfolding munching
number_with_a_separator_begins_no_duration = outside_step_at _ _ _ _ _

pub backslash_begins_an_escape_outside_in_the_crate_reading : outside_step_gives Crate lead_table [] (ascii "`\\d`") 0 (Refused 21 2)
unfolding munching
backslash_begins_an_escape_outside_in_the_crate_reading = outside_step_at _ _ _ _ _

pub backslash_is_itself_outside_in_the_documented_reading : outside_step_gives Documented lead_table [] (ascii "`\\d`") 0 (Lexeme string 4 outside)
unfolding munching
backslash_is_itself_outside_in_the_documented_reading = outside_step_at _ _ _ _ _

pub backquote_behind_a_backslash_closes_outside : outside_step_gives Documented lead_table [] (ascii "`\\``") 0 (Lexeme string 3 outside)
unfolding munching
backquote_behind_a_backslash_closes_outside = outside_step_at _ _ _ _ _

abbrev brace_step_gives : Reading → List ℕ → List ℕ → ℕ → Step → Type 0
brace_step_gives r leads xs d v =
    Answers brace_step.ps brace_step.r brace_step_reads.Post (λ κs a. (a.0.now ≡ leads) × (a.1.0.now ≡ xs) × (a.1.1.0 ≡ r) × (a.1.1.1.0 ≡ d)) (λ κs. v)

brace_step_at : (r : Reading) (leads xs : List ℕ) (d : ℕ) → brace_step_gives r leads xs d (brace_by r leads d xs)
brace_step_at r leads xs d κs a x e p h = cc (p, h.0, h.1, h.2, h.3)

pub word_in_braces_ends_before_a_colon : brace_step_gives Crate lead_table (ascii "a1:") 0 (Lexeme identifier 2 (mode 0 Braces))
unfolding munching
word_in_braces_ends_before_a_colon = brace_step_at _ _ _ _

pub digit_begins_nothing_in_braces : brace_step_gives Crate lead_table (ascii "0") 0 (Refused 26 0)
unfolding munching
digit_begins_nothing_in_braces = brace_step_at _ _ _ _

pub end_in_braces_is_told_apart : brace_step_gives Crate lead_table [] 0 (Refused 27 0)
unfolding munching
end_in_braces_is_told_apart = brace_step_at _ _ _ _

pub backslash_begins_an_escape_in_braces_in_the_crate_reading : brace_step_gives Crate lead_table (ascii "`\\d`") 0 (Refused 21 2)
unfolding munching
backslash_begins_an_escape_in_braces_in_the_crate_reading = brace_step_at _ _ _ _

pub backslash_is_itself_in_braces_in_the_documented_reading : brace_step_gives Documented lead_table (ascii "`\\d`") 0 (Lexeme string 4 (mode 0 Braces))
unfolding munching
backslash_is_itself_in_braces_in_the_documented_reading = brace_step_at _ _ _ _

pub backquote_behind_a_backslash_closes_in_braces : brace_step_gives Documented lead_table (ascii "`\\``") 0 (Lexeme string 3 (mode 0 Braces))
unfolding munching
backquote_behind_a_backslash_closes_in_braces = brace_step_at _ _ _ _

abbrev bracket_step_gives : Reading → List ℕ → ℕ → Bool → Bool → Step → Type 0
bracket_step_gives r xs d seen fresh v =
    Answers bracket_step.ps bracket_step.r bracket_step_reads.Post (λ κs a. (a.0.now ≡ xs) × (a.1.0 ≡ r) × (a.1.1.0 ≡ d) × (a.1.1.1.0 ≡ seen) × (a.1.1.1.1.0 ≡ fresh)) (λ κs. v)

bracket_step_at : (r : Reading) (xs : List ℕ) (d : ℕ) (seen fresh : Bool) → bracket_step_gives r xs d seen fresh (munched r (mode d (Brackets seen fresh)) xs)
bracket_step_at r xs d seen fresh κs a x e p h = cc (p, h.0, h.1, h.2, h.3, h.4)

pub second_colon_is_refused : bracket_step_gives Crate (ascii ":") 0 true false (Refused 28 0)
unfolding munching
second_colon_is_refused = bracket_step_at _ _ _ _ _

pub space_behind_the_bracket_lets_a_colon_follow : bracket_step_gives Crate (ascii " :") 0 false true (Space (mode 0 (Brackets false false)))
unfolding munching
space_behind_the_bracket_lets_a_colon_follow = bracket_step_at _ _ _ _ _

pub no_separator_stands_in_brackets_in_the_crate_reading : bracket_step_gives Crate (ascii "1_0]") 0 false true (Refused 20 1)
unfolding munching
no_separator_stands_in_brackets_in_the_crate_reading = bracket_step_at _ _ _ _ _

pub separator_stands_in_brackets_in_the_documented_reading : bracket_step_gives Documented (ascii "1_0]") 0 false true (Lexeme number 3 (mode 0 (Brackets false false)))
unfolding munching
separator_stands_in_brackets_in_the_documented_reading = bracket_step_at _ _ _ _ _

pub duration_in_brackets_has_no_separator : bracket_step_gives Documented (ascii "1_0m]") 0 false true (Refused 20 3)
unfolding munching
duration_in_brackets_has_no_separator = bracket_step_at _ _ _ _ _

abbrev leads_shows : ℕ → ℕ → Type 0
leads_shows c v = Shows leads.ps leads.r leads_reads.Post (λ κs a. Unit {0}) (λ κs x. lead_in x c) v

leads_at : (c : ℕ) → leads_shows c (lead_in lead_table c)
leads_at c κs a x e p h = ap (λ (t : List ℕ). lead_in t c) p

pub underscore_leads_as_a_letter : leads_shows (code "_") letter_lead
unfolding munching
underscore_leads_as_a_letter = leads_at _

pub at_leads_by_its_kind : leads_shows (code "@") at_sign
unfolding munching
at_leads_by_its_kind = leads_at _

pub vertical_tab_is_not_white : leads_shows 11 other_lead
unfolding munching
vertical_tab_is_not_white = leads_at _

abbrev munch_gives : Reading → List ℕ → Mode → Step → Type 0
munch_gives r xs m v = Answers munch.ps munch.r munch_reads.Post (λ κs a. (a.0.now ≡ xs) × (a.1.0 ≡ r) × (a.1.1.0 ≡ m)) (λ κs. v)

munch_at : (r : Reading) (xs : List ℕ) (m : Mode) → munch_gives r xs m (munched r m xs)
munch_at r xs m κs a x e p h = cc (p, h.0, h.1, h.2)

pub comma_is_not_refused : munch_gives Crate (ascii ",") outside (Lexeme comma 1 outside)
unfolding munching
comma_is_not_refused = munch_at _ _ _

pub word_has_the_kind_of_document_01 : munch_gives Crate (ascii "or") outside (Lexeme lor 2 outside)
unfolding munching
word_has_the_kind_of_document_01 = munch_at _ _ _

pub string_includes_both_signs : munch_gives Crate (ascii "'a'") outside (Lexeme string 3 outside)
unfolding munching
string_includes_both_signs = munch_at _ _ _

pub comment_includes_its_last_byte : munch_gives Crate (ascii "#a") outside (Comment 2)
unfolding munching
comment_includes_its_last_byte = munch_at _ _ _

pub character_after_bang_is_not_the_end : munch_gives Crate (ascii "!a") outside (Refused 12 1)
unfolding munching
character_after_bang_is_not_the_end = munch_at _ _ _

pub end_after_bang_is_told_apart : munch_gives Crate (ascii "!") outside (Refused 13 1)
unfolding munching
end_after_bang_is_told_apart = munch_at _ _ _

pub paren_is_closed : munch_gives Crate (ascii ")") (mode 1 Nothing) (Lexeme right_paren 1 outside)
unfolding munching
paren_is_closed = munch_at _ _ _

pub brackets_just_opened_are_told_apart : munch_gives Crate (ascii "[") outside (Lexeme left_bracket 1 (mode 0 (Brackets false true)))
unfolding munching
brackets_just_opened_are_told_apart = munch_at _ _ _

pub colon_behind_bracket_is_refused : munch_gives Crate (ascii ":") (mode 0 (Brackets false true)) (Refused 29 0)
unfolding munching
colon_behind_bracket_is_refused = munch_at _ _ _

pub word_in_braces_has_no_kind_of_its_own : munch_gives Crate (ascii "by") (mode 0 Braces) (Lexeme identifier 2 (mode 0 Braces))
unfolding munching
word_in_braces_has_no_kind_of_its_own = munch_at _ _ _

pub end_outside_is_finished : munch_gives Crate [] outside Finished
unfolding munching
end_outside_is_finished = munch_at _ _ _

pub at_is_a_sign : munch_gives Crate (ascii "@") outside (Lexeme at_sign 1 outside)
unfolding munching
at_is_a_sign = munch_at _ _ _

pub digit_begins_no_word : munch_gives Crate (ascii "0") outside (Lexeme number 1 outside)
unfolding munching
digit_begins_no_word = munch_at _ _ _

pub colon_begins_a_word : munch_gives Crate (ascii ":") outside (Lexeme metric_identifier 1 outside)
unfolding munching
colon_begins_a_word = munch_at _ _ _

pub colon_begins_nothing_in_braces : munch_gives Crate (ascii ":") (mode 0 Braces) (Refused 26 0)
unfolding munching
colon_begins_nothing_in_braces = munch_at _ _ _

pub brace_in_braces_is_told_apart : munch_gives Crate (ascii "{") (mode 0 Braces) (Refused 25 0)
unfolding munching
brace_in_braces_is_told_apart = munch_at _ _ _

pub comment_begins_in_braces : munch_gives Crate (ascii "#") (mode 0 Braces) (Comment 1)
unfolding munching
comment_begins_in_braces = munch_at _ _ _

pub no_comment_begins_in_brackets : munch_gives Crate (ascii "#") (mode 0 (Brackets false false)) (Refused 31 0)
unfolding munching
no_comment_begins_in_brackets = munch_at _ _ _

pub point_begins_no_number_in_brackets : munch_gives Crate (ascii ".5") (mode 0 (Brackets false false)) (Refused 31 0)
unfolding munching
point_begins_no_number_in_brackets = munch_at _ _ _

pub bracket_in_brackets_is_told_apart : munch_gives Crate (ascii "[") (mode 0 (Brackets false false)) (Refused 30 0)
unfolding munching
bracket_in_brackets_is_told_apart = munch_at _ _ _

pub separator_is_refused_in_the_crate_reading : munch_gives Crate (ascii ".1_0") outside (Refused 20 2)
unfolding munching
separator_is_refused_in_the_crate_reading = munch_at _ _ _

pub separator_is_taken_in_the_documented_reading : munch_gives Documented (ascii ".1_0") outside (Lexeme number 4 outside)
unfolding munching
separator_is_taken_in_the_documented_reading = munch_at _ _ _

pub unit_behind_a_separator_is_refused : munch_gives Documented (ascii "1_0m") outside (Refused 20 3)
unfolding munching
unit_behind_a_separator_is_refused = munch_at _ _ _

pub separator_behind_a_point_is_no_digit : munch_gives Documented (ascii "._1") outside (Refused 14 1)
unfolding munching
separator_behind_a_point_is_no_digit = munch_at _ _ _

pub documented_reading_takes_separators_in_brackets : munch_gives Documented (ascii "1_0") (mode 0 (Brackets false false)) (Lexeme number 3 (mode 0 (Brackets false false)))
unfolding munching
documented_reading_takes_separators_in_brackets = munch_at _ _ _

pub documented_reading_has_no_escapes_between_backquotes : munch_gives Documented (ascii "`\\d`") outside (Lexeme string 4 outside)
unfolding munching
documented_reading_has_no_escapes_between_backquotes = munch_at _ _ _

pub documented_reading_has_no_escapes_between_backquotes_in_braces : munch_gives Documented (ascii "`\\d`") (mode 0 Braces) (Lexeme string 4 (mode 0 Braces))
unfolding munching
documented_reading_has_no_escapes_between_backquotes_in_braces = munch_at _ _ _

pub unknown_escape_between_backquotes_is_refused_in_the_crate_reading : munch_gives Crate (ascii "`\\d`") outside (Refused 21 2)
unfolding munching
unknown_escape_between_backquotes_is_refused_in_the_crate_reading = munch_at _ _ _

pub unknown_escape_between_backquotes_is_refused_in_braces_in_the_crate_reading : munch_gives Crate (ascii "`\\d`") (mode 0 Braces) (Refused 21 2)
unfolding munching
unknown_escape_between_backquotes_is_refused_in_braces_in_the_crate_reading = munch_at _ _ _

pub other_strings_keep_their_escapes : munch_gives Documented (ascii "'\\d'") outside (Refused 21 2)
unfolding munching
other_strings_keep_their_escapes = munch_at _ _ _
