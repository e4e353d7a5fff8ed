-- The answer and the content of the buffer that each promise leaves at a telling input: a program that does otherwise there, as the
-- theorem's name says, cannot be proved. Where a theorem unfolds `FUNCTION_at` it computes with all that this lemma unfolds.
use Prim.Native.Nat.{ℕ, ◌-◌, ◌*◌}
use mathlib.Core.Bool.{Bool, true, false}
use mathlib.Core.List.{List, [], ◌∷◌, ◌++◌}
use mathlib.Core.Path.{◌≡◌, ap, ap₂, ◌∙◌}
use Prim.Native.String.{String}
use lib.ListN.{length, take, drop, replicate}
use Rattle.utf8.specs.declared.Refusal.{Refusal}
use Rattle.std.specs.Prelude.{Err, None, Ok, Option, Result, Some}
use Rattle.scan.specs.Ascii.{ascii}
use Rattle.scan.specs.Byte.{is_within, is_alpha, is_alpha_numeric, lowered}
use Rattle.proving.proofs.One.{Answers, Leaves, Shows}
use Rattle.scan.specs.Text.{same_text}
use Rattle.utf8.specs.Table.{fits, size_in, char_length}
use Rattle.utf8.specs.Code.{code_of}
use Rattle.utf8.specs.Text.{chars_past, size_of}
use Rattle.utf8.specs.Answers.{at_start}
use Rattle.utf8.specs.Writing.{left_by}
use Rattle.token.specs.Classes.{is_operator, is_comparison_operator, is_set_operator, is_aggregator, is_aggregator_with_param}
use Rattle.token.specs.Display.{wordless, own_kinds, displays, text_in, display_of, displayed}
use Rattle.token.specs.Words.{words, kind_in, keyword_of}
use Rattle.token.specs.steps.Padded.{padded}
use Rattle.token.specs.steps.WordRows.{word_row, table_size, table_of, slot_of, row_for, slots_of, word_table, is_row, found_at, keyword_in}
use Rattle.token.specs.Label.{is_label}
use Rattle.token.proofs.is_operator.Kinds as is_operator_kinds
use Rattle.token.proofs.is_operator.Reads as is_operator_reads
use Rattle.token.proofs.is_comparison_operator.Kinds as is_comparison_operator_kinds
use Rattle.token.proofs.is_comparison_operator.Reads as is_comparison_operator_reads
use Rattle.token.proofs.is_set_operator.Kinds as is_set_operator_kinds
use Rattle.token.proofs.is_set_operator.Reads as is_set_operator_reads
use Rattle.token.proofs.is_aggregator.Kinds as is_aggregator_kinds
use Rattle.token.proofs.is_aggregator.Reads as is_aggregator_reads
use Rattle.token.proofs.is_aggregator_with_param.Kinds as is_aggregator_with_param_kinds
use Rattle.token.proofs.is_aggregator_with_param.Reads as is_aggregator_with_param_reads
use Rattle.token.proofs.token_display.Kinds as token_display
use Rattle.token.proofs.token_display.Reads as token_display_reads
use Rattle.token.proofs.words.Kinds as words
use Rattle.token.proofs.words.Reads as words_reads
use Rattle.token.proofs.keyword_in.Kinds as keyword_in_kinds
use Rattle.token.proofs.keyword_in.Reads as keyword_in_reads
use Rattle.token.proofs.get_keyword_token.Kinds as get_keyword_token
use Rattle.token.proofs.get_keyword_token.Reads as get_keyword_token_reads
use Rattle.token.proofs.is_label.Kinds as is_label_kinds
use Rattle.token.proofs.is_label.Reads as is_label_reads

abbrev is_operator_gives : ℕ → Bool → Type 0
is_operator_gives k v = Answers is_operator_kinds.ps is_operator_kinds.r is_operator_reads.Post (λ κs a. a.0 ≡ k) (λ κs. v)

is_operator_at : (k : ℕ) → is_operator_gives k (is_operator k)
is_operator_at k κs a x e p h = p ∙ ap is_operator h

pub plus_is_an_operator : is_operator_gives 20 true
unfolding is_within
plus_is_an_operator = is_operator_at _

pub sum_is_no_operator : is_operator_gives 40 false
unfolding is_within
sum_is_no_operator = is_operator_at _

abbrev is_comparison_operator_gives : ℕ → Bool → Type 0
is_comparison_operator_gives k v = Answers is_comparison_operator_kinds.ps is_comparison_operator_kinds.r is_comparison_operator_reads.Post (λ κs a. a.0 ≡ k) (λ κs. v)

is_comparison_operator_at : (k : ℕ) → is_comparison_operator_gives k (is_comparison_operator k)
is_comparison_operator_at k κs a x e p h = p ∙ ap is_comparison_operator h

pub equality_compares : is_comparison_operator_gives 26 true
unfolding is_within
equality_compares = is_comparison_operator_at _

pub regex_match_does_not_compare : is_comparison_operator_gives 32 false
unfolding is_within
regex_match_does_not_compare = is_comparison_operator_at _

abbrev is_set_operator_gives : ℕ → Bool → Type 0
is_set_operator_gives k v = Answers is_set_operator_kinds.ps is_set_operator_kinds.r is_set_operator_reads.Post (λ κs a. a.0 ≡ k) (λ κs. v)

is_set_operator_at : (k : ℕ) → is_set_operator_gives k (is_set_operator k)
is_set_operator_at k κs a x e p h = p ∙ ap is_set_operator h

pub and_is_an_operator_on_sets : is_set_operator_gives 35 true
unfolding is_within
and_is_an_operator_on_sets = is_set_operator_at _

pub atan2_is_no_operator_on_sets : is_set_operator_gives 38 false
unfolding is_within
atan2_is_no_operator_on_sets = is_set_operator_at _

abbrev is_aggregator_gives : ℕ → Bool → Type 0
is_aggregator_gives k v = Answers is_aggregator_kinds.ps is_aggregator_kinds.r is_aggregator_reads.Post (λ κs a. a.0 ≡ k) (λ κs. v)

is_aggregator_at : (k : ℕ) → is_aggregator_gives k (is_aggregator k)
is_aggregator_at k κs a x e p h = p ∙ ap is_aggregator h

pub sum_is_an_aggregator : is_aggregator_gives 40 true
unfolding is_within
sum_is_an_aggregator = is_aggregator_at _

pub offset_is_no_aggregator : is_aggregator_gives 60 false
unfolding is_within
offset_is_no_aggregator = is_aggregator_at _

abbrev is_aggregator_with_param_gives : ℕ → Bool → Type 0
is_aggregator_with_param_gives k v = Answers is_aggregator_with_param_kinds.ps is_aggregator_with_param_kinds.r is_aggregator_with_param_reads.Post (λ κs a. a.0 ≡ k) (λ κs. v)

is_aggregator_with_param_at : (k : ℕ) → is_aggregator_with_param_gives k (is_aggregator_with_param k)
is_aggregator_with_param_at k κs a x e p h = p ∙ ap is_aggregator_with_param h

pub topk_takes_a_parameter : is_aggregator_with_param_gives 48 true
unfolding is_within
topk_takes_a_parameter = is_aggregator_with_param_at _

pub stdvar_takes_no_parameter : is_aggregator_with_param_gives 47 false
unfolding is_within
stdvar_takes_no_parameter = is_aggregator_with_param_at _

-- of a kind, with a buffer of so many bytes
abbrev token_display_gives : ℕ → ℕ → Result ℕ Refusal → Type 0
token_display_gives k room v =
    Answers token_display.ps token_display.r token_display_reads.Post (λ κs a. (a.0 ≡ k) × (length a.1.0.now ≡ room)) (λ κs. v)

token_display_at : (k room : ℕ) → token_display_gives k room (displayed room k)
unfolding text_in displays wordless own_kinds words
token_display_at k room κs a x e p h = p.0 ∙ ap₂ displayed h.1 h.0

pub display_that_has_room_is_counted : token_display_gives 6 3 (Ok 1)
unfolding token_display_at
display_that_has_room_is_counted = token_display_at _ _

pub room_of_just_the_length_is_enough : token_display_gives 0 5 (Ok 5)
unfolding token_display_at
room_of_just_the_length_is_enough = token_display_at _ _

pub room_one_byte_short_is_none : token_display_gives 0 4 (Err (at_start 3))
unfolding token_display_at
room_one_byte_short_is_none = token_display_at _ _

-- of a buffer with a content
abbrev token_display_leaves_out : ℕ → List ℕ → List ℕ → Type 0
token_display_leaves_out k d v =
    Leaves token_display.ps token_display.r token_display_reads.Post (λ κs a. (a.0 ≡ k) × (a.1.0.now ≡ d)) (λ κs e. e.1.0.now) v

token_display_left_out : (k : ℕ) (d : List ℕ) → token_display_leaves_out k d (left_by (displayed (length d) k) (display_of k) d)
token_display_left_out k d κs a x e p h = cc (p.0, p.1, h.0, h.1)

pub identifier_is_shown_as_id : token_display_leaves_out 1 (ascii "uvwxyz") (ascii "{ID}yz")
unfolding token_display_at
identifier_is_shown_as_id = token_display_left_out _ _

-- the end has as many bytes, `<eof>`
pub string_is_not_shown_as_the_end : token_display_leaves_out 3 (ascii "uvwxyz") (ascii "{Str}z")
unfolding token_display_at
string_is_not_shown_as_the_end = token_display_left_out _ _

pub number_of_no_kind_is_unknown : token_display_leaves_out 39 (ascii "abcdefghijklmno") (ascii "unknown tokenno")
unfolding token_display_at
number_of_no_kind_is_unknown = token_display_left_out _ _

pub buffer_without_room_stays : token_display_leaves_out 0 (ascii "wxyz") (ascii "wxyz")
unfolding token_display_at
buffer_without_room_stays = token_display_left_out _ _

-- the row of a number, counted from 0 on: a padded word, its length and its kind
abbrev words_shows : ℕ → List ℕ → Type 0
words_shows i v = Shows words.ps words.r words_reads.Post (λ κs a. Unit {0}) (λ κs x. take word_row (drop (i * word_row) x)) v

words_at : (i : ℕ) → words_shows i (take word_row (drop (i * word_row) word_table))
unfolding word_table table_of slots_of row_for slot_of padded words
words_at i κs a x e p h = ap (λ (t : List ℕ). take word_row (drop (i * word_row) t)) p

pub first_row_is_that_of_and : words_shows 0 (ascii "and3456789ab" ++ (3 ∷ 35 ∷ []))
unfolding words_at
first_row_is_that_of_and = words_at 0

pub row_of_sum_has_its_letters_its_length_and_its_kind : words_shows 4 (ascii "sum3456789ab" ++ (3 ∷ 40 ∷ []))
unfolding words_at
row_of_sum_has_its_letters_its_length_and_its_kind = words_at 4

pub last_row_is_that_of_nan : words_shows 34 (ascii "nan3456789ab" ++ (3 ∷ 4 ∷ []))
unfolding words_at
last_row_is_that_of_nan = words_at 34

pub slots_stand_behind_the_last_row : words_shows 35 (0 ∷ 1 ∷ 2 ∷ 19 ∷ 4 ∷ 6 ∷ 6 ∷ 7 ∷ 28 ∷ 9 ∷ 10 ∷ 14 ∷ 12 ∷ 33 ∷ [])
unfolding words_at
slots_stand_behind_the_last_row = words_at 35

pub nothing_stands_behind_the_slots : words_shows 45 []
unfolding words_at
nothing_stands_behind_the_slots = words_at 45

-- of a table and a word
abbrev keyword_in_gives : List ℕ → List ℕ → Option ℕ → Type 0
keyword_in_gives t w v = Answers keyword_in_kinds.ps keyword_in_kinds.r keyword_in_reads.Post (λ κs a. (a.0.now ≡ t) × (a.1.0.now ≡ w)) (λ κs. v)

keyword_in_at : (t w : List ℕ) → keyword_in_gives t w (keyword_in t w)
unfolding keyword_in found_at is_row slot_of same_text lowered is_within
keyword_in_at t w κs a x e p h = p ∙ ap₂ keyword_in h.0 h.1

-- a table whose first row is a word of a kind, padded, and all of whose slots name one row
abbrev row_and_slots : String → ℕ → ℕ → ℕ → List ℕ
row_and_slots padded size kind row = ascii padded ++ (size ∷ kind ∷ replicate (table_size - word_row) row)

pub kind_stands_behind_the_length : keyword_in_gives (row_and_slots "or          " 2 36 0) (ascii "or") (Some 36)
unfolding keyword_in_at
kind_stands_behind_the_length = keyword_in_at _ _

pub capitals_are_looked_for : keyword_in_gives (row_and_slots "or          " 2 36 0) (ascii "OR") (Some 36)
unfolding keyword_in_at
capitals_are_looked_for = keyword_in_at _ _

pub word_of_twelve_letters_is_looked_for : keyword_in_gives (row_and_slots "count_values" 12 50 0) (ascii "count_values") (Some 50)
unfolding keyword_in_at
word_of_twelve_letters_is_looked_for = keyword_in_at _ _

pub beginning_of_a_word_is_not_the_word : keyword_in_gives (row_and_slots "or          " 2 36 0) (ascii "o") None
unfolding keyword_in_at
beginning_of_a_word_is_not_the_word = keyword_in_at _ _

pub row_is_that_of_the_slot : keyword_in_gives (row_and_slots "or          " 2 36 1) (ascii "or") None
unfolding keyword_in_at
row_is_that_of_the_slot = keyword_in_at _ _

pub slot_without_a_row_has_no_word : keyword_in_gives (row_and_slots "or          " 2 36 35) (ascii "or") None
unfolding keyword_in_at
slot_without_a_row_has_no_word = keyword_in_at _ _

pub table_without_slots_has_no_word : keyword_in_gives (ascii "or          " ++ (2 ∷ 36 ∷ [])) (ascii "or") None
unfolding keyword_in_at
table_without_slots_has_no_word = keyword_in_at _ _

abbrev get_keyword_token_gives : List ℕ → Option ℕ → Type 0
get_keyword_token_gives w v = Answers get_keyword_token.ps get_keyword_token.r get_keyword_token_reads.Post (λ κs a. a.0.now ≡ w) (λ κs. v)

get_keyword_token_at : (w : List ℕ) → get_keyword_token_gives w (keyword_of w)
unfolding keyword_of kind_in words same_text lowered is_within chars_past size_of char_length size_in fits code_of
get_keyword_token_at w κs a x e p h = p ∙ ap keyword_of h

pub sum_has_kind_40 : get_keyword_token_gives (ascii "sum") (Some 40)
unfolding get_keyword_token_at
sum_has_kind_40 = get_keyword_token_at _

pub capitals_are_the_same_word : get_keyword_token_gives (ascii "SUM") (Some 40)
unfolding get_keyword_token_at
capitals_are_the_same_word = get_keyword_token_at _

pub som_is_no_keyword : get_keyword_token_gives (ascii "som") None
unfolding get_keyword_token_at
som_is_no_keyword = get_keyword_token_at _

pub sum_and_a_space_is_no_keyword : get_keyword_token_gives (ascii "sum ") None
unfolding get_keyword_token_at
sum_and_a_space_is_no_keyword = get_keyword_token_at _

pub count_values_is_not_too_long : get_keyword_token_gives (ascii "count_values") (Some 50)
unfolding get_keyword_token_at
count_values_is_not_too_long = get_keyword_token_at _

abbrev is_label_gives : List ℕ → Bool → Type 0
is_label_gives s v = Answers is_label_kinds.ps is_label_kinds.r is_label_reads.Post (λ κs a. a.0.now ≡ s) (λ κs. v)

is_label_at : (s : List ℕ) → is_label_gives s (is_label s)
unfolding is_label is_alpha_numeric is_alpha is_within chars_past size_of char_length size_in fits code_of
is_label_at s κs a x e p h = p ∙ ap is_label h

pub digit_begins_no_label : is_label_gives (ascii "1a") false
unfolding is_label_at
digit_begins_no_label = is_label_at _

pub digit_goes_on_with_a_label : is_label_gives (ascii "a1") true
unfolding is_label_at
digit_goes_on_with_a_label = is_label_at _

pub colon_is_in_no_label : is_label_gives (ascii "a:") false
unfolding is_label_at
colon_is_in_no_label = is_label_at _

pub empty_text_is_no_label : is_label_gives [] false
unfolding is_label_at
empty_text_is_no_label = is_label_at _
