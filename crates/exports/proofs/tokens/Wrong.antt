-- The answer, and the content of the lent buffer, that each promise leaves at a telling input: a program that answers or writes otherwise
-- there, as the theorem's name says, cannot be proved. `FUNCTION-gives` and `FUNCTION-leaves-BUFFER` say what, at the arguments.
use Prim.Native.Nat.{ℕ, ◌+◌}
use mathlib.Core.List.{List}
use mathlib.Core.Path.{◌≡◌}
use lib.ListN.{length}
use Rattle.scan.specs.Ascii.{ascii}
use Rattle.scan.specs.Byte.{is_within, is_alpha, is_alpha_numeric, lowered}
use Rattle.proving.proofs.One.{Answers, Leaves}
use Rattle.scan.specs.Text.{same_text}
use Rattle.utf8.specs.Table.{fits, size_in, char_length}
use Rattle.utf8.specs.Code.{code_of}
use Rattle.utf8.specs.Text.{chars_past, size_of}
use Rattle.utf8.specs.Writing.{left_by}
use Rattle.token.specs.Kinds.{left_paren, eqlc, lor, topk, fill}
use Rattle.token.specs.Words.{words, kind_in, keyword_of}
use Rattle.token.specs.Display.{wordless, own_kinds, displays, text_in, display_of, displayed}
use Rattle.token.specs.Label.{is_label}
use Rattle.exports.specs.Packed.{packed_as, counted_code}
use Rattle.exports.specs.Token.{keyword_code, flag, classes_code}
use Rattle.exports.proofs.tokens.simmerpath_get_keyword_token.Kinds as simmerpath_get_keyword_token
use Rattle.exports.proofs.tokens.simmerpath_get_keyword_token.Reads as simmerpath_get_keyword_token_reads
use Rattle.exports.proofs.tokens.simmerpath_token_display.Kinds as simmerpath_token_display
use Rattle.exports.proofs.tokens.simmerpath_token_display.Reads as simmerpath_token_display_reads
use Rattle.exports.proofs.tokens.simmerpath_token_classes.Kinds as simmerpath_token_classes
use Rattle.exports.proofs.tokens.simmerpath_token_classes.Reads as simmerpath_token_classes_reads
use Rattle.exports.proofs.tokens.simmerpath_is_label.Kinds as simmerpath_is_label
use Rattle.exports.proofs.tokens.simmerpath_is_label.Reads as simmerpath_is_label_reads

abbrev simmerpath_get_keyword_token_gives : List ℕ → ℕ → Type 0
simmerpath_get_keyword_token_gives xs v =
    Answers simmerpath_get_keyword_token.ps simmerpath_get_keyword_token.r simmerpath_get_keyword_token_reads.Post (λ κs a. a.0.now ≡ xs) (λ κs. v)

simmerpath_get_keyword_token_at : (xs : List ℕ) → simmerpath_get_keyword_token_gives xs (keyword_code (keyword_of xs))
simmerpath_get_keyword_token_at xs κs a x e p h = cc (p, h)

pub other_word_has_no_kind : simmerpath_get_keyword_token_gives (ascii "a") 0x10000
unfolding keyword_of words kind_in same_text lowered chars_past size_of char_length size_in fits code_of is_within
other_word_has_no_kind = simmerpath_get_keyword_token_at _

pub capitals_have_the_kind_of_the_word : simmerpath_get_keyword_token_gives (ascii "OR") lor
unfolding keyword_of words kind_in same_text lowered chars_past size_of char_length size_in fits code_of is_within
capitals_have_the_kind_of_the_word = simmerpath_get_keyword_token_at _

abbrev simmerpath_token_display_gives : ℕ → ℕ → ℕ → Type 0
simmerpath_token_display_gives kind room v =
    Answers simmerpath_token_display.ps simmerpath_token_display.r simmerpath_token_display_reads.Post (λ κs a. (a.0 ≡ kind) × (length a.1.0.now ≡ room)) (λ κs. v)

simmerpath_token_display_at : (kind room : ℕ) → simmerpath_token_display_gives kind room (counted_code (displayed room kind))
simmerpath_token_display_at kind room κs a x e p h = cc (p.0, h.0, h.1)

pub kind_fits_just_its_length : simmerpath_token_display_gives left_paren 1 1
unfolding text_in displays wordless own_kinds words
kind_fits_just_its_length = simmerpath_token_display_at _ _

pub no_room_is_refused : simmerpath_token_display_gives left_paren 0 (packed_as 3 0 0)
unfolding text_in displays wordless own_kinds words
no_room_is_refused = simmerpath_token_display_at _ _

abbrev simmerpath_token_display_leaves_out : ℕ → List ℕ → List ℕ → Type 0
simmerpath_token_display_leaves_out kind out v =
    Leaves simmerpath_token_display.ps simmerpath_token_display.r simmerpath_token_display_reads.Post (λ κs a. (a.0 ≡ kind) × (a.1.0.now ≡ out)) (λ κs e. e.1.0.now) v

simmerpath_token_display_left_out : (kind : ℕ) (out : List ℕ) → simmerpath_token_display_leaves_out kind out (left_by (displayed (length out) kind) (display_of kind) out)
simmerpath_token_display_left_out kind out κs a x e p h = cc (p.1, h.0, h.1)

pub paren_is_not_shown_as_the_end : simmerpath_token_display_leaves_out left_paren (ascii "......") (ascii "(.....")
unfolding text_in displays wordless own_kinds words
paren_is_not_shown_as_the_end = simmerpath_token_display_left_out _ _

pub kind_without_room_leaves_the_buffer : simmerpath_token_display_leaves_out fill (ascii "...") (ascii "...")
unfolding text_in displays wordless own_kinds words
kind_without_room_leaves_the_buffer = simmerpath_token_display_left_out _ _

abbrev simmerpath_token_classes_gives : ℕ → ℕ → Type 0
simmerpath_token_classes_gives kind v =
    Answers simmerpath_token_classes.ps simmerpath_token_classes.r simmerpath_token_classes_reads.Post (λ κs a. a.0 ≡ kind) (λ κs. v)

simmerpath_token_classes_at : (kind : ℕ) → simmerpath_token_classes_gives kind (classes_code kind)
simmerpath_token_classes_at kind κs a x e p h = cc (p, h)

pub set_operator_is_worth_four : simmerpath_token_classes_gives lor (1 + 4)
unfolding is_within
set_operator_is_worth_four = simmerpath_token_classes_at _

pub comparison_is_worth_two : simmerpath_token_classes_gives eqlc (1 + 2)
unfolding is_within
comparison_is_worth_two = simmerpath_token_classes_at _

pub aggregator_with_a_parameter_is_worth_both : simmerpath_token_classes_gives topk (8 + 16)
unfolding is_within
aggregator_with_a_parameter_is_worth_both = simmerpath_token_classes_at _

pub fill_is_in_no_class : simmerpath_token_classes_gives fill 0
unfolding is_within
fill_is_in_no_class = simmerpath_token_classes_at _

abbrev simmerpath_is_label_gives : List ℕ → ℕ → Type 0
simmerpath_is_label_gives xs v =
    Answers simmerpath_is_label.ps simmerpath_is_label.r simmerpath_is_label_reads.Post (λ κs a. a.0.now ≡ xs) (λ κs. v)

simmerpath_is_label_at : (xs : List ℕ) → simmerpath_is_label_gives xs (flag (is_label xs) 1)
simmerpath_is_label_at xs κs a x e p h = cc (p, h)

pub label_is_answered_with_one : simmerpath_is_label_gives (ascii "a") 1
unfolding is_label chars_past size_of char_length size_in fits code_of is_within is_alpha is_alpha_numeric
label_is_answered_with_one = simmerpath_is_label_at _

pub colon_is_in_no_label : simmerpath_is_label_gives (ascii "a:") 0
unfolding is_label chars_past size_of char_length size_in fits code_of is_within is_alpha is_alpha_numeric
colon_is_in_no_label = simmerpath_is_label_at _
