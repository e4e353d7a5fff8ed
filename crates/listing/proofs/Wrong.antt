-- The answer, and the content of the lent buffer, that each promise leaves at a telling input: a program that answers or writes otherwise
-- there, as the theorem's name says, cannot be proved. `FUNCTION_gives` and `FUNCTION_leaves_BUFFER` say what, at the arguments.
use Prim.Native.Nat.{ℕ, ◌<◌}
use Prim.Native.Char.{code}
use native.Mathlib.Omega.{arith}
use mathlib.Core.List.{List, [], ◌∷◌}
use mathlib.Core.Path.{◌≡◌, ap, ◌∙◌}
use lib.ListN.{length, replicate, length-replicate}
use borrow.Author.Tests.{le-ltb, lt-ltb}
use Rattle.scan.specs.Ascii.{ascii}
use Rattle.scan.specs.Byte.{is_within, lowered, is_in, is_alpha, is_space, is_alpha_numeric, is_word, is_quote}
use Rattle.proving.proofs.One.{Answers, Leaves}
use Rattle.scan.specs.Run.{run_length}
use Rattle.scan.specs.Text.{has, same_text}
use Rattle.utf8.specs.Table.{fits, size_in, char_length}
use Rattle.utf8.specs.Code.{code_of}
use Rattle.utf8.specs.Text.{chars_past, size_of, begun_in, char_number}
use Rattle.utf8.specs.Answers.{text_limit, validity_of, admitted}
use Rattle.utf8.proofs.Given.{given_exactly}
use Rattle.writing.specs.Put.{put_at, past_at}
use Rattle.writing.specs.Decimal.{digit_for, digits_within, decimal_text}
use Rattle.token.specs.Words.{words, kind_in, keyword_of}
use Rattle.munch.specs.Word.{is_word_start, rule_by, kind_by}
use Rattle.munch.specs.Munch.{word_step, right_paren_step, deeper, end_step, outside_table, step_in, munched}
use Rattle.lex.specs.Outcome.{steps_past, read_from}
use Rattle.lex.specs.Lex.{answer_by, measured, lexed}
use Rattle.listing.specs.Listing.{input_limit, refusal, lexemes_text, printed_by, printed}
use Rattle.listing.proofs.list_lexemes.Kinds as list_lexemes
use Rattle.listing.proofs.list_lexemes.Reads as list_lexemes_reads

-- what computes at a refusal or a lexeme, and at a query
writing : Unit {0}
unfolding put_at past_at refusal decimal_text digits_within digit_for
writing = tt

listing : Unit {0}
unfolding writing printed printed_by lexemes_text lexed measured answer_by steps_past read_from munched step_in outside_table is_word_start is_quote word_step right_paren_step deeper end_step rule_by kind_by keyword_of words kind_in admitted validity_of chars_past size_of char_number begun_in char_length size_in fits code_of is_within is_in is_space is_alpha is_alpha_numeric is_word lowered run_length same_text has
listing = tt

-- a buffer of so many dots
abbrev dots : ℕ → List ℕ
dots n = replicate n (code ".")

abbrev list_lexemes_gives : List ℕ → List ℕ → ℕ → Type 0
list_lexemes_gives q out v =
    Answers list_lexemes.ps list_lexemes.r list_lexemes_reads.Post (λ κs a. (a.0.now ≡ q) × (a.1.0.now ≡ out)) (λ κs. v)

list_lexemes_at : (q out : List ℕ) → list_lexemes_gives q out (past_at out 0 (printed q))
list_lexemes_at q out κs a x e p h = cc (p.0, h.0, h.1)

pub end_is_counted : list_lexemes_gives (ascii "a") (dots 16) 16
unfolding listing
end_is_counted = list_lexemes_at _ _

pub text_without_room_is_not_counted : list_lexemes_gives (ascii "a") (dots 15) 0
unfolding listing
text_without_room_is_not_counted = list_lexemes_at _ _

abbrev list_lexemes_leaves_out : List ℕ → List ℕ → List ℕ → Type 0
list_lexemes_leaves_out q out v =
    Leaves list_lexemes.ps list_lexemes.r list_lexemes_reads.Post (λ κs a. (a.0.now ≡ q) × (a.1.0.now ≡ out)) (λ κs e. e.1.0.now) v

list_lexemes_left_out : (q out : List ℕ) → list_lexemes_leaves_out q out (put_at out 0 (printed q))
list_lexemes_left_out q out κs a x e p h = cc (p.1.0, h.0, h.1)

pub short_query_is_not_too_long : list_lexemes_leaves_out (ascii "a") (dots 18) (ascii "1 0 1 0\n0 1 0 0\n..")
unfolding listing
short_query_is_not_too_long = list_lexemes_left_out _ _

pub start_is_not_the_length : list_lexemes_leaves_out (ascii "a b") (dots 26) (ascii "1 0 1 0\n1 2 1 0\n0 3 0 0\n..")
unfolding listing
start_is_not_the_length = list_lexemes_left_out _ _

pub depth_is_printed_last : list_lexemes_leaves_out (ascii "(a)") (dots 34) (ascii "6 0 1 0\n1 1 1 1\n7 2 1 0\n0 3 0 0\n..")
unfolding listing
depth_is_printed_last = list_lexemes_left_out _ _

pub character_is_not_the_byte : list_lexemes_leaves_out (0xc3 ∷ 0xa9 ∷ 0xff ∷ []) (dots 16) (ascii "refused 2 2 1\n..")
unfolding listing
character_is_not_the_byte = list_lexemes_left_out _ _

pub text_without_room_is_not_written : list_lexemes_leaves_out (ascii "a") (dots 15) (dots 15)
unfolding listing
text_without_room_is_not_written = list_lexemes_left_out _ _

-- so many bytes, with which no character begins: they are refused as such up to 4,096, and any more are too long
abbrev broken : ℕ → List ℕ
broken n = replicate n 0xff

unread : (n : ℕ) → n < input_limit → printed (0xff ∷ broken n) ≡ ascii "refused 2 0 0\n"
unfolding listing
unread n h =
    let l = length-replicate {A = ℕ} n 0xff in
    rw (le-ltb input_limit (length (0xff ∷ broken n)) (omega arith), (given_exactly text_limit (0xff ∷ broken n)).1.1 ((λ t. omega arith), λ w. omega arith))

over : (n : ℕ) → input_limit < n → printed (broken n) ≡ ascii "refused 1 0 0\n"
unfolding listing
over n h = rw (lt-ltb input_limit (length (broken n)) (omega (arith, length-replicate {A = ℕ} n 0xff)))

pub limit_itself_is_not_too_long : list_lexemes_leaves_out (broken 4096) (dots 16) (ascii "refused 2 0 0\n..")
unfolding writing
limit_itself_is_not_too_long κs a x e p h =
    list_lexemes_left_out _ _ κs a x e p h ∙ ap (put_at (dots 16) 0) (unread 4095 (omega arith))

pub byte_over_the_limit_is_too_long : list_lexemes_leaves_out (broken 4097) (dots 16) (ascii "refused 1 0 0\n..")
unfolding writing
byte_over_the_limit_is_too_long κs a x e p h =
    list_lexemes_left_out _ _ κs a x e p h ∙ ap (put_at (dots 16) 0) (over 4097 (omega arith))
