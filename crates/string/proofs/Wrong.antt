-- The answer, the content of the buffer and the text handed back that each promise leaves at a telling input: a program that does
-- otherwise there, as the theorem's name says, cannot be proved. A theorem computes with the definitions that `unquote_string_at` unfolds.
use Prim.Native.Nat.{ℕ}
use Prim.Native.Char.{code}
use native.Mathlib.Omega.{arith}
use mathlib.Core.List.{List, [], ◌∷◌, ◌++◌}
use mathlib.Core.Path.{◌≡◌, ◌∙◌}
use lib.ListN.{length, replicate, length-replicate}
use Rattle.scan.specs.Ascii.{ascii}
use Rattle.scan.specs.Byte.{is_within, is_hex_digit, digit_of, is_digit_in, is_quote}
use Rattle.proving.proofs.One.{Answers, Leaves, Shows}
use Rattle.scan.specs.Text.{has}
use Rattle.utf8.specs.declared.Reading.{Reading}
use Rattle.utf8.specs.declared.Reading.TheVariants.{Crate, Documented}
use Rattle.utf8.specs.Table.{fits, size_in, char_length}
use Rattle.utf8.specs.Code.{is_scalar, code_of, six_bits, encoded}
use Rattle.utf8.specs.Text.{chars_past, size_of, begun_in, char_number}
use Rattle.utf8.specs.Answers.{place, at_start, not_utf8, validity_of, admitted, character_at}
use Rattle.string.specs.Letters.{looked_up, letter_value}
use Rattle.string.specs.Tile.{amount_from, is_allowed, numbered, escape_of, begins_escape, tile_of}
use Rattle.string.specs.Tiles.{tiles_past, has_bad, good_size, piece_bytes, bytes_of}
use Rattle.string.specs.Literal.{has_newline, first_of, fault_of, has_escape, unquoted, extent_of, unquoting_of, text_by, part_of}
use Rattle.utf8.specs.declared.Refusal.{Refusal}
use Rattle.string.proofs.Given.{unquoting_given}
use Rattle.string.proofs.unquote_string.Kinds as unquote_string
use Rattle.string.proofs.unquote_string.Reads as unquote_string_reads
use Rattle.string.proofs.part.Kinds as part
use Rattle.string.proofs.part.Reads as part_reads
use Rattle.std.specs.Prelude.{Err, Ok, Result}
use Rattle.string.specs.declared.Unquoted.TheVariants.{Inner, Written}
use Rattle.string.specs.declared.Unquoted.{Unquoted}

-- of a literal, in a reading, with a buffer of so many bytes
abbrev unquote_string_gives : List ℕ → Reading → ℕ → Result Unquoted Refusal → Type 0
unquote_string_gives xs r room v =
    Answers unquote_string.ps unquote_string.r unquote_string_reads.Post (λ κs a. (a.0.now ≡ xs) × (a.1.0 ≡ r) × (length a.1.1.0.now ≡ room)) (λ κs. v)

unquote_string_at : (xs : List ℕ) (r : Reading) (room : ℕ) → unquote_string_gives xs r room (unquoting_of r room xs)
unfolding unquoting_of extent_of fault_of first_of good_size is_quote has_newline has_escape has tiles_past has_bad bytes_of piece_bytes tile_of begins_escape escape_of letter_value looked_up numbered amount_from is_digit_in is_hex_digit digit_of is_allowed is_scalar encoded six_bits character_at admitted validity_of char_number begun_in chars_past size_of char_length size_in fits code_of is_within
unquote_string_at xs r room κs a x e p h = cc (p.0, h.0, h.1, h.2)

abbrev bad_at : ℕ → ℕ → Refusal
bad_at byte character = record { number = 40; place = place byte character }

pub text_without_escapes_stays_in_the_literal : unquote_string_gives (ascii "'a'") Crate 0 (Ok (Inner 1))
unfolding unquote_string_at
text_without_escapes_stays_in_the_literal = unquote_string_at _ _ _

pub newline_between_backquotes_is_taken : unquote_string_gives (ascii "`\n`") Crate 0 (Ok (Inner 1))
unfolding unquote_string_at
newline_between_backquotes_is_taken = unquote_string_at _ _ _

-- the place of 40, by document 02: its six cases
pub literal_of_one_sign_is_bad_at_0 : unquote_string_gives (ascii "'") Crate 0 (Err (bad_at 0 0))
unfolding unquote_string_at
literal_of_one_sign_is_bad_at_0 = unquote_string_at _ _ _

pub signs_that_differ_are_bad_at_the_last_byte : unquote_string_gives (ascii "'a`") Crate 0 (Err (bad_at 2 2))
unfolding unquote_string_at
signs_that_differ_are_bad_at_the_last_byte = unquote_string_at _ _ _

pub last_byte_of_a_longer_character_is_named : unquote_string_gives (ascii "'" ++ (0xc3 ∷ 0xa9 ∷ [])) Crate 0 (Err (bad_at 2 2))
unfolding unquote_string_at
last_byte_of_a_longer_character_is_named = unquote_string_at _ _ _

pub letters_for_signs_are_bad_at_0 : unquote_string_gives (ascii "aa") Crate 0 (Err (bad_at 0 0))
unfolding unquote_string_at
letters_for_signs_are_bad_at_0 = unquote_string_at _ _ _

pub newline_between_quotes_is_bad_there : unquote_string_gives (ascii "'a\n'") Crate 0 (Err (bad_at 2 2))
unfolding unquote_string_at
newline_between_quotes_is_bad_there = unquote_string_at _ _ _

pub newline_is_named_before_an_escape : unquote_string_gives (ascii "'\\q\n'") Crate 0 (Err (bad_at 3 3))
unfolding unquote_string_at
newline_is_named_before_an_escape = unquote_string_at _ _ _

pub sign_between_signs_is_bad_there : unquote_string_gives (ascii "'a'b'") Crate 0 (Err (bad_at 2 2))
unfolding unquote_string_at
sign_between_signs_is_bad_there = unquote_string_at _ _ _

pub backquote_between_backquotes_is_bad_there : unquote_string_gives (ascii "`a`b`") Crate 0 (Err (bad_at 2 2))
unfolding unquote_string_at
backquote_between_backquotes_is_bad_there = unquote_string_at _ _ _

pub unknown_escape_is_bad_at_its_backslash : unquote_string_gives (ascii "'\\q'") Crate 0 (Err (bad_at 1 1))
unfolding unquote_string_at
unknown_escape_is_bad_at_its_backslash = unquote_string_at _ _ _

pub first_bad_escape_is_named : unquote_string_gives (ascii "'\\q\\x8'") Crate 0 (Err (bad_at 1 1))
unfolding unquote_string_at
first_bad_escape_is_named = unquote_string_at _ _ _

pub backslash_before_the_closing_sign_is_bad : unquote_string_gives (ascii "'\\'") Crate 0 (Err (bad_at 1 1))
unfolding unquote_string_at
backslash_before_the_closing_sign_is_bad = unquote_string_at _ _ _

pub sign_before_a_bad_escape_is_named : unquote_string_gives (ascii "'a'\\q'") Crate 0 (Err (bad_at 2 2))
unfolding unquote_string_at
sign_before_a_bad_escape_is_named = unquote_string_at _ _ _

pub bad_escape_before_a_sign_is_named : unquote_string_gives (ascii "'\\q'b'") Crate 0 (Err (bad_at 1 1))
unfolding unquote_string_at
bad_escape_before_a_sign_is_named = unquote_string_at _ _ _

pub escape_that_is_good_is_passed : unquote_string_gives (ascii "'\\n\\q'") Crate 0 (Err (bad_at 3 3))
unfolding unquote_string_at
escape_that_is_good_is_passed = unquote_string_at _ _ _

pub documented_reading_names_the_same_place : unquote_string_gives (ascii "'\\xc3\\q'") Documented 0 (Err (bad_at 5 5))
unfolding unquote_string_at
documented_reading_names_the_same_place = unquote_string_at _ _ _

pub place_is_counted_in_characters : unquote_string_gives (ascii "'" ++ (0xc3 ∷ 0xa9 ∷ ascii "\\q'")) Crate 0 (Err (bad_at 3 2))
unfolding unquote_string_at
place_is_counted_in_characters = unquote_string_at _ _ _

-- the room is just the length
pub documented_escape_by_x_is_one_byte : unquote_string_gives (ascii "'\\xc3'") Documented 1 (Ok (Written 1))
unfolding unquote_string_at
documented_escape_by_x_is_one_byte = unquote_string_at _ _ _

pub crate_escape_by_x_is_two_bytes : unquote_string_gives (ascii "'\\xc3'") Crate 2 (Ok (Written 2))
unfolding unquote_string_at
crate_escape_by_x_is_two_bytes = unquote_string_at _ _ _

pub two_bytes_have_no_room_in_one : unquote_string_gives (ascii "'\\xc3'") Crate 1 (Err (at_start 3))
unfolding unquote_string_at
two_bytes_have_no_room_in_one = unquote_string_at _ _ _

pub literal_that_is_not_utf8_is_refused_where_it_breaks_off : unquote_string_gives (ascii "'" ++ (0xc3 ∷ ascii "'")) Crate 0 (Err (not_utf8 (place 1 1)))
unfolding unquote_string_at
literal_that_is_not_utf8_is_refused_where_it_breaks_off = unquote_string_at _ _ _

pub literal_of_65536_bytes_is_too_long : unquote_string_gives (replicate 65536 (code "'")) Crate 0 (Err (at_start 1))
literal_of_65536_bytes_is_too_long κs a x e p h = unquote_string_at _ _ _ κs a x e p h ∙ (unquoting_given _ _ _).0.1 (rw length-replicate (omega arith))

-- of a buffer with a content
abbrev unquote_string_leaves_text : List ℕ → Reading → List ℕ → List ℕ → Type 0
unquote_string_leaves_text xs r d v =
    Leaves unquote_string.ps unquote_string.r unquote_string_reads.Post (λ κs a. (a.0.now ≡ xs) × (a.1.0 ≡ r) × (a.1.1.0.now ≡ d)) (λ κs e. e.1.1.0.now) v

unquote_string_left_text : (xs : List ℕ) (r : Reading) (d : List ℕ) → unquote_string_leaves_text xs r d (text_by (unquoting_of r (length d) xs) (unquoted r xs) d)
unquote_string_left_text xs r d κs a x e p h = cc (p.0, p.1, h.0, h.1, h.2)

pub escaped_letter_is_written : unquote_string_leaves_text (ascii "'\\n'") Crate (ascii "xyz") (10 ∷ ascii "yz")
unfolding unquote_string_at
escaped_letter_is_written = unquote_string_left_text _ _ _

pub each_tile_gives_its_own_text : unquote_string_leaves_text (ascii "'b\\tc'") Crate (ascii "wxyz") (ascii "b\tcz")
unfolding unquote_string_at
each_tile_gives_its_own_text = unquote_string_left_text _ _ _

pub rest_of_the_buffer_stays : unquote_string_leaves_text (ascii "'\\t'") Crate (ascii "xyz") (9 ∷ ascii "yz")
unfolding unquote_string_at
rest_of_the_buffer_stays = unquote_string_left_text _ _ _

pub buffer_without_room_stays : unquote_string_leaves_text (ascii "'\\xc3'") Crate (ascii "x") (ascii "x")
unfolding unquote_string_at
buffer_without_room_stays = unquote_string_left_text _ _ _

-- of a literal, a text buffer and an answer
abbrev part_shows : List ℕ → List ℕ → Result Unquoted Refusal → List ℕ → Type 0
part_shows xs d u v =
    Shows part.ps part.r part_reads.Post (λ κs a. (a.0.now ≡ xs) × (a.1.0.now ≡ d) × (a.1.1.0 ≡ u)) (λ κs x. x.now) v

part_at : (xs d : List ℕ) (u : Result Unquoted Refusal) → part_shows xs d u (part_of u xs d)
part_at xs d u κs a x e p h = cc (p, h.0, h.1, h.2)

pub text_that_fills_the_buffer_is_handed_back : part_shows (ascii "'\\t'") (ascii "x") (Ok (Written 1)) (ascii "x")
unfolding part_of
text_that_fills_the_buffer_is_handed_back = part_at _ _ _

pub inner_text_is_that_of_the_literal : part_shows (ascii "'a'") (ascii "xyz") (Ok (Inner 1)) (ascii "a")
unfolding part_of
inner_text_is_that_of_the_literal = part_at _ _ _

pub refusal_hands_back_nothing : part_shows (ascii "'''") (ascii "xyz") (Err (bad_at 1 1)) []
unfolding part_of
refusal_hands_back_nothing = part_at _ _ _
