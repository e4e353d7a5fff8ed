-- The answer and the content of the buffer that the promise leaves at a telling input: a program that does otherwise there, as the
-- theorem's name says, cannot be proved. A theorem computes with the definitions that `escape_string_at` unfolds.
use Prim.Native.Nat.{ℕ}
use Prim.Native.Char.{code}
use native.Mathlib.Omega.{arith}
use mathlib.Core.List.{List, [], ◌∷◌}
use mathlib.Core.Path.{◌≡◌, ap₂, ◌∙◌}
use lib.ListN.{length, replicate, length-replicate}
use Rattle.utf8.specs.declared.Refusal.{Refusal}
use Rattle.std.specs.Prelude.{Err, Ok, Result}
use Rattle.scan.specs.Ascii.{ascii}
use Rattle.scan.specs.Byte.{is_within}
use Rattle.proving.proofs.One.{Answers, Leaves}
use Rattle.utf8.specs.Table.{fits, size_in, char_length}
use Rattle.utf8.specs.Code.{code_of, six_bits, encoded}
use Rattle.utf8.specs.Text.{chars_past, size_of, begun_in, char_number}
use Rattle.utf8.specs.Answers.{place, at_start, not_utf8, validity_of, admitted}
use Rattle.utf8.specs.Writing.{left_by}
use Rattle.string.specs.Letters.{looked_up, letter_value, letter_among, letter_of}
use Rattle.string.specs.Escape.{escaped, escaping_of}
use Rattle.string.proofs.escape.Given.{escaping_given}
use Rattle.string.proofs.escape.escape_string.Kinds as escape_string
use Rattle.string.proofs.escape.escape_string.Reads as escape_string_reads

-- of a text, with a buffer of so many bytes
abbrev escape_string_gives : List ℕ → ℕ → Result ℕ Refusal → Type 0
escape_string_gives xs room v =
    Answers escape_string.ps escape_string.r escape_string_reads.Post (λ κs a. (a.0.now ≡ xs) × (length a.1.0.now ≡ room)) (λ κs. v)

escape_string_at : (xs : List ℕ) (room : ℕ) → escape_string_gives xs room (escaping_of room xs)
unfolding escaping_of letter_of letter_among letter_value looked_up encoded six_bits admitted validity_of char_number begun_in chars_past size_of char_length size_in fits code_of is_within
escape_string_at xs room κs a x e p h = p.0 ∙ ap₂ escaping_of h.1 h.0

pub text_that_has_room_is_written : escape_string_gives (ascii "a") 3 (Ok 1)
unfolding escape_string_at
text_that_has_room_is_written = escape_string_at _ _

pub room_of_just_the_length_is_enough : escape_string_gives (ascii "ab") 2 (Ok 2)
unfolding escape_string_at
room_of_just_the_length_is_enough = escape_string_at _ _

pub text_without_room_is_refused_as_3 : escape_string_gives (ascii "a") 0 (Err (at_start 3))
unfolding escape_string_at
text_without_room_is_refused_as_3 = escape_string_at _ _

pub quote_is_escaped : escape_string_gives (ascii "\"") 2 (Ok 2)
unfolding escape_string_at
quote_is_escaped = escape_string_at _ _

pub single_quote_is_copied : escape_string_gives (ascii "'") 2 (Ok 1)
unfolding escape_string_at
single_quote_is_copied = escape_string_at _ _

pub text_of_65536_bytes_is_too_long : escape_string_gives (replicate 65536 (code "a")) 0 (Err (at_start 1))
text_of_65536_bytes_is_too_long κs a x e p h = escape_string_at _ _ κs a x e p h ∙ (escaping_given _ _).0.1 (rw length-replicate (omega arith))

pub text_that_is_not_utf8_is_refused_where_it_breaks_off : escape_string_gives (code "a" ∷ 0xc3 ∷ []) 3 (Err (not_utf8 (place 1 1)))
unfolding escape_string_at
text_that_is_not_utf8_is_refused_where_it_breaks_off = escape_string_at _ _

-- of a buffer with a content
abbrev escape_string_leaves_out : List ℕ → List ℕ → List ℕ → Type 0
escape_string_leaves_out xs d v =
    Leaves escape_string.ps escape_string.r escape_string_reads.Post (λ κs a. (a.0.now ≡ xs) × (a.1.0.now ≡ d)) (λ κs e. e.1.0.now) v

escape_string_left_out : (xs d : List ℕ) → escape_string_leaves_out xs d (left_by (escaping_of (length d) xs) (escaped xs) d)
escape_string_left_out xs d κs a x e p h = cc (p.0, p.1, h.0, h.1)

pub letter_is_copied : escape_string_leaves_out (ascii "a") (ascii "xyz") (ascii "ayz")
unfolding escape_string_at
letter_is_copied = escape_string_left_out _ _

pub second_letter_is_copied_too : escape_string_leaves_out (ascii "ab") (ascii "xyz") (ascii "abz")
unfolding escape_string_at
second_letter_is_copied_too = escape_string_left_out _ _

pub newline_is_escaped_by_n : escape_string_leaves_out (ascii "\n") (ascii "xyz") (ascii "\\nz")
unfolding escape_string_at
newline_is_escaped_by_n = escape_string_left_out _ _

pub buffer_without_room_stays : escape_string_leaves_out (ascii "a\n") (ascii "xy") (ascii "xy")
unfolding escape_string_at
buffer_without_room_stays = escape_string_left_out _ _
