-- The answer, and the content of a lent buffer, that each promise leaves at a telling input: a program that answers or writes otherwise
-- there, as the theorem's name says, cannot be proved. `FUNCTION-gives` and `FUNCTION-leaves-BUFFER` say what, at the arguments.
use Prim.Native.Nat.{ℕ, zero, suc, ◌+◌, ◌≤◌}
use Prim.Native.Char.{code}
use native.Mathlib.Omega.{arith}
use mathlib.Core.Bool.{true}
use mathlib.Core.List.{List, ◌∷◌}
use mathlib.Core.Path.{◌≡◌, refl, ap, ◌∙◌}
use lib.ListN.{length, replicate, length-replicate}
use Rattle.std.specs.Prelude.{Ok}
use Rattle.scan.specs.Ascii.{ascii}
use Rattle.scan.specs.Byte.{is_within, is_hex_digit, digit_of, is_digit_in, is_quote}
use Rattle.proving.proofs.One.{Answers, Leaves}
use Rattle.scan.specs.Text.{has}
use Rattle.utf8.specs.Table.{fits, size_in, char_length}
use Rattle.utf8.specs.Code.{is_scalar, code_of, six_bits, encoded}
use Rattle.utf8.specs.Text.{chars_past, size_of, begun_in, char_number}
use Rattle.utf8.specs.Answers.{text_limit, validity_of, admitted, character_at}
use Rattle.utf8.specs.laws.Ascii.{is_ascii}
use Rattle.utf8.proofs.Ascii.{ascii_text}
use Rattle.utf8.specs.Writing.{left_by}
use Rattle.string.specs.Letters.{looked_up, letter_value, letter_among, letter_of}
use Rattle.string.specs.Escape.{escaped_codes, escaped, escaping_of}
use Rattle.string.proofs.escape.Given.{escaping_given}
use Rattle.string.specs.Tile.{amount_from, is_allowed, numbered, escape_of, begins_escape, tile_of}
use Rattle.string.specs.Tiles.{tiles_past, has_bad, piece_bytes, bytes_of}
use Rattle.string.specs.Literal.{has_newline, has_escape, unquoted, fault_of, extent_of, unquoting_of, text_by}
use Rattle.exports.specs.Packed.{packed_as, counted_code}
use Rattle.exports.specs.Reading.{reading_of}
use Rattle.exports.specs.String.{inner_from, unquote_code}
use Rattle.exports.proofs.strings.simmerpath_escape_string.Kinds as simmerpath_escape_string
use Rattle.exports.proofs.strings.simmerpath_escape_string.Reads as simmerpath_escape_string_reads
use Rattle.exports.proofs.strings.simmerpath_unquote_string.Kinds as simmerpath_unquote_string
use Rattle.exports.proofs.strings.simmerpath_unquote_string.Reads as simmerpath_unquote_string_reads

-- what computes at a text, and at a literal
escaping : Unit {0}
unfolding escaping_of admitted validity_of chars_past size_of char_length size_in fits code_of is_within letter_of letter_among letter_value looked_up encoded
escaping = tt

unquoting : Unit {0}
unfolding reading_of unquoting_of extent_of fault_of char_number begun_in admitted validity_of chars_past size_of char_length size_in fits code_of is_within is_hex_digit digit_of is_scalar encoded six_bits character_at letter_value looked_up is_digit_in amount_from is_allowed numbered escape_of begins_escape tile_of tiles_past has_bad piece_bytes bytes_of is_quote has has_newline has_escape
unquoting = tt

abbrev simmerpath_escape_string_gives : List ℕ → ℕ → ℕ → Type 0
simmerpath_escape_string_gives xs room v =
    Answers simmerpath_escape_string.ps simmerpath_escape_string.r simmerpath_escape_string_reads.Post (λ κs a. (a.0.now ≡ xs) × (length a.1.0.now ≡ room)) (λ κs. v)

simmerpath_escape_string_at : (xs : List ℕ) (room : ℕ) → simmerpath_escape_string_gives xs room (counted_code (escaping_of room xs))
simmerpath_escape_string_at xs room κs a x e p h = cc (p.0, h.0, h.1)

pub quote_is_escaped_to_two_bytes : simmerpath_escape_string_gives (ascii "\"") 2 2
unfolding escaping
quote_is_escaped_to_two_bytes = simmerpath_escape_string_at _ _

pub escaped_text_lacks_room_by_a_byte : simmerpath_escape_string_gives (ascii "\"") 1 (packed_as 3 0 0)
unfolding escaping
escaped_text_lacks_room_by_a_byte = simmerpath_escape_string_at _ _

-- so many double quotes are escaped to twice as many bytes
abbrev quotes : ℕ → List ℕ
quotes n = replicate n (code "\"")

quotes_escaped : (n : ℕ) → (is_ascii (quotes n) ≡ true) × (length (escaped_codes (quotes n)) ≡ n + n)
unfolding letter_of letter_among letter_value looked_up
quotes_escaped zero = (refl, refl)
quotes_escaped (suc n) = let r = quotes_escaped n in (r.0, omega (arith, r.1))

quotes_written : (n : ℕ) → n ≤ text_limit → escaping_of (n + n) (quotes n) ≡ Ok (n + n)
quotes_written n h =
    let t = ascii_text (quotes n) (quotes_escaped n).0 in
    let e : length (escaped (quotes n)) ≡ n + n = rw t.1 (quotes_escaped n).1 in
    (escaping_given (n + n) (quotes n)).3.1 ((λ l. omega (arith, length-replicate n (code "\"")), t.0), λ l. omega arith) ∙ ap Ok e

-- 32,768 double quotes are escaped to 65,536 bytes, more than 16 bits tell
pub length_of_seventeen_bits_is_told : simmerpath_escape_string_gives (quotes 0x8000) 0x10000 0x10000
length_of_seventeen_bits_is_told κs a x e p h =
    simmerpath_escape_string_at _ _ κs a x e p h ∙ ap counted_code (quotes_written 0x8000 (omega arith))

abbrev simmerpath_escape_string_leaves_out : List ℕ → List ℕ → List ℕ → Type 0
simmerpath_escape_string_leaves_out xs out v =
    Leaves simmerpath_escape_string.ps simmerpath_escape_string.r simmerpath_escape_string_reads.Post (λ κs a. (a.0.now ≡ xs) × (a.1.0.now ≡ out)) (λ κs e. e.1.0.now) v

simmerpath_escape_string_left_out : (xs out : List ℕ) → simmerpath_escape_string_leaves_out xs out (left_by (escaping_of (length out) xs) (escaped xs) out)
simmerpath_escape_string_left_out xs out κs a x e p h = cc (p.1, h.0, h.1)

pub rest_of_the_buffer_stays : simmerpath_escape_string_leaves_out (ascii "\"") (ascii "....") (ascii "\\\"..")
unfolding escaping
rest_of_the_buffer_stays = simmerpath_escape_string_left_out _ _

pub escaped_text_without_room_leaves_the_buffer : simmerpath_escape_string_leaves_out (ascii "\"") (ascii ".") (ascii ".")
unfolding escaping
escaped_text_without_room_leaves_the_buffer = simmerpath_escape_string_left_out _ _

abbrev simmerpath_unquote_string_gives : List ℕ → ℕ → ℕ → ℕ → Type 0
simmerpath_unquote_string_gives xs documented room v =
    Answers simmerpath_unquote_string.ps simmerpath_unquote_string.r simmerpath_unquote_string_reads.Post (λ κs a. (a.0.now ≡ xs) × (a.1.0 ≡ documented) × (length a.1.1.0.now ≡ room)) (λ κs. v)

simmerpath_unquote_string_at : (xs : List ℕ) (documented room : ℕ) → simmerpath_unquote_string_gives xs documented room (unquote_code (unquoting_of (reading_of documented) room xs))
simmerpath_unquote_string_at xs documented room κs a x e p h = cc (p.0, h.0, h.1, h.2)

pub text_in_the_literal_is_told_apart : simmerpath_unquote_string_gives (ascii "'a'") 0 0 (inner_from + 1)
unfolding unquoting
text_in_the_literal_is_told_apart = simmerpath_unquote_string_at _ _ _

pub crate_reading_gives_a_character : simmerpath_unquote_string_gives (ascii "'\\xe9'") 0 2 2
unfolding unquoting
crate_reading_gives_a_character = simmerpath_unquote_string_at _ _ _

pub documented_reading_gives_a_byte : simmerpath_unquote_string_gives (ascii "'\\xe9'") 1 2 1
unfolding unquoting
documented_reading_gives_a_byte = simmerpath_unquote_string_at _ _ _

pub open_literal_is_bad_at_its_last_byte : simmerpath_unquote_string_gives (ascii "'a") 0 2 (packed_as 40 1 1)
unfolding unquoting
open_literal_is_bad_at_its_last_byte = simmerpath_unquote_string_at _ _ _

abbrev simmerpath_unquote_string_leaves_text : List ℕ → ℕ → List ℕ → List ℕ → Type 0
simmerpath_unquote_string_leaves_text xs documented text v =
    Leaves simmerpath_unquote_string.ps simmerpath_unquote_string.r simmerpath_unquote_string_reads.Post (λ κs a. (a.0.now ≡ xs) × (a.1.0 ≡ documented) × (a.1.1.0.now ≡ text)) (λ κs e. e.1.1.0.now) v

simmerpath_unquote_string_left_text : (xs : List ℕ) (documented : ℕ) (text : List ℕ) → simmerpath_unquote_string_leaves_text xs documented text (text_by (unquoting_of (reading_of documented) (length text) xs) (unquoted (reading_of documented) xs) text)
simmerpath_unquote_string_left_text xs documented text κs a x e p h = cc (p.1, h.0, h.1, h.2)

pub bytes_behind_a_character_stay : simmerpath_unquote_string_leaves_text (ascii "'\\xe9'") 0 (ascii "...") (0xc3 ∷ 0xa9 ∷ ascii ".")
unfolding unquoting
bytes_behind_a_character_stay = simmerpath_unquote_string_left_text _ _ _

pub bytes_behind_a_byte_stay : simmerpath_unquote_string_leaves_text (ascii "'\\xe9'") 1 (ascii "...") (0xe9 ∷ ascii "..")
unfolding unquoting
bytes_behind_a_byte_stay = simmerpath_unquote_string_left_text _ _ _

pub text_in_the_literal_is_not_copied : simmerpath_unquote_string_leaves_text (ascii "'a'") 0 (ascii "...") (ascii "...")
unfolding unquoting
text_in_the_literal_is_not_copied = simmerpath_unquote_string_left_text _ _ _
