-- The answer, and the content of what is lent, that each promise leaves at a telling input: a program that answers or writes otherwise
-- there, as the theorem's name says, cannot be proved. `FUNCTION-gives` and `FUNCTION-leaves-PARAMETER` say what, at the arguments.
use Prim.Native.Nat.{ℕ, ◌<◌}
use Prim.Native.Char.{code}
use native.Mathlib.Omega.{arith}
use mathlib.Core.List.{List, [], ◌∷◌}
use mathlib.Core.Path.{◌≡◌, ap, ◌∙◌}
use lib.ListN.{length, replicate, length-replicate}
use borrow.Author.Tests.{le-ltb, lt-leb}
use Rattle.scan.specs.Ascii.{ascii}
use Rattle.scan.specs.Byte.{is_within}
use Rattle.proving.proofs.One.{Answers, Leaves}
use Rattle.utf8.specs.Table.{fits, size_in, char_length}
use Rattle.utf8.specs.Code.{is_scalar, code_of, six_bits, encoded}
use Rattle.utf8.specs.Text.{chars_past, size_of, begun_in, char_number}
use Rattle.utf8.specs.Answers.{text_limit, validity_of, admitted, character_at}
use Rattle.utf8.proofs.Given.{given_exactly}
use Rattle.utf8.specs.Encode.{encoding_of}
use Rattle.utf8.specs.Writing.{left_at}
use Rattle.exports.specs.Packed.{packed_as, counted_code}
use Rattle.exports.specs.Utf8.{validate_code, char_at_code, char_at_left}
use Rattle.exports.proofs.text.simmerpath_utf8_validate.Kinds as simmerpath_utf8_validate
use Rattle.exports.proofs.text.simmerpath_utf8_validate.Reads as simmerpath_utf8_validate_reads
use Rattle.exports.proofs.text.simmerpath_utf8_char_number.Kinds as simmerpath_utf8_char_number
use Rattle.exports.proofs.text.simmerpath_utf8_char_number.Reads as simmerpath_utf8_char_number_reads
use Rattle.exports.proofs.text.simmerpath_utf8_char_at.Kinds as simmerpath_utf8_char_at
use Rattle.exports.proofs.text.simmerpath_utf8_char_at.Reads as simmerpath_utf8_char_at_reads
use Rattle.exports.proofs.text.simmerpath_utf8_encode.Kinds as simmerpath_utf8_encode
use Rattle.exports.proofs.text.simmerpath_utf8_encode.Reads as simmerpath_utf8_encode_reads

-- what computes at a text
reading : Unit {0}
unfolding admitted validity_of char_number begun_in char_at_code char_at_left character_at chars_past size_of char_length size_in fits code_of is_within
reading = tt

-- a text of so many letters
abbrev letters : ℕ → List ℕ
letters n = replicate n (code "a")

abbrev simmerpath_utf8_validate_gives : List ℕ → ℕ → Type 0
simmerpath_utf8_validate_gives xs v =
    Answers simmerpath_utf8_validate.ps simmerpath_utf8_validate.r simmerpath_utf8_validate_reads.Post (λ κs a. a.0.now ≡ xs) (λ κs. v)

simmerpath_utf8_validate_at : (xs : List ℕ) → simmerpath_utf8_validate_gives xs (validate_code (admitted text_limit xs))
simmerpath_utf8_validate_at xs κs a x e p h = cc (p, h)

pub four_bytes_are_not_too_long : simmerpath_utf8_validate_gives (ascii "abcd") 4
unfolding reading
four_bytes_are_not_too_long = simmerpath_utf8_validate_at _

pub prefix_ends_behind_a_character : simmerpath_utf8_validate_gives (0xc3 ∷ 0xa9 ∷ 0xff ∷ []) (packed_as 2 2 1)
unfolding reading
prefix_ends_behind_a_character = simmerpath_utf8_validate_at _

letters_refused : (n : ℕ) → text_limit < n → validate_code (admitted text_limit (letters n)) ≡ packed_as 1 0 0
letters_refused n h = ap validate_code ((given_exactly text_limit (letters n)).0.1 (omega (arith, length-replicate n (code "a"))))

pub byte_over_the_limit_is_too_long : simmerpath_utf8_validate_gives (letters 65536) (packed_as 1 0 0)
byte_over_the_limit_is_too_long κs a x e p h = simmerpath_utf8_validate_at _ κs a x e p h ∙ letters_refused 65536 (omega arith)

abbrev simmerpath_utf8_char_number_gives : List ℕ → ℕ → ℕ → Type 0
simmerpath_utf8_char_number_gives xs to v =
    Answers simmerpath_utf8_char_number.ps simmerpath_utf8_char_number.r simmerpath_utf8_char_number_reads.Post (λ κs a. (a.0.now ≡ xs) × (a.1.0 ≡ to)) (λ κs. v)

simmerpath_utf8_char_number_at : (xs : List ℕ) (to : ℕ) → simmerpath_utf8_char_number_gives xs to (char_number xs to)
simmerpath_utf8_char_number_at xs to κs a x e p h = cc (p, h.0, h.1)

pub characters_are_counted_to_the_offset : simmerpath_utf8_char_number_gives (ascii "ab") 1 1
unfolding reading
characters_are_counted_to_the_offset = simmerpath_utf8_char_number_at _ _

pub characters_are_counted_not_bytes : simmerpath_utf8_char_number_gives (0xc3 ∷ 0xa9 ∷ []) 2 1
unfolding reading
characters_are_counted_not_bytes = simmerpath_utf8_char_number_at _ _

abbrev simmerpath_utf8_char_at_gives : List ℕ → ℕ → ℕ → Type 0
simmerpath_utf8_char_at_gives xs at v =
    Answers simmerpath_utf8_char_at.ps simmerpath_utf8_char_at.r simmerpath_utf8_char_at_reads.Post (λ κs a. (a.0.now ≡ xs) × (a.1.0 ≡ at)) (λ κs. v)

simmerpath_utf8_char_at_at : (xs : List ℕ) (at : ℕ) → simmerpath_utf8_char_at_gives xs at (char_at_code xs at)
simmerpath_utf8_char_at_at xs at κs a x e p h = cc (p.0, h.0, h.1)

pub two_bytes_are_one_character : simmerpath_utf8_char_at_gives (0xc3 ∷ 0xa9 ∷ []) 0 2
unfolding reading
two_bytes_are_one_character = simmerpath_utf8_char_at_at _ _

pub no_character_begins_at_a_tail : simmerpath_utf8_char_at_gives (0xc3 ∷ 0xa9 ∷ []) 1 (packed_as 2 1 1)
unfolding reading
no_character_begins_at_a_tail = simmerpath_utf8_char_at_at _ _

letter_read : (xs : List ℕ) → length xs < text_limit → char_at_code (code "a" ∷ xs) 0 ≡ 1
unfolding reading
letter_read xs h = rw (le-ltb text_limit (length (code "a" ∷ xs)) (omega arith), lt-leb (length (code "a" ∷ xs)) 0 (omega arith))

pub limit_itself_is_not_too_long : simmerpath_utf8_char_at_gives (letters 65535) 0 1
limit_itself_is_not_too_long κs a x e p h =
    simmerpath_utf8_char_at_at _ _ κs a x e p h ∙ letter_read (letters 65534) (omega (arith, length-replicate 65534 (code "a")))

abbrev simmerpath_utf8_char_at_leaves_code : List ℕ → ℕ → ℕ → ℕ → Type 0
simmerpath_utf8_char_at_leaves_code xs at old v =
    Leaves simmerpath_utf8_char_at.ps simmerpath_utf8_char_at.r simmerpath_utf8_char_at_reads.Post (λ κs a. (a.0.now ≡ xs) × (a.1.0 ≡ at) × (a.1.1.0.now ≡ old)) (λ κs e. e.1.1.0.now) v

simmerpath_utf8_char_at_left_code : (xs : List ℕ) (at old : ℕ) → simmerpath_utf8_char_at_leaves_code xs at old (char_at_left xs at old)
simmerpath_utf8_char_at_left_code xs at old κs a x e p h = cc (p.1, h.0, h.1, h.2)

pub code_point_is_written : simmerpath_utf8_char_at_leaves_code (0xc3 ∷ 0xa9 ∷ []) 0 9 0xe9
unfolding reading
code_point_is_written = simmerpath_utf8_char_at_left_code _ _ _

pub no_character_leaves_the_code : simmerpath_utf8_char_at_leaves_code (0xc3 ∷ 0xa9 ∷ []) 1 9 9
unfolding reading
no_character_leaves_the_code = simmerpath_utf8_char_at_left_code _ _ _

abbrev simmerpath_utf8_encode_gives : ℕ → ℕ → ℕ → ℕ → Type 0
simmerpath_utf8_encode_gives c room at v =
    Answers simmerpath_utf8_encode.ps simmerpath_utf8_encode.r simmerpath_utf8_encode_reads.Post (λ κs a. (a.0 ≡ c) × (length a.1.0.now ≡ room) × (a.1.1.0 ≡ at)) (λ κs. v)

simmerpath_utf8_encode_at : (c room at : ℕ) → simmerpath_utf8_encode_gives c room at (counted_code (encoding_of c room at))
simmerpath_utf8_encode_at c room at κs a x e p h = cc (p.0, h.0, h.1, h.2)

pub code_point_fits_just_its_bytes : simmerpath_utf8_encode_gives 0xe9 3 1 2
unfolding encoding_of encoded is_scalar six_bits
code_point_fits_just_its_bytes = simmerpath_utf8_encode_at _ _ _

pub code_point_lacks_room_by_a_byte : simmerpath_utf8_encode_gives 0xe9 2 1 (packed_as 3 0 0)
unfolding encoding_of encoded is_scalar six_bits
code_point_lacks_room_by_a_byte = simmerpath_utf8_encode_at _ _ _

pub surrogate_is_refused : simmerpath_utf8_encode_gives 0xd800 4 0 (packed_as 40 0 0)
unfolding encoding_of encoded is_scalar six_bits
surrogate_is_refused = simmerpath_utf8_encode_at _ _ _

abbrev simmerpath_utf8_encode_leaves_out : ℕ → List ℕ → ℕ → List ℕ → Type 0
simmerpath_utf8_encode_leaves_out c out at v =
    Leaves simmerpath_utf8_encode.ps simmerpath_utf8_encode.r simmerpath_utf8_encode_reads.Post (λ κs a. (a.0 ≡ c) × (a.1.0.now ≡ out) × (a.1.1.0 ≡ at)) (λ κs e. e.1.0.now) v

simmerpath_utf8_encode_left_out : (c : ℕ) (out : List ℕ) (at : ℕ) → simmerpath_utf8_encode_leaves_out c out at (left_at at (encoding_of c (length out) at) (encoded c) out)
simmerpath_utf8_encode_left_out c out at κs a x e p h = cc (p.1, h.0, h.1, h.2)

pub bytes_go_where_they_were_to_go : simmerpath_utf8_encode_leaves_out (code "a") (ascii "...") 1 (ascii ".a.")
unfolding encoding_of encoded is_scalar
bytes_go_where_they_were_to_go = simmerpath_utf8_encode_left_out _ _ _

pub refused_code_leaves_the_buffer : simmerpath_utf8_encode_leaves_out 0xd800 (ascii "....") 0 (ascii "....")
unfolding encoding_of encoded is_scalar six_bits
refused_code_leaves_the_buffer = simmerpath_utf8_encode_left_out _ _ _
