-- The answer and the content of the buffer that each promise leaves at a telling input: a program that does otherwise there, as the
-- theorem's name says, cannot be proved. A theorem of `encode` computes with the definitions that `encode_at` unfolds.
use Prim.Native.Nat.{ℕ}
use Prim.Native.Char.{code}
use mathlib.Core.Bool.{Bool, true, false}
use mathlib.Core.List.{List, [], ◌∷◌}
use mathlib.Core.Path.{◌≡◌, ap, ◌∙◌}
use lib.ListN.{length}
use Rattle.utf8.specs.declared.Refusal.{Refusal}
use Rattle.std.specs.Prelude.{Err, Ok, Result}
use Rattle.scan.specs.Ascii.{ascii}
use Rattle.proving.proofs.One.{Answers, Leaves}
use Rattle.utf8.specs.Code.{is_scalar, six_bits, encoded}
use Rattle.utf8.specs.Answers.{at_start}
use Rattle.utf8.specs.Encode.{encoding_of}
use Rattle.utf8.specs.Writing.{left_at}
use Rattle.utf8.proofs.encode.is_scalar.Kinds as is_scalar_kinds
use Rattle.utf8.proofs.encode.is_scalar.Reads as is_scalar_reads
use Rattle.utf8.proofs.encode.encoded_size.Kinds as encoded_size
use Rattle.utf8.proofs.encode.encoded_size.Reads as encoded_size_reads
use Rattle.utf8.proofs.encode.encode.Kinds as encode
use Rattle.utf8.proofs.encode.encode.Reads as encode_reads

abbrev is_scalar_gives : ℕ → Bool → Type 0
is_scalar_gives c v = Answers is_scalar_kinds.ps is_scalar_kinds.r is_scalar_reads.Post (λ κs a. a.0 ≡ c) (λ κs. v)

is_scalar_at : (c : ℕ) → is_scalar_gives c (is_scalar c)
is_scalar_at c κs a x e p h = p ∙ ap is_scalar h

pub surrogate_is_no_character : is_scalar_gives 0xdbff false
unfolding is_scalar
surrogate_is_no_character = is_scalar_at _

pub past_10ffff_is_no_character : is_scalar_gives 0x110000 false
unfolding is_scalar
past_10ffff_is_no_character = is_scalar_at _

pub first_past_the_surrogates_is_a_character : is_scalar_gives 0xe000 true
unfolding is_scalar
first_past_the_surrogates_is_a_character = is_scalar_at _

abbrev encoded_size_gives : ℕ → ℕ → Type 0
encoded_size_gives c v = Answers encoded_size.ps encoded_size.r encoded_size_reads.Post (λ κs a. a.0 ≡ c) (λ κs. v)

encoded_size_at : (c : ℕ) → encoded_size_gives c (length (encoded c))
encoded_size_at c κs a x e p h = p ∙ ap (λ (d : ℕ). length (encoded d)) h

pub ffff_has_three_bytes : encoded_size_gives 0xffff 3
unfolding encoded
ffff_has_three_bytes = encoded_size_at _

pub first_past_ffff_has_four_bytes : encoded_size_gives 0x10000 4
unfolding encoded
first_past_ffff_has_four_bytes = encoded_size_at _

-- of a code point, with a buffer of so many bytes, at an offset
abbrev encode_gives : ℕ → ℕ → ℕ → Result ℕ Refusal → Type 0
encode_gives c room at v =
    Answers encode.ps encode.r encode_reads.Post (λ κs a. (a.0 ≡ c) × (length a.1.0.now ≡ room) × (a.1.1.0.0 ≡ at)) (λ κs. v)

encode_at : (c room at : ℕ) → encode_gives c room at (encoding_of c room at)
unfolding encoding_of is_scalar encoded six_bits
encode_at c room at κs a x e p h = cc (p.0, h.0, h.1, h.2)

pub surrogate_is_not_written : encode_gives 0xdbff 3 0 (Err (at_start 40))
unfolding encode_at
surrogate_is_not_written = encode_at _ _ _

pub room_of_just_the_length_is_enough : encode_gives 0xe9 3 1 (Ok 2)
unfolding encode_at
room_of_just_the_length_is_enough = encode_at _ _ _

pub bytes_before_the_offset_are_no_room : encode_gives 0xe9 3 2 (Err (at_start 3))
unfolding encode_at
bytes_before_the_offset_are_no_room = encode_at _ _ _

-- of a buffer with a content
abbrev encode_leaves_out : ℕ → List ℕ → ℕ → List ℕ → Type 0
encode_leaves_out c d at v =
    Leaves encode.ps encode.r encode_reads.Post (λ κs a. (a.0 ≡ c) × (a.1.0.now ≡ d) × (a.1.1.0.0 ≡ at)) (λ κs e. e.1.0.now) v

encode_left_out : (c : ℕ) (d : List ℕ) (at : ℕ) → encode_leaves_out c d at (left_at at (encoding_of c (length d) at) (encoded c) d)
encode_left_out c d at κs a x e p h = cc (p.0, p.1, h.0, h.1, h.2)

pub each_code_point_has_its_own_byte : encode_leaves_out (code "b") (ascii "xyz") 0 (ascii "byz")
unfolding encode_at
each_code_point_has_its_own_byte = encode_left_out _ _ _

pub bytes_around_stay : encode_leaves_out 0xe9 (ascii "wxyz") 1 (code "w" ∷ 0xc3 ∷ 0xa9 ∷ code "z" ∷ [])
unfolding encode_at
bytes_around_stay = encode_left_out _ _ _

pub buffer_without_room_stays : encode_leaves_out 0xe9 (ascii "xyz") 2 (ascii "xyz")
unfolding encode_at
buffer_without_room_stays = encode_left_out _ _ _
