-- The answer that each promise leaves at a telling input: a program that answers otherwise there, as the theorem's name says, cannot be
-- proved. A theorem of `unquote_char` computes with the definitions that `unquote_char_at` unfolds.
use Prim.Native.Nat.{ℕ}
use Prim.Native.Char.{code}
use mathlib.Core.Bool.{Bool, true, false}
use mathlib.Core.List.{List, [], ◌∷◌}
use Rattle.std.specs.Prelude.{None, Option, Some}
use mathlib.Core.Path.{◌≡◌, ap, ap₂, ◌∙◌}
use Rattle.scan.specs.Ascii.{ascii}
use Rattle.scan.specs.Byte.{is_within, is_hex_digit, digit_of, is_digit_in}
use Rattle.proving.proofs.One.{Answers}
use Rattle.utf8.specs.Table.{fits, size_in, char_length}
use Rattle.utf8.specs.Code.{is_scalar, code_of}
use Rattle.utf8.specs.Answers.{character_at}
use Rattle.string.specs.declared.tile.Form.{Form}
use Rattle.string.specs.declared.tile.Form.TheVariants.{Plain, Letter, Hex, Octal, Point}
use Rattle.string.specs.Letters.{looked_up, letter_value}
use Rattle.string.specs.Tile.{amount_from, is_byte, is_allowed, numbered, escape_of, begins_escape, tile_of, piece}
use Rattle.string.proofs.tile.letter_value.Kinds as letter_value_kinds
use Rattle.string.proofs.tile.letter_value.Reads as letter_value_reads
use Rattle.string.proofs.tile.is_byte.Kinds as is_byte_lem
use Rattle.string.proofs.tile.is_byte.Reads as is_byte_reads
use Rattle.string.proofs.tile.unquote_char.Kinds as unquote_char
use Rattle.string.proofs.tile.unquote_char.Reads as unquote_char_reads
use Rattle.string.specs.declared.tile.Piece.{Piece}

-- of the literal's quote sign, and a byte behind a backslash
abbrev letter_value_gives : ℕ → ℕ → Option ℕ → Type 0
letter_value_gives q c v = Answers letter_value_kinds.ps letter_value_kinds.r letter_value_reads.Post (λ κs a. (a.0 ≡ q) × (a.1.0 ≡ c)) (λ κs. v)

letter_value_at : (q c : ℕ) → letter_value_gives q c (letter_value q c)
unfolding letter_value looked_up
letter_value_at q c κs a x e p h = p ∙ ap₂ letter_value h.0 h.1

pub letter_n_is_a_newline : letter_value_gives (code "'") (code "n") (Some 10)
unfolding letter_value_at
letter_n_is_a_newline = letter_value_at _ _

pub sign_of_another_literal_is_no_letter : letter_value_gives (code "'") (code "\"") None
unfolding letter_value_at
sign_of_another_literal_is_no_letter = letter_value_at _ _

abbrev is_byte_gives : Form → Bool → Type 0
is_byte_gives f v = Answers is_byte_lem.ps is_byte_lem.r is_byte_reads.Post (λ κs a. a.0 ≡ f) (λ κs. v)

is_byte_at : (f : Form) → is_byte_gives f (is_byte f)
is_byte_at f κs a x e p h = p ∙ ap is_byte h

pub octal_escape_is_a_byte : is_byte_gives Octal true
octal_escape_is_a_byte = is_byte_at _

pub escape_by_u_is_no_byte : is_byte_gives Point false
escape_by_u_is_no_byte = is_byte_at _

-- of what is left of a content, and the literal's quote sign
abbrev unquote_char_gives : List ℕ → ℕ → Option Piece → Type 0
unquote_char_gives xs q v = Answers unquote_char.ps unquote_char.r unquote_char_reads.Post (λ κs a. (a.0.now ≡ xs) × (a.1.0 ≡ q)) (λ κs. v)

unquote_char_at : (xs : List ℕ) (q : ℕ) → unquote_char_gives xs q (tile_of q xs)
unfolding tile_of begins_escape escape_of letter_value looked_up numbered amount_from is_allowed is_digit_in is_hex_digit digit_of is_within is_scalar character_at char_length size_in fits code_of
unquote_char_at xs q κs a x e p h = p ∙ ap₂ tile_of h.1 h.0

pub bare_closing_sign_is_bad : unquote_char_gives (ascii "'") (code "'") None
unfolding unquote_char_at
bare_closing_sign_is_bad = unquote_char_at _ _

pub bare_sign_of_another_literal_is_taken : unquote_char_gives (ascii "\"") (code "'") (piece Plain (code "\"") 1)
unfolding unquote_char_at
bare_sign_of_another_literal_is_taken = unquote_char_at _ _

pub backslash_between_backquotes_is_a_character : unquote_char_gives (ascii "\\n") (code "`") (piece Plain (code "\\") 1)
unfolding unquote_char_at
backslash_between_backquotes_is_a_character = unquote_char_at _ _

pub escape_by_n_is_a_newline : unquote_char_gives (ascii "\\n") (code "'") (piece Letter 10 2)
unfolding unquote_char_at
escape_by_n_is_a_newline = unquote_char_at _ _

pub escaped_sign_is_taken : unquote_char_gives (ascii "\\'") (code "'") (piece Letter (code "'") 2)
unfolding unquote_char_at
escaped_sign_is_taken = unquote_char_at _ _

pub escaped_sign_of_another_literal_is_bad : unquote_char_gives (ascii "\\\"") (code "'") None
unfolding unquote_char_at
escaped_sign_of_another_literal_is_bad = unquote_char_at _ _

pub escape_by_x_has_two_digits : unquote_char_gives (ascii "\\x4f") (code "'") (piece Hex 0x4f 4)
unfolding unquote_char_at
escape_by_x_has_two_digits = unquote_char_at _ _

pub escape_by_u_has_four_digits : unquote_char_gives (ascii "\\u00e9f") (code "'") (piece Point 0xe9 6)
unfolding unquote_char_at
escape_by_u_has_four_digits = unquote_char_at _ _

pub escape_by_capital_u_has_eight_digits : unquote_char_gives (ascii "\\U0001f600f") (code "'") (piece Point 0x1f600 10)
unfolding unquote_char_at
escape_by_capital_u_has_eight_digits = unquote_char_at _ _

pub octal_255_is_taken : unquote_char_gives (ascii "\\377") (code "'") (piece Octal 255 4)
unfolding unquote_char_at
octal_255_is_taken = unquote_char_at _ _

pub octal_256_is_bad : unquote_char_gives (ascii "\\400") (code "'") None
unfolding unquote_char_at
octal_256_is_bad = unquote_char_at _ _

pub surrogate_is_bad : unquote_char_gives (ascii "\\ud800") (code "'") None
unfolding unquote_char_at
surrogate_is_bad = unquote_char_at _ _

pub past_10ffff_is_bad : unquote_char_gives (ascii "\\U00110000") (code "'") None
unfolding unquote_char_at
past_10ffff_is_bad = unquote_char_at _ _

pub character_of_two_bytes_is_one_tile : unquote_char_gives (0xc3 ∷ 0xa9 ∷ []) (code "'") (piece Plain 0xe9 2)
unfolding unquote_char_at
character_of_two_bytes_is_one_tile = unquote_char_at _ _
