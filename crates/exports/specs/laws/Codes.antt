-- What a caller in C may rely on to read an answer, as statements; `proofs/MODULE/Laws` has their proofs. Told: a refusal is told from a
-- result. Kept: what is refused fits its bits, so that packing loses nothing of it (`NothingLost`).
use Rattle.std.specs.Prelude.{ℕ, ◌≤◌, ◌<◌, Bool, true, false, ◌&&◌, ◌||◌, not, List, ◌≡◌, leb, ltb, length, Err, Ok, Result, is_err}
use Rattle.utf8.specs.declared.Reading.{Reading}
use Rattle.utf8.specs.declared.Refusal.{Refusal}
use Rattle.utf8.specs.declared.Character.{Character}
use Rattle.utf8.specs.declared.Character.TheVariants as character
use Rattle.utf8.specs.Answers.{place_at, text_limit, too_long, no_room, not_utf8, admitted, character_at}
use Rattle.utf8.specs.Encode.{not_scalar, encoding_of}
use Rattle.token.specs.Display.{displayed}
use Rattle.string.specs.Escape.{escaping_of}
use Rattle.string.specs.declared.Unquoted.{Unquoted}
use Rattle.string.specs.declared.Unquoted.TheVariants.{Inner, Written}
use Rattle.string.specs.Literal.{unquoting_of}
use Rattle.number.specs.Number.{parsing_of}
use Rattle.duration.specs.declared.span.Duration.{Duration}
use Rattle.duration.specs.declared.Oversized.{Oversized}
use Rattle.duration.specs.Duration.{timing_by}
use Rattle.duration.specs.Display.{displaying_of}
use Rattle.lex.specs.Lex.{lexed}
use Rattle.reason.specs.Reason.{reasoned}
use Rattle.exports.specs.Packed.{refused_from, packed_of, Packable, counted_code}
use Rattle.exports.specs.Utf8.{validate_code, char_at_code}
use Rattle.exports.specs.String.{inner_from, unquote_code}
use Rattle.exports.specs.Number.{parse_code}
use Rattle.exports.specs.Duration.{duration_code}

-- packing loses nothing: refusals that fit their bits and are packed alike are one
abbrev pub NothingLost : Type 0
NothingLost = (r s : Refusal) → Packable r → Packable s → packed_of r ≡ packed_of s → r ≡ s

-- a caller takes an answer for a refusal where it has bit 63, which every packed refusal has
abbrev pub looks_refused : ℕ → Bool
looks_refused code = leb refused_from code

abbrev pub PackedTold : Type 0
PackedTold = (r : Refusal) → looks_refused (packed_of r) ≡ true

-- of `simmerpath_utf8_validate`
abbrev pub ValidateTold : Type 0
ValidateTold = (xs : List ℕ) → let a = admitted text_limit xs in looks_refused (validate_code a) ≡ is_err a

abbrev pub ValidateKept : Type 0
ValidateKept = (xs : List ℕ) (r : Refusal) → admitted text_limit xs ≡ Err r → Packable r

-- of `simmerpath_utf8_char_at`, which refuses a text that is too long, and an offset of any other where no character begins
abbrev pub is_ill_formed : Character → Bool
is_ill_formed (character.Scalar c n) = false
is_ill_formed character.Nothing = false
is_ill_formed character.IllFormed = true

abbrev pub CharAtTold : Type 0
CharAtTold =
    (xs : List ℕ) (at : ℕ) → looks_refused (char_at_code xs at) ≡ ltb text_limit (length xs) || is_ill_formed (character_at xs at)

abbrev pub CharAtKept : Type 0
CharAtKept =
    Packable too_long
    × ((xs : List ℕ) (at : ℕ) → length xs ≤ text_limit → character_at xs at ≡ character.IllFormed → Packable (not_utf8 (place_at xs at)))

-- of `simmerpath_utf8_encode`
abbrev pub EncodeTold : Type 0
EncodeTold = (c room at : ℕ) → let e = encoding_of c room at in looks_refused (counted_code e) ≡ is_err e

abbrev pub EncodeKept : Type 0
EncodeKept = Packable not_scalar × Packable no_room

-- of `simmerpath_token_display`
abbrev pub TokenDisplayTold : Type 0
TokenDisplayTold = (room k : ℕ) → let d = displayed room k in looks_refused (counted_code d) ≡ is_err d

abbrev pub TokenDisplayKept : Type 0
TokenDisplayKept = Packable no_room

-- of `simmerpath_escape_string`
abbrev pub EscapeTold : Type 0
EscapeTold = (room : ℕ) (xs : List ℕ) → let e = escaping_of room xs in looks_refused (counted_code e) ≡ is_err e

abbrev pub EscapeKept : Type 0
EscapeKept = (room : ℕ) (xs : List ℕ) (r : Refusal) → escaping_of room xs ≡ Err r → Packable r

-- of `simmerpath_unquote_string`, where a caller takes another answer for a text in the literal itself from bit 32 on
abbrev pub is_inner : Result Unquoted Refusal → Bool
is_inner (Ok (Inner n)) = true
is_inner (Ok (Written n)) = false
is_inner (Err r) = false

abbrev pub UnquoteTold : Type 0
UnquoteTold =
    (r : Reading) (room : ℕ) (xs : List ℕ) →
    let u = unquoting_of r room xs in
    let code = unquote_code u in
    (looks_refused code ≡ is_err u) × (not (looks_refused code) && leb inner_from code ≡ is_inner u)

abbrev pub UnquoteKept : Type 0
UnquoteKept = (r : Reading) (room : ℕ) (xs : List ℕ) (s : Refusal) → unquoting_of r room xs ≡ Err s → Packable s

-- of `simmerpath_parse_str_radix`
abbrev pub ParseTold : Type 0
ParseTold = (d : Reading) (xs : List ℕ) → let p = parsing_of d xs in looks_refused (parse_code p) ≡ is_err p

abbrev pub ParseKept : Type 0
ParseKept = (d : Reading) (xs : List ℕ) (r : Refusal) → parsing_of d xs ≡ Err r → Packable r

-- of `simmerpath_parse_duration` and `simmerpath_parse_duration_exact`
abbrev pub DurationTold : Type 0
DurationTold = (o : Oversized) (xs : List ℕ) → let t = timing_by o xs in looks_refused (duration_code t) ≡ is_err t

abbrev pub DurationKept : Type 0
DurationKept = (o : Oversized) (xs : List ℕ) (r : Refusal) → timing_by o xs ≡ Err r → Packable r

-- of `simmerpath_display_duration`, told in a buffer of less than 2^63 bytes
abbrev pub DurationDisplayTold : Type 0
DurationDisplayTold =
    (room : ℕ) (d : Duration) → room < refused_from →
    let e = displaying_of room d in looks_refused (counted_code e) ≡ is_err e

abbrev pub DurationDisplayKept : Type 0
DurationDisplayKept = (room : ℕ) (d : Duration) (r : Refusal) → displaying_of room d ≡ Err r → Packable r

-- of `simmerpath_lexer`
abbrev pub LexerTold : Type 0
LexerTold = (r : Reading) (room : ℕ) (q : List ℕ) → let x = lexed r room q in looks_refused (counted_code x) ≡ is_err x

abbrev pub LexerKept : Type 0
LexerKept = (r : Reading) (room : ℕ) (q : List ℕ) (refusal : Refusal) → lexed r room q ≡ Err refusal → Packable refusal

-- of `simmerpath_word_reason`
abbrev pub ReasonTold : Type 0
ReasonTold = (r : Reading) (number : ℕ) (q : List ℕ) → let x = reasoned r number q in looks_refused (counted_code x) ≡ is_err x

abbrev pub ReasonKept : Type 0
ReasonKept = (r : Reading) (number : ℕ) (q : List ℕ) (refusal : Refusal) → reasoned r number q ≡ Err refusal → Packable refusal
