-- What the C functions over `utf8` answer, and what they leave in what was lent, by cases over its answers.
use Rattle.utf8.specs.declared.Refusal.{Refusal}
use Rattle.utf8.specs.declared.CharNumber.{CharNumber}
use Rattle.std.specs.Prelude.{ℕ, cond, List, ltb, length, Err, Ok, Result}
use Rattle.utf8.specs.declared.Character.{Character}
use Rattle.utf8.specs.declared.Character.TheVariants.{Scalar, Nothing, IllFormed}
use Rattle.utf8.specs.Answers.{place_at, text_limit, too_long, not_utf8, character_at}
use Rattle.exports.specs.Packed.{packed_of}

-- the number of characters, or the refusal
abbrev pub validate_code : Result CharNumber Refusal → ℕ
validate_code (Ok n) = n.0
validate_code (Err r) = packed_of r

-- the length of the character at an offset, 0 for nothing more, or refusal 2 at the offset
abbrev pub character_code : List ℕ → ℕ → Character → ℕ
character_code xs at (Scalar c n) = n
character_code xs at Nothing = 0
character_code xs at IllFormed = packed_of (not_utf8 (place_at xs at))

-- but of a text that is too long refusal 1
unfoldable pub char_at_code : List ℕ → ℕ → ℕ
char_at_code xs at =
    cond (ltb text_limit (length xs)) (packed_of too_long) (character_code xs at (character_at xs at))

-- the code point of a character, or what was there before
abbrev pub code_or : ℕ → Character → ℕ
code_or old (Scalar c n) = c
code_or old Nothing = old
code_or old IllFormed = old

-- what `code` holds then: of a text that is too long, what it held
unfoldable pub char_at_left : List ℕ → ℕ → ℕ → ℕ
char_at_left xs at old = cond (ltb text_limit (length xs)) old (code_or old (character_at xs at))
