-- What the functions answer, and document 01's refusals 1 and 2, in that order.
use Rattle.std.specs.Prelude.{ℕ, cond, List, leb, ltb, eqb, length, drop, Err, Ok, Result}
use Rattle.utf8.specs.declared.CharNumber.{CharNumber}
use Rattle.utf8.specs.declared.Place.{Place}
use Rattle.utf8.specs.declared.Refusal.{Refusal}
use Rattle.utf8.specs.declared.Character.{Character}
use Rattle.utf8.specs.declared.Character.TheVariants.{Scalar, Nothing, IllFormed}
use Rattle.utf8.specs.Table.{char_length}
use Rattle.utf8.specs.Code.{code_of}
use Rattle.utf8.specs.Text.{chars_of, prefix_end, is_well_formed, start_of, char_number}

-- so many characters
abbrev pub count : ℕ → CharNumber
count n = record { 0 = n }

abbrev pub place : ℕ → ℕ → Place
place b n = record { byte = record { 0 = b }; character = count n }

-- the place of an offset of a text: the offset, and how many characters begin before it
abbrev pub place_at : List ℕ → ℕ → Place
place_at xs at = place at (char_number xs at)

-- the place of the first character that does not begin before an offset, or of the end of the longest well-formed prefix
abbrev pub next_start : List ℕ → ℕ → Place
next_start xs to = place (start_of xs (char_number xs to)) (char_number xs to)

-- the number of characters, or the end of the longest well-formed prefix
unfoldable pub validity_of : List ℕ → Result CharNumber Place
validity_of xs = cond (is_well_formed xs) (Ok (count (length (chars_of xs)))) (Err (place_at xs (prefix_end xs)))

-- "query, literal and text 65,535 bytes"
abbrev pub text_limit : ℕ
text_limit = 65535

-- a refusal without a place: "none is 0, 0"
abbrev pub at_start : ℕ → Refusal
at_start n = record { number = n; place = place 0 0 }

-- a refusal "returns number and place only": one at an offset of a text
abbrev pub refused_at : List ℕ → ℕ → ℕ → Refusal
refused_at xs n at = record { number = n; place = place_at xs at }

-- 1 "too long" and 3 "result needs more room", at 0, 0; 2 "not UTF-8", at the "end of the longest well-formed prefix"
abbrev pub too_long : Refusal
too_long = at_start 1

abbrev pub no_room : Refusal
no_room = at_start 3

abbrev pub not_utf8 : Place → Refusal
not_utf8 p = record { number = 2; place = p }

-- the number 0 is no refusal's
abbrev pub no_refusal : Refusal
no_refusal = at_start 0

abbrev pub admitted_as : Result CharNumber Place → Result CharNumber Refusal
admitted_as (Ok n) = Ok n
admitted_as (Err p) = Err (not_utf8 p)

unfoldable pub admitted : ℕ → List ℕ → Result CharNumber Refusal
admitted limit xs = cond (ltb limit (length xs)) (Err too_long) (admitted_as (validity_of xs))

-- why a call has no answer
abbrev pub refusal_of : {T : Type 0} → Result T Refusal → Refusal
refusal_of (Ok x) = no_refusal
refusal_of (Err r) = r

-- the character that a list begins with, and the one that the bytes from an offset on begin with
abbrev pub character_of : List ℕ → Character
character_of xs = let n = char_length xs in cond (eqb n 0) IllFormed (Scalar (code_of n xs) n)

unfoldable pub character_at : List ℕ → ℕ → Character
character_at xs at = cond (leb (length xs) at) Nothing (character_of (drop at xs))
