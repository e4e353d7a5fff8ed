-- Document 01's rows 1, 2, 53, 60 and 61 as conditions on a number's text, and the statement that each answer is given exactly when its row
-- holds, in each reading; `proofs/Given` has the proof. Rows 1 and 2 are said of the text itself. Where separators stand is said of t, which is the
-- text without white space and in lower case. All else is said of u, which is t without its separators.
use Rattle.std.specs.Prelude.{◌≡◌, ℕ, ◌<◌, ◌≤◌, Bool, true, ◌⊎◌, ◌↔◌, List, [], ◌∷◌, length, Err, Ok}
use Prim.Native.Char.{code}
use Rattle.std.specs.Float.{nan, inf}
use Rattle.std.specs.Float.Ieee.{unlike}
use Rattle.scan.specs.declared.byte.Class.TheVariants.{Digit, HexDigit}
use Rattle.scan.specs.Byte.{peek_at, is_digit_in, is_in}
use Rattle.scan.specs.Separated.{without_separators}
use Rattle.scan.specs.laws.Separated.{EachPlaced}
use Rattle.scan.specs.Text.{Stands}
use Rattle.utf8.specs.declared.Reading.{Reading}
use Rattle.utf8.specs.Text.{prefix_end}
use Rattle.utf8.specs.declared.Refusal.{Refusal}
use Rattle.utf8.specs.Answers.{place_at, too_long, not_utf8}
use Rattle.utf8.specs.laws.Refusals.{TooLong, NotUtf8, Taken}
use Rattle.decimal.specs.declared.Number.{Number}
use Rattle.scan.specs.Sign.{past_sign, is_minus}
use Rattle.decimal.specs.Value.{outside_exact, radix_of, plain, decimal_limit, nearest_of}
use Rattle.decimal.specs.laws.Decimal.{Infinite, Nan, Numeric, Spelled, InExact, OutsideExact}
use Rattle.numeral.specs.Numeral.{between_digits, behind_prefix}
use Rattle.number.specs.White.{plain_text}
use Rattle.number.specs.Signed.{most_of}
use Rattle.number.specs.Integer.{unsigned_of, magnitude_of}
use Rattle.number.specs.Number.{not_number, outside_i64, behind_zero, notation_of, follows_mark, integer_number, behind_hex, parsing_of}

-- "a leading 0 after an optional sign
abbrev pub LeadsZero : List ℕ → Type 0
LeadsZero t = peek_at t (past_sign t 0) ≡ code "0"

-- with no `.`, 8 or 9, except `0`, `+0`, `-0`"
abbrev pub ZeroLed : List ℕ → Type 0
ZeroLed t =
    LeadsZero t
    × (¬ (Stands (code ".") t ⊎ (Stands (code "8") t ⊎ Stands (code "9") t)))
    × (¬ (behind_zero t ≡ length t))

-- "An `x`, or" that
abbrev pub Marked : List ℕ → Type 0
Marked t = Stands (code "x") t ⊎ ZeroLed t

-- "hex after `0x`, else octal after `0`. What follows may bear its own sign": digits of the notation, one at least
abbrev pub AllDigits : ℕ → List ℕ → Type 0
AllDigits radix [] = Unit {0}
AllDigits radix (c ∷ cs) = (is_digit_in radix c ≡ true) × AllDigits radix cs

abbrev pub Whole : List ℕ → Type 0
Whole t =
    let digits = unsigned_of (follows_mark t) in
    LeadsZero t × ((0 < length digits) × AllDigits (radix_of (notation_of t)) digits)

-- its magnitude, its own sign, and that sign behind the outer one
abbrev pub magnitude : List ℕ → ℕ
magnitude t = magnitude_of (notation_of t) (follows_mark t)

abbrev pub own : List ℕ → Bool
own t = is_minus (follows_mark t) 0

abbrev pub negative : List ℕ → Bool
negative t = unlike (own t) (is_minus t 0)

-- "Signed 64-bit before an outer minus", and behind it: "Negating the least integer is 61"
abbrev pub InI64 : List ℕ → Type 0
InI64 t = (magnitude t ≤ most_of (own t)) × (magnitude t ≤ most_of (negative t))

-- 60 "not a number text"
abbrev pub NotNumber : List ℕ → Type 0
NotNumber t = (Marked t × (¬ (Whole t))) ⊎ ((¬ (Marked t)) × (¬ (Spelled t)))

-- 61 "hex or octal outside a signed 64-bit integer"
abbrev pub OutsideI64 : List ℕ → Type 0
OutsideI64 t = Marked t × Whole t × (¬ (InI64 t))

-- an integer's number, and a decimal's: infinity or NaN by name, or the nearest f64
abbrev pub IntegerIs : List ℕ → Number → Type 0
IntegerIs t n = Marked t × Whole t × InI64 t × (n ≡ integer_number (notation_of t) (negative t) (magnitude t))

abbrev pub DecimalIs : List ℕ → Number → Type 0
DecimalIs t n =
    (¬ (Marked t))
    × ((Infinite t × (n ≡ plain (inf (is_minus t 0))))
    ⊎ ((Nan t × (n ≡ plain nan))
    ⊎ (Numeric t × InExact t × (n ≡ nearest_of t))))

-- L2: "one underscore may stand between two digits of the same part, or between a hex prefix and its first digit". A hex text has `0x` at its front,
-- behind a sign or none
abbrev pub HexText : List ℕ → Type 0
HexText t = LeadsZero t × (peek_at t (behind_zero t) ≡ code "x")

-- in a hex text each separator behind `0x` must stand so among hex digits, and in any other text each one among decimal digits; in the crate reading
-- none may stand anywhere
abbrev pub SeparatorsPlaced : Reading → List ℕ → Type 0
SeparatorsPlaced r t =
    (HexText t → EachPlaced (is_in HexDigit) (behind_prefix r) (behind_hex t))
    × ((¬ (HexText t)) → EachPlaced (is_in Digit) (between_digits r) t)

-- "Order: 1, 2, the reading"; "60 and 52 are judged on the whole text, before 61 and 53"
abbrev pub ParsingGiven : Type 0
ParsingGiven =
    (r : Reading) (xs : List ℕ) →
    let p = parsing_of r xs in
    let t = plain_text xs in
    let u = without_separators t in
    (p ≡ Err too_long ↔ TooLong decimal_limit xs)
    × (p ≡ Err (not_utf8 (place_at xs (prefix_end xs))) ↔ (¬ (TooLong decimal_limit xs)) × NotUtf8 xs)
    × (p ≡ Err not_number ↔ Taken decimal_limit xs × ((¬ (SeparatorsPlaced r t)) ⊎ NotNumber u))
    × (p ≡ Err outside_i64 ↔ Taken decimal_limit xs × SeparatorsPlaced r t × OutsideI64 u)
    × (p ≡ Err outside_exact ↔ Taken decimal_limit xs × SeparatorsPlaced r t × (¬ (Marked u)) × OutsideExact u)
    × ((n : Number) → p ≡ Ok n ↔ Taken decimal_limit xs × SeparatorsPlaced r t × (IntegerIs u n ⊎ DecimalIs u n))

-- how far refusals reach: none has a greater number, and no place lies beyond the longest text
abbrev pub ParsingBound : Type 0
ParsingBound =
    (r : Reading) (xs : List ℕ) (e : Refusal) → parsing_of r xs ≡ Err e →
    (e.number ≤ outside_i64.number) × (e.place.byte.0 ≤ decimal_limit) × (e.place.character.0 ≤ decimal_limit)
