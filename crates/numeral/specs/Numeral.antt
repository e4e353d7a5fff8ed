-- The number or duration at the front of bytes that begin with a digit, or with a point and a digit. Document 01, "Lexing rules", its rule
-- "Number", and document 02, L2; "digits" there means none or more, but for those in a duration's repeats, which are one or more.
use Rattle.std.specs.Prelude.{ℕ, ◌+◌, Bool, cond, ◌&&◌, ◌||◌, not, List, [], ◌∷◌, eqb, take, drop}
use Prim.Native.Char.{code}
use Rattle.scan.specs.declared.byte.Class.{Class}
use Rattle.scan.specs.declared.byte.Class.TheVariants.{Digit, HexDigit}
use Rattle.scan.specs.Byte.{end, peek_at, lowered, is_alpha, is_digit, is_in}
use Rattle.scan.specs.declared.separated.Separators.{Separators}
use Rattle.scan.specs.declared.separated.Separators.TheVariants.{Never, Between, Before}
use Rattle.scan.specs.Separated.{separator, separated_end}
use Rattle.scan.specs.Text.{has}
use Rattle.utf8.specs.declared.Reading.{Reading}
use Rattle.utf8.specs.declared.Reading.TheVariants.{Crate, Documented}
use Rattle.scan.specs.Sign.{past_sign}
use Rattle.numeral.specs.declared.Part.{Part}
use Rattle.numeral.specs.declared.Part.TheVariants.{Unit, UnitS, Digits}
use Rattle.numeral.specs.declared.Turn.{Turn}
use Rattle.numeral.specs.declared.Turn.TheVariants.{On, Ends, Fails}
use Rattle.numeral.specs.declared.Numeral.{Numeral}
use Rattle.numeral.specs.declared.Numeral.TheVariants.{Number, Duration, Neither}

-- L2: "The crate reading still refuses all this"; "one underscore may stand between two digits of the same part, ..
abbrev pub between_digits : Reading → Separators
between_digits Crate = Never
between_digits Documented = Between

-- .. or between a hex prefix and its first digit"
abbrev pub behind_prefix : Reading → Separators
behind_prefix Crate = Never
behind_prefix Documented = Before

-- "optional `0x` or `0X` ..", also with no digit behind it
unfoldable pub is_hex : List ℕ → Bool
is_hex xs = eqb (peek_at xs 0) (code "0") && (eqb (peek_at xs 1) (code "x") || eqb (peek_at xs 1) (code "X"))

-- ".. (then hex digits, else decimal), digits, optional `.` and digits, .."
unfoldable pub fraction_end : Reading → Class → List ℕ → ℕ → ℕ
fraction_end r k xs at = cond (eqb (peek_at xs at) (code ".")) (separated_end (is_in k) (between_digits r) xs (at + 1)) at

abbrev pub mantissa_end : Reading → Class → Separators → List ℕ → ℕ → ℕ
mantissa_end r k q xs from = fraction_end r k xs (separated_end (is_in k) q xs from)

-- ".. optional e or E with optional sign and decimal digits."
unfoldable pub exponent_end : Reading → List ℕ → ℕ → ℕ
exponent_end r xs at =
    cond (eqb (lowered (peek_at xs at)) (code "e")) (separated_end (is_in Digit) (between_digits r) xs (past_sign xs (at + 1))) at

-- of a hex number no e is left to begin an exponent, since it is a hex digit: `0x1e+5` is three lexemes
unfoldable pub number_end : Reading → List ℕ → ℕ
number_end r xs =
    exponent_end r xs (cond (is_hex xs) (mantissa_end r HexDigit (behind_prefix r) xs 2) (mantissa_end r Digit (between_digits r) xs 0))

-- "one of `smhdw`"
unfoldable pub is_unit : ℕ → Bool
is_unit c = eqb c (code "s") || (eqb c (code "m") || (eqb c (code "h") || (eqb c (code "d") || eqb c (code "w"))))

-- "one of `smhdwy`"
abbrev pub is_first_unit : ℕ → Bool
is_first_unit c = eqb c (code "y") || is_unit c

-- "then an optional s, then any repeats of (digits, one of `smhdw`, optional s), and no letter or digit follows": what a byte, or the end, does
-- behind a unit, behind a unit and its s, and behind digits
unfoldable pub stop_of : Part → ℕ → Turn
stop_of Unit c = cond (eqb c (code "s")) (On UnitS) (cond (is_alpha c) Fails Ends)
stop_of UnitS c = cond (is_alpha c) Fails Ends
stop_of Digits c = cond (is_unit c) (On Unit) Fails

-- a digit always begins a repeat or goes on with it, so that `1ms5` fails at the end
unfoldable pub turn_of : Part → ℕ → Turn
turn_of p c = cond (is_digit c) (On Digits) (stop_of p c)

-- by what a byte does: the duration ends before it, the scan stops there, or the rest decides; behind what part, which is of no account where the
-- duration does not go on
abbrev pub turned : Turn → ℕ → Numeral → Numeral
turned (On p) n rest = rest
turned Ends n rest = Duration n
turned Fails n rest = Neither n

abbrev pub part_behind : Turn → Part
part_behind (On p) = p
part_behind Ends = Unit
part_behind Fails = Unit

-- the bytes of a duration that was read through to a part, n bytes before them
unfoldable pub duration_from : Part → ℕ → List ℕ → Numeral
duration_from p n [] = turned (turn_of p end) n (Neither n)
duration_from p n (x ∷ xs) = let t = turn_of p x in turned t n (duration_from (part_behind t) (n + 1) xs)

-- how many bytes are taken
abbrev pub taken : Numeral → ℕ
taken (Number n) = n
taken (Duration n) = n
taken (Neither n) = n

-- "It is a NUMBER if no letter or `.` follows. Else, from there, it is a DURATION if one of `smhdwy` follows, then .."; L2: "A number with a
-- separator can't begin a duration", "20 at the first underscore not so placed, or at a unit after such a number"
unfoldable pub numeral_of : Reading → List ℕ → Numeral
numeral_of r xs =
    let n = number_end r xs in
    let c = peek_at xs n in
    cond (eqb c (code ".")) (Neither n)
    (cond (is_alpha c) (cond (is_first_unit c && not (has separator (take n xs))) (duration_from Unit (n + 1) (drop (n + 1) xs)) (Neither n))
    (Number n))
