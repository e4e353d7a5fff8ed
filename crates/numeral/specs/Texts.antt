-- What a number text is, and a duration's, as sets of texts: document 01, "Lexing rules", its rule "Number", and document 02, L2. Nothing here
-- scans; `laws/Texts` says that reading finds these.
use Rattle.std.specs.Prelude.{ℕ, ◌<◌, Bool, true, false, List, [], ◌++◌, ◌⊎◌, ◌≡◌, eqb, length}
use Prim.Native.Char.{code}
use Prim.Native.String.{String}
use Rattle.scan.specs.declared.byte.Class.{Class}
use Rattle.scan.specs.declared.byte.Class.TheVariants.{Digit, HexDigit}
use Rattle.scan.specs.declared.separated.Separators.{Separators}
use Rattle.scan.specs.declared.separated.Separators.TheVariants.{Never}
use Rattle.scan.specs.Ascii.{ascii}
use Rattle.scan.specs.Byte.{peek_at, lowered, is_digit, is_in}
use Rattle.scan.specs.Language.{Empty, One, Then, Optional}
use Rattle.scan.specs.Separated.{separator}
use Rattle.scan.specs.Sign.{is_sign}
use Rattle.scan.specs.Text.{has}
use Rattle.scan.specs.laws.Separated.{SeparatedDigits}
use Rattle.utf8.specs.declared.Reading.{Reading}
use Rattle.numeral.specs.Numeral.{between_digits, behind_prefix}

-- "begun by a digit or, outside brackets, by `.` and a digit"; whether it stands outside brackets is not its own matter
abbrev pub Begun : List ℕ → Type 0
Begun t = (is_digit (peek_at t 0) ≡ true) ⊎ ((peek_at t 0 ≡ code ".") × (is_digit (peek_at t 1) ≡ true))

-- "optional `0x` or `0X` ..
abbrev pub Prefix : List ℕ → Type 0
Prefix t = (t ≡ ascii "0x") ⊎ (t ≡ ascii "0X")

-- .. (then hex digits, else decimal), digits, optional `.` and digits, ..
abbrev pub is_point : ℕ → Bool
is_point c = eqb c (code ".")

abbrev pub Mantissa : Reading → Class → Separators → List ℕ → Type 0
Mantissa r k q = Then (SeparatedDigits (is_in k) q) (Optional is_point (SeparatedDigits (is_in k) (between_digits r)))

-- .. optional e or E with optional sign and decimal digits."
abbrev pub is_exponent_mark : ℕ → Bool
is_exponent_mark c = eqb (lowered c) (code "e")

abbrev pub Exponent : Reading → List ℕ → Type 0
Exponent r = Optional is_exponent_mark (Then (Optional is_sign Empty) (SeparatedDigits (is_in Digit) (between_digits r)))

-- an e is a hex digit, so that a hex number has no exponent: `0x1e+5` is no number text
abbrev pub DecimalNumber : Reading → List ℕ → Type 0
DecimalNumber r = Then (Mantissa r Digit (between_digits r)) (Exponent r)

abbrev pub HexNumber : Reading → List ℕ → Type 0
HexNumber r = Then Prefix (Mantissa r HexDigit (behind_prefix r))

abbrev pub NumberText : Reading → List ℕ → Type 0
NumberText r t = Begun t × (DecimalNumber r t ⊎ HexNumber r t)

-- "one of `smhdwy` follows, then an optional s, ..
abbrev pub is_one_of : String → ℕ → Bool
is_one_of letters c = has c (ascii letters)

abbrev pub OptionalS : List ℕ → Type 0
OptionalS = Optional (λ c. eqb c (code "s")) Empty

-- .. then any repeats of (digits, one of `smhdw`, optional s)", where digits are one or more
abbrev pub SomeDigits : List ℕ → Type 0
SomeDigits t = SeparatedDigits (is_in Digit) Never t × (0 < length t)

abbrev pub Repeat : List ℕ → Type 0
Repeat = Then SomeDigits (Then (One (is_one_of "smhdw")) OptionalS)

pub data Repeats : List ℕ → Type 0 where
  none : Repeats []
  more : (u v : List ℕ) → Repeat u → Repeats v → Repeats (u ++ v)

abbrev pub Units : List ℕ → Type 0
Units = Then (One (is_one_of "smhdwy")) (Then OptionalS Repeats)

-- a duration's text is a number's and, "from there", its units; L2: "A number with a separator can't begin a duration"
abbrev pub DurationText : Reading → List ℕ → Type 0
DurationText r = Then (λ t. NumberText r t × (has separator t ≡ false)) Units
