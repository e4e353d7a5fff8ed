-- The grammar of a decimal text: the Rust library's, of `f64::from_str`. An optional sign; `inf`, `infinity` or `nan` in any case; or digits
-- with at most one point among them and one digit at least, and an optional exponent: `e` in either case, an optional sign, digits.
use Rattle.std.specs.Prelude.{ℕ, suc, ◌-◌, Bool, cond, ◌&&◌, ◌||◌, not, List, ◌++◌, map, eqb, ltb, length, take, drop}
use Prim.Native.Char.{code}
use Rattle.scan.specs.Ascii.{ascii}
use Rattle.scan.specs.declared.byte.Class.TheVariants.{Digit}
use Rattle.scan.specs.Byte.{peek_at, lowered, is_in}
use Rattle.scan.specs.Run.{run_end}
use Rattle.scan.specs.Text.{same_text}
use Rattle.scan.specs.Sign.{past_sign, is_minus}
use Rattle.decimal.specs.declared.Parts.{Parts}

-- past a point, where one stands
abbrev pub past_point : List ℕ → ℕ → ℕ
past_point xs at = cond (eqb (peek_at xs at) (code ".")) (suc at) at

-- an `e` stands there, and the place past it and its sign where it does
abbrev pub is_exponent : List ℕ → ℕ → Bool
is_exponent xs at = eqb (lowered (peek_at xs at)) (code "e")

abbrev pub past_exponent : List ℕ → ℕ → ℕ
past_exponent xs at = cond (is_exponent xs at) (past_sign xs (suc at)) at

-- where the digits before the point begin and end,
abbrev pub whole_from : List ℕ → ℕ
whole_from xs = past_sign xs 0

abbrev pub whole_to : List ℕ → ℕ
whole_to xs = run_end (is_in Digit) xs (whole_from xs)

-- those behind it,
abbrev pub fraction_from : List ℕ → ℕ
fraction_from xs = past_point xs (whole_to xs)

abbrev pub fraction_to : List ℕ → ℕ
fraction_to xs = run_end (is_in Digit) xs (fraction_from xs)

-- and those of the exponent
abbrev pub has_exponent : List ℕ → Bool
has_exponent xs = is_exponent xs (fraction_to xs)

abbrev pub exponent_from : List ℕ → ℕ
exponent_from xs = past_exponent xs (fraction_to xs)

abbrev pub exponent_to : List ℕ → ℕ
exponent_to xs = run_end (is_in Digit) xs (exponent_from xs)

abbrev pub parts_of : List ℕ → Parts
parts_of xs = record {
  whole_from = whole_from xs;
  whole_to = whole_to xs;
  fraction_from = fraction_from xs;
  fraction_to = fraction_to xs;
  exponent_from = exponent_from xs;
  exponent_to = exponent_to xs;
}

-- digits before the point or behind it,
unfoldable pub has_digits : Parts → Bool
has_digits p = ltb p.whole_from p.whole_to || ltb p.fraction_from p.fraction_to

-- digits in an exponent, where there is one,
unfoldable pub exponent_has_digits : List ℕ → Parts → Bool
exponent_has_digits xs p = not (is_exponent xs p.fraction_to) || ltb p.exponent_from p.exponent_to

-- and nothing else
unfoldable pub is_numeral : List ℕ → Bool
is_numeral xs = let p = parts_of xs in has_digits p && (exponent_has_digits xs p && eqb p.exponent_to (length xs))

-- what follows the sign is a name
abbrev pub is_named : List ℕ → List ℕ → Bool
is_named name xs = same_text (map lowered (drop (whole_from xs) xs)) name

unfoldable pub is_infinite : List ℕ → Bool
is_infinite xs = is_named (ascii "inf") xs || is_named (ascii "infinity") xs

unfoldable pub is_nan : List ℕ → Bool
is_nan xs = is_named (ascii "nan") xs

-- the digits of each part
abbrev pub between : List ℕ → ℕ → ℕ → List ℕ
between xs from to = take (to - from) (drop from xs)

abbrev pub fraction_of : List ℕ → List ℕ
fraction_of xs = between xs (fraction_from xs) (fraction_to xs)

abbrev pub digits_of : List ℕ → List ℕ
digits_of xs = between xs (whole_from xs) (whole_to xs) ++ fraction_of xs

abbrev pub exponent_of : List ℕ → List ℕ
exponent_of xs = between xs (exponent_from xs) (exponent_to xs)

-- the exponent has a minus
abbrev pub is_negative_exponent : List ℕ → Bool
is_negative_exponent xs = has_exponent xs && is_minus xs (suc (fraction_to xs))
