-- An integer of a notation: "What follows may bear its own sign", and then come digits, one at least.
use Rattle.std.specs.Prelude.{ℕ, min, Bool, cond, ◌&&◌, List, length, drop, nat_lt, None, Option, Some}
use Rattle.std.specs.List.{list_all}
use Rattle.scan.specs.Byte.{is_digit_in}
use Rattle.decimal.specs.declared.Notation.{Notation}
use Rattle.scan.specs.Sign.{past_sign, is_minus}
use Rattle.scan.specs.Digits.{value_of}
use Rattle.decimal.specs.Value.{radix_of, most_told}
use Rattle.number.specs.declared.Integer.{Integer}

unfoldable pub is_digits : ℕ → List ℕ → Bool
is_digits radix cs = list_all (is_digit_in radix) cs

-- what stands behind the own sign
abbrev pub unsigned_of : List ℕ → List ℕ
unsigned_of ys = drop (past_sign ys 0) ys

unfoldable pub is_whole : Notation → List ℕ → Bool
is_whole n ys = nat_lt 0 (length (unsigned_of ys)) && is_digits (radix_of n) (unsigned_of ys)

abbrev pub magnitude_of : Notation → List ℕ → ℕ
magnitude_of n ys = value_of (radix_of n) (unsigned_of ys)

unfoldable pub integer_of : Notation → List ℕ → Option Integer
integer_of n ys = cond (is_whole n ys) (Some (record { negative = is_minus ys 0; magnitude = magnitude_of n ys })) None

-- as `digits_value` answers: 2^63 + 1 stands for every greater magnitude
abbrev pub told_of : Option Integer → Option Integer
told_of (Some i) = Some (record { negative = i.negative; magnitude = min most_told i.magnitude })
told_of None = None
