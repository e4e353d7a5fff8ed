-- What the code goes by in place of the fraction: w is the digits without the zeros that they end with, and E is `raised` less `reduced`.
-- Nothing that is promised outside rests on it; `proofs/Ranges` shows that it says what the definition says.
use Rattle.std.specs.Prelude.{ℕ, ◌+◌, ◌-◌, ◌*◌, ◌^◌, Bool, true, false, cond, ◌&&◌, List, [], ◌∷◌, eqb, leb, pos, Float, length, take}
use Rattle.std.specs.Float.{fin, binary64}
use Rattle.std.specs.Float.Ieee.{round}
use Rattle.scan.specs.Byte.{digit_of}
use Rattle.scan.specs.Sign.{is_minus}
use Rattle.scan.specs.Digits.{value_of}
use Rattle.decimal.specs.declared.Decimal.{Decimal}
use Rattle.decimal.specs.declared.Decimal.TheVariants.{Exact, Outside}
use Rattle.decimal.specs.Grammar.{fraction_of, digits_of, exponent_of, is_negative_exponent}
use Rattle.decimal.specs.Value.{most_exact, most_exponent, plain}

-- how many zeros digits end with
unfoldable pub is_zeros : List ℕ → Bool
is_zeros [] = true
is_zeros (x ∷ xs) = eqb (digit_of x) 0 && is_zeros xs

unfoldable pub trailing : List ℕ → ℕ
trailing [] = 0
trailing (x ∷ xs) = cond (is_zeros (x ∷ xs)) (length (x ∷ xs)) (trailing xs)

-- digits without these
abbrev pub trimmed : List ℕ → List ℕ
trimmed ds = take (length ds - trailing ds) ds

-- w, and the two powers of ten
abbrev pub significand : List ℕ → ℕ
significand xs = value_of 10 (trimmed (digits_of xs))

abbrev pub raised : List ℕ → ℕ
raised xs = trailing (digits_of xs) + cond (is_negative_exponent xs) 0 (value_of 10 (exponent_of xs))

abbrev pub reduced : List ℕ → ℕ
reduced xs = length (fraction_of xs) + cond (is_negative_exponent xs) (value_of 10 (exponent_of xs)) 0

unfoldable pub is_exact : ℕ → ℕ → ℕ → Bool
is_exact w up down = leb w most_exact && (leb up (down + most_exponent) && leb down (up + most_exponent))

-- 10 ^ e as an f64, which holds it up to e = 22: 5 ^ e * 2 ^ e
abbrev pub ten_to : ℕ → Float
ten_to e = fin false (5 ^ e) (pos e)

-- the f64 nearest to w times 10 ^ up over 10 ^ down
unfoldable pub nearest : Bool → ℕ → ℕ → ℕ → Float
nearest neg w up down = round binary64 neg (w * 10 ^ up) (10 ^ down)

unfoldable pub scaled_by : Bool → ℕ → ℕ → ℕ → Decimal
scaled_by neg w up down =
    cond (eqb w 0) (Exact (plain (fin neg 0 (pos 0))))
    (cond (is_exact w up down) (Exact (plain (nearest neg w up down)))
    (Outside neg))

abbrev pub scale_read : List ℕ → Decimal
scale_read xs = scaled_by (is_minus xs 0) (significand xs) (raised xs) (reduced xs)
