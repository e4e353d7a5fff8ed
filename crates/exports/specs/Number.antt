-- What the C function over `number` answers, and what it leaves in what was lent, by cases over `number`'s answer.
use Rattle.decimal.specs.declared.Number.{Number}
use Rattle.utf8.specs.declared.Refusal.{Refusal}
use Rattle.std.specs.Prelude.{ℕ, Err, Ok, Result}
use Rattle.decimal.specs.declared.Notation.{Notation}
use Rattle.decimal.specs.declared.Notation.TheVariants.{Decimal, Hex, Octal}
use Rattle.decimal.specs.Value.{bits_of}
use Rattle.exports.specs.Packed.{packed_of}

abbrev pub notation_code : Notation → ℕ
notation_code Decimal = 0
notation_code Hex = 1
notation_code Octal = 2

-- the notation, or the refusal
abbrev pub parse_code : Result Number Refusal → ℕ
parse_code (Ok n) = notation_code n.notation
parse_code (Err r) = packed_of r

-- what `bits` holds then: the value's, or what it held
abbrev pub parse_left : Result Number Refusal → ℕ → ℕ
parse_left (Ok n) old = bits_of n.value
parse_left (Err r) old = old
