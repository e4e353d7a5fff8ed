-- The laws of numbers in `specs/laws/Codes`: an accepted answer is a notation's number, well below bit 63; a refusal's number is at most 61
-- and its place within the text, by the bounds of `number`'s answers.
use native.Mathlib.Omega.{arith}
use mathlib.Core.Bool.{false}
use mathlib.Core.Path.{◌≡◌, refl}
use Rattle.decimal.specs.declared.Number.{Number}
use Rattle.utf8.specs.declared.Refusal.{Refusal}
use Rattle.std.specs.Prelude.{Err, Ok, Result, is_err}
use Rattle.decimal.specs.declared.Notation.{Notation}
use Rattle.decimal.specs.declared.Notation.TheVariants.{Decimal, Hex, Octal}
use Rattle.number.specs.Number.{parsing_of}
use Rattle.number.proofs.Bounds.{parsing_bound}
use Rattle.exports.specs.Number.{notation_code, parse_code}
use Rattle.exports.specs.laws.Codes.{looks_refused, ParseTold, ParseKept}
use Rattle.exports.proofs.packing.Laws.{packed_told}

pub parse_told : ParseTold
parse_told d xs = go (parsing_of d xs)
  where
    by : (n : Notation) → looks_refused (notation_code n) ≡ false
    by Decimal = refl
    by Hex = refl
    by Octal = refl

    go : (p : Result Number Refusal) → looks_refused (parse_code p) ≡ is_err p
    go (Ok n) = by n.notation
    go (Err r) = packed_told r

pub parse_kept : ParseKept
parse_kept d xs r e = let b = parsing_bound d xs r e in omega (arith, b)
