-- How far the refusals of a number reach: they are those of its text's admission, 1 and 2, at places within it, and 53, 60 and 61, at none.
use Rattle.decimal.specs.declared.Number.{Number}
use Rattle.utf8.specs.declared.Refusal.{Refusal}
use Rattle.utf8.specs.declared.CharNumber.{CharNumber}
use Rattle.std.specs.Prelude.{Err, None, Ok, Option, Result, Some}
use Rattle.std.proofs.Common.{ℕ, Bool, ◌&&◌, List, subst, arith}
use lib.Ieee.{unlike}
use Rattle.proving.proofs.Choice.{either}
use Rattle.scan.specs.Separated.{without_separators}
use Rattle.utf8.specs.declared.Reading.{Reading}
use Rattle.utf8.specs.Answers.{admitted}
use Rattle.utf8.specs.laws.Bounds as within
use Rattle.utf8.proofs.Bounds.{admitted_bound}
use Rattle.scan.specs.Sign.{is_minus}
use Rattle.decimal.specs.declared.Notation.{Notation}
use Rattle.decimal.specs.declared.Decimal.{Decimal}
use Rattle.decimal.specs.declared.Decimal.TheVariants.{NotDecimal, Named, Exact, Outside}
use Rattle.decimal.specs.Value.{decimal_limit, decimal_of}
use Rattle.number.specs.declared.Integer.{Integer}
use Rattle.number.specs.Signed.{is_i64}
use Rattle.number.specs.Integer.{integer_of}
use Rattle.number.specs.White.{plain_text}
use Rattle.number.specs.Number.{leads_zero, is_marked, integer_by, notation_of, follows_mark, marked_read, parsed_decimal, number_of, is_placed, number_in, parsing_by, parsing_of}
use Rattle.number.specs.laws.Refusals.{ParsingBound}

abbrev Bounded : Result Number Refusal → Type 0
Bounded (Ok n) = Unit {0}
Bounded (Err r) = within.Placed 61 decimal_limit r

integer_bound : (n : Notation) (outer : Bool) (i : Option Integer) → Bounded (integer_by n outer i)
integer_bound n outer (Some own) =
    either Bounded (is_i64 own.negative own.magnitude && is_i64 (unlike own.negative outer) own.magnitude) (λ e. tt) (λ e. omega arith)
integer_bound n outer None = omega arith

marked_bound : (t : List ℕ) → Bounded (marked_read t)
unfolding marked_read
marked_bound t =
    either Bounded (leads_zero t) (λ e. integer_bound (notation_of t) (is_minus t 0) (integer_of (notation_of t) (follows_mark t))) (λ e. omega arith)

decimal_bound : (d : Decimal) → Bounded (parsed_decimal d)
decimal_bound NotDecimal = omega arith
decimal_bound (Named n) = tt
decimal_bound (Exact n) = tt
decimal_bound (Outside negative) = omega arith

number_bound : (t : List ℕ) → Bounded (number_of t)
unfolding number_of
number_bound t = either Bounded (is_marked t) (λ e. marked_bound t) (λ e. decimal_bound (decimal_of t))

reading_bound : (r : Reading) (t : List ℕ) → Bounded (number_in r t)
unfolding number_in
reading_bound r t = either Bounded (is_placed r t) (λ e. number_bound (without_separators t)) (λ e. omega arith)

bound : (r : Reading) (xs : List ℕ) → Bounded (parsing_of r xs)
unfolding parsing_of
bound r xs = go (admitted decimal_limit xs) (admitted_bound decimal_limit xs)
  where
    go : (a : Result CharNumber Refusal) → within.Bounded decimal_limit a → Bounded (parsing_by r a (plain_text xs))
    go (Ok n) h = reading_bound r (plain_text xs)
    go (Err e) h = omega (arith, h.number, h.byte, h.character)

pub parsing_bound : ParsingBound
parsing_bound r xs e q = let p = subst Bounded q (bound r xs) in (p.number, p.byte, p.character)
