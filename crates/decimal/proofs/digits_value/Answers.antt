-- The invariant: the digits from here on, read behind the value so far, amount to what all of them do. A value that would leave what is
-- told apart with the next digit never falls again, so that reading stops there; and no other overflows.
use Prim.Native.Nat.{ℕ, ◌+◌, ◌*◌, ◌/◌, ◌<◌, ◌≤◌, min}
use native.Mathlib.Nat.{le_trans, mul-le-mul_right, div-mul-le_self, div-lt_iff_lt-mul}
use native.Mathlib.Omega.{arith}
use mathlib.Core.Path.{◌≡◌, ◌∙◌}
use lib.ListN.{get_or, drop}
use Rattle.scan.specs.Byte.{digit_of}
use Rattle.scan.specs.Digits.{value_from}
use Rattle.scan.proofs.byte.Classes.{digit_bound}
use Rattle.decimal.specs.declared.Notation.{Notation}
use Rattle.decimal.specs.declared.Notation.TheVariants.{Decimal, Hex, Octal}
use Rattle.decimal.specs.Value.{radix_of, most_told}
use Rattle.decimal.proofs.Runs.{grows, value_turn, value_out}
use Rattle.decimal.proofs.digits_value.Goals as goal

positive : (r : ℕ) (n : Notation) → r ≡ radix_of n → 0 < r
positive r Decimal e = omega arith
positive r Hex e = omega arith
positive r Octal e = omega arith

-- what may go on with a digit, and what may not
module _ (radix v : ℕ) (h : 0 < radix) where
  goes_on : v ≤ most_told / radix → v * radix ≤ most_told
  goes_on l = le_trans (mul-le-mul_right radix l) (div-mul-le_self most_told radix)

  leaves : most_told / radix < v → most_told ≤ v * radix
  leaves l = omega (arith, (div-lt_iff_lt-mul h).0 l)

pub returns-then-last-value : goal.returns-then-last-value
returns-then-last-value c =
    let r = c.radix-radix.result in
    let p = positive r c.args.notation c.radix-radix.ensures in
    let ds = c.args.digits.now in
    let l = c.loop-digit in
    let v = l.value * r + digit_of (get_or ds l.digit-index 0) in
    let t = value_turn r ds l.digit-index l.value c.loop-digit-test.true in
    let g = grows r p v (drop (l.digit-index + 1) ds) in
    let e : most_told ≡ min most_told (value_from r c.args.start ds) = omega (arith, l.invariant, t, g, leaves r l.value p c.if-last-value.true) in
    rw (← c.radix-radix.ensures) e

pub overflow_add-value : goal.overflow_add-value
overflow_add-value c =
    let r = c.radix-radix.result in
    let l = c.loop-digit in
    omega (arith, goes_on r l.value (positive r c.args.notation c.radix-radix.ensures) (omega (arith, c.if-last-value.false)), c.digit_of.ensures, digit_bound (get_or c.args.digits.now l.digit-index 0))

pub loop-digit-preserved : goal.loop-digit-preserved
loop-digit-preserved c =
    let l = c.loop-digit in
    l.invariant ∙ value_turn c.radix-radix.result c.args.digits.now l.digit-index l.value c.loop-digit-test.true ∙ rw c.digit_of.ensures

pub returns : goal.returns
returns c =
    let l = c.loop-digit in
    let o = value_out c.radix-radix.result c.args.digits.now l.digit-index l.value c.loop-digit-test.false in
    rw (← c.radix-radix.ensures) (omega (arith, c.min.ensures, l.invariant, o))
