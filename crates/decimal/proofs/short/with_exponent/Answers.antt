-- Each way out knows why the text is no numeral, or that it is one and what its exponent amounts to; `Told` says the rest.
use Prim.Native.Nat.{ℕ, ◌+◌, ◌^◌, ◌<◌, ◌≤◌}
use native.Mathlib.Omega.{arith}
use mathlib.Core.Bool.{Bool, true, false}
use mathlib.Core.List.{List}
use mathlib.Core.Path.{◌≡◌, sym, ap, subst, ◌∙◌}
use Rattle.scan.specs.Sign.{past_sign, is_minus}
use Rattle.scan.specs.Digits.{value_of}
use Rattle.scan.proofs.sign.Places.{sign_within}
use Rattle.decimal.specs.declared.short.Digits.{Digits}
use Rattle.decimal.specs.Grammar.{is_exponent, fraction_to, exponent_from, exponent_to, exponent_of, is_numeral, is_negative_exponent}
use Rattle.decimal.specs.steps.Short.{most_short, digits_from, Led, Tells}
use Rattle.decimal.proofs.Values.{ten_pos}
use Rattle.decimal.proofs.Places.{exponent_within}
use Rattle.decimal.proofs.short.Walks.{further}
use Rattle.decimal.proofs.short.Told.{none, some, unended, no_power, power_from, no_digits, digits, negative, lowered_up, lowered_down, raised_up, raised_down, fraction_few, told_scaled}
use Rattle.decimal.proofs.short.with_exponent.Goals as goal
use Rattle.decimal.proofs.short.with_exponent.Goals.{After-digits_from-e, After-is_exponent, After-is_minus, Start}

module _ (c : Start) where
  abbrev text : List ℕ
  text = c.args.s.now

  abbrev led : Led text c.args.at c.args.w c.args.behind
  led = c.requires.0

-- the test of an exponent
tested : (c : After-is_exponent) → let a = (goal.at.After-is_exponent c).Start in c.is_exponent.result ≡ is_exponent (text a) (fraction_to (text a))
tested c = let a = (goal.at.After-is_exponent c).Start in c.is_exponent.ensures ∙ ap (is_exponent (text a)) (led a).ends

pub returns-then-not-is_exponent : goal.returns-then-not-is_exponent
returns-then-not-is_exponent c =
    let a = (goal.at.returns-then-not-is_exponent c).Start in
    let e = no_power (text a) (sym (tested (goal.at.returns-then-not-is_exponent c).After-is_exponent) ∙ c.if-not-is_exponent.true) in
    none (text a) (led a).first (unended (text a) (λ q. omega (arith, e, (led a).ends, a.requires.1)))

pub digits_from-e-requires : goal.digits_from-e-requires
digits_from-e-requires c =
    let a = (goal.at.digits_from-e-requires c).Start in
    (omega (arith, c.past_sign-from.ensures, sign_within (text a) (a.args.at + 1) (omega (arith, a.requires.1))), (led a).few, ten_pos c.past_sign-from.result)

-- what the exponent amounts to
module _ (c : After-digits_from-e) where
  abbrev start : Start
  start = (goal.at.After-digits_from-e c).Start

  abbrev xs : List ℕ
  xs = text start

  abbrev e : Digits
  e = c.digits_from-e.result

  stands : is_exponent xs (fraction_to xs) ≡ true
  stands = sym (tested (goal.at.After-digits_from-e c).After-is_exponent) ∙ c.if-not-is_exponent.false

  from_is : c.past_sign-from.result ≡ exponent_from xs
  from_is = c.past_sign-from.ensures ∙ ap (λ (n : ℕ). past_sign xs (n + 1)) (led start).ends ∙ sym (power_from xs stands)

  all : e ≡ digits_from xs (exponent_from xs) 0
  all = c.digits_from-e.ensures.0 ∙ ap (λ (n : ℕ). digits_from xs n 0) from_is

  end_is : e.end ≡ exponent_to xs
  end_is = ap (λ (d : Digits). d.end) all

  value_is : e.value ≡ value_of 10 (exponent_of xs)
  value_is = ap (λ (d : Digits). d.value) all

  power_few : e.value < 10 ^ most_short
  power_few = further e.value e.end most_short c.digits_from-e.ensures.1 (omega (arith, end_is, exponent_within xs, (led start).few))

  behind_few : start.args.behind ≤ most_short
  behind_few = omega (arith, (led start).fraction, fraction_few xs, (led start).few)

pub returns-then-e-from : goal.returns-then-e-from
returns-then-e-from c =
    let d = (goal.at.returns-then-e-from c).After-digits_from-e in
    none (xs d) (led (start d)).first (no_digits (xs d) (stands d) (sym (end_is d) ∙ c.if-e-from.true ∙ from_is d))

pub returns-then-e-s : goal.returns-then-e-s
returns-then-e-s c =
    let d = (goal.at.returns-then-e-s c).After-digits_from-e in
    none (xs d) (led (start d)).first (unended (xs d) (λ q. c.if-e-s.true (end_is d ∙ q)))

-- the sign of the exponent of a numeral
module _ (c : After-is_minus) where
  abbrev told : After-digits_from-e
  told = (goal.at.After-is_minus c).After-digits_from-e

  minus : (b : Bool) → c.is_minus.result ≡ b → is_negative_exponent (xs told) ≡ b
  minus b h = negative (xs told) (stands told) b (ap (λ (n : ℕ). is_minus (xs told) (n + 1)) (sym (led (start told)).ends) ∙ sym c.is_minus.ensures ∙ h)

  numeral : is_numeral (xs told) ≡ true
  numeral =
      some (xs told) (led (start told)).first
      (digits (xs told) (stands told) (λ q. c.if-e-from.false (end_is told ∙ q ∙ sym (from_is told))))
      (sym (end_is told) ∙ omega (arith, c.if-e-s.false))

pub overflow_add-behind : goal.overflow_add-behind
overflow_add-behind c = let d = told (goal.at.overflow_add-behind c).After-is_minus in omega (arith, behind_few d, power_few d)

pub scaled-requires : goal.scaled-requires
scaled-requires c = let d = told (goal.at.scaled-requires c).After-is_minus in (omega (arith, (led (start d)).below), omega arith, omega (arith, behind_few d, power_few d))

pub returns-then-is_minus : goal.returns-then-is_minus
returns-then-is_minus c =
    let i = (goal.at.returns-then-is_minus c).After-is_minus in
    let d = told i in
    let a = (start d).args in
    let m = minus i true c.if-is_minus.true in
    subst (Tells (xs d)) (sym c.scaled.ensures)
    (told_scaled (xs d) a.at a.w a.behind (led (start d)) (numeral i) 0 (a.behind + (e d).value) (lowered_up (xs d) m)
    (omega (arith, lowered_down (xs d) m, (led (start d)).fraction, value_is d)))

pub scaled-requires-2 : goal.scaled-requires-2
scaled-requires-2 c = let d = told (goal.at.scaled-requires-2 c).After-is_minus in (omega (arith, (led (start d)).below), omega (arith, power_few d), omega (arith, behind_few d))

pub returns : goal.returns
returns c =
    let i = (goal.at.returns c).After-is_minus in
    let d = told i in
    let a = (start d).args in
    let m = minus i false c.if-is_minus.false in
    subst (Tells (xs d)) (sym c.scaled-2.ensures)
    (told_scaled (xs d) a.at a.w a.behind (led (start d)) (numeral i) (e d).value a.behind (raised_up (xs d) m ∙ sym (value_is d))
    (raised_down (xs d) m ∙ sym (led (start d)).fraction))
