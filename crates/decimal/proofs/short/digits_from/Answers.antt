-- The invariant: the digits from here on, read behind the value so far, amount to what all of them do, and the value has no more digits
-- than come before this place; so that it does not overflow.
use Prim.Native.Nat.{ℕ, ◌+◌, ◌*◌, ◌^◌, ◌<◌, ◌≤◌}
use native.Mathlib.Omega.{arith}
use mathlib.Core.Bool.{Bool, true, false}
use mathlib.Core.List.{List}
use mathlib.Core.Path.{◌≡◌, refl, sym, ap, ◌∙◌}
use lib.ListN.{length, get_or, get_or-eq_default}
use Rattle.proving.proofs.Lists.{get_d_any}
use Rattle.decimal.proofs.Exactness.{digit_below}
use Rattle.scan.specs.declared.byte.Class.TheVariants.{Digit}
use Rattle.scan.specs.Byte.{end, peek_at, is_digit, digit_of, is_in}
use Rattle.scan.proofs.byte.Classes.{end_in_none}
use Rattle.decimal.specs.steps.Short.{most_short}
use Rattle.decimal.proofs.short.Walks.{turn, out, grown, further}
use Rattle.decimal.proofs.short.digits_from.Goals as goal

-- what is tested is the byte that stands there
tested : (xs : List ℕ) (at : ℕ) (b : Bool) → at < length xs → is_digit (get_or xs at 0) ≡ b → is_in Digit (peek_at xs at) ≡ b
unfolding is_in
tested xs at b l e = ap is_digit (get_d_any xs at end 0 l) ∙ e

-- a digit behind a value of no more digits than come before it
next : (xs : List ℕ) (at v : ℕ) → at < length xs → v < 10 ^ at → is_digit (get_or xs at 0) ≡ true → v * 10 + digit_of (get_or xs at 0) < 10 ^ (at + 1)
next xs at v l h d =
    let b : digit_of (get_or xs at 0) < 10 = rw (get_d_any xs at 0 end l) (digit_below (peek_at xs at) (tested xs at true l d)) in
    grown v at (digit_of (get_or xs at 0)) h b

pub loop-end-init : goal.loop-end-init
loop-end-init c = (refl, c.requires.2)

pub returns-then-not-is_digit : goal.returns-then-not-is_digit
returns-then-not-is_digit c =
    let l = c.loop-end in
    let d = tested c.args.s.now l.end false c.loop-end-test.true (sym c.is_digit.ensures ∙ c.if-not-is_digit.true) in
    (sym (l.invariant.0 ∙ out c.args.s.now l.end l.value d), l.invariant.1)

-- it fits, as do the text's digits
fits : (xs : List ℕ) (at v : ℕ) → length xs ≤ most_short → at < length xs → v < 10 ^ at → is_digit (get_or xs at 0) ≡ true → v * 10 + digit_of (get_or xs at 0) < 10 ^ most_short
fits xs at v few l h d = further _ (at + 1) most_short (next xs at v l h d) (omega arith)

pub overflow_mul-value : goal.overflow_mul-value
overflow_mul-value c =
    let l = c.loop-end in
    omega (arith, fits c.args.s.now l.end l.value c.requires.1 c.loop-end-test.true l.invariant.1 (sym c.is_digit.ensures ∙ c.if-not-is_digit.false))

pub overflow_add-value : goal.overflow_add-value
overflow_add-value c =
    let l = c.loop-end in
    omega (arith, c.digit_of.ensures, fits c.args.s.now l.end l.value c.requires.1 c.loop-end-test.true l.invariant.1 (sym c.is_digit.ensures ∙ c.if-not-is_digit.false))

pub loop-end-preserved : goal.loop-end-preserved
loop-end-preserved c =
    let xs = c.args.s.now in
    let l = c.loop-end in
    let d = sym c.is_digit.ensures ∙ c.if-not-is_digit.false in
    rw c.digit_of.ensures
    (l.invariant.0 ∙ turn xs l.end l.value (tested xs l.end true c.loop-end-test.true d), next xs l.end l.value c.loop-end-test.true l.invariant.1 d)

pub returns : goal.returns
returns c =
    let xs = c.args.s.now in
    let l = c.loop-end in
    let e : l.end ≡ length xs = omega (arith, c.loop-end-test.false) in
    let d = ap (is_in Digit) (get_or-eq_default xs end c.loop-end-test.false) ∙ end_in_none Digit in
    rw (← e) (sym (l.invariant.0 ∙ out xs l.end l.value d), l.invariant.1)
