-- What is capped in reading the parts changes nothing (`Caps`), and the parts give the value (`Scales`).
use Prim.Native.Nat.{ℕ, suc, ◌+◌, ◌≤◌, min}
use native.Mathlib.Omega.{arith}
use native.Mathlib.Nat.{add-zero}
use mathlib.Core.Bool.{Bool, true, false, ◌&&◌}
use mathlib.Core.List.{List}
use mathlib.Core.Path.{◌≡◌, sym, ap, ◌∙◌}
use lib.ListN.{length}
use Rattle.scan.specs.Sign.{is_minus}
use Rattle.scan.specs.Digits.{value_of}
use Rattle.decimal.specs.declared.Decimal.{Decimal}
use Rattle.decimal.specs.declared.Parts.{Parts}
use Rattle.decimal.specs.Grammar.{is_exponent, parts_of, digits_of, fraction_of, exponent_of, is_negative_exponent}
use Rattle.decimal.specs.Value.{most_told, decimal_limit}
use Rattle.decimal.specs.steps.Scale.{trailing, significand, scaled_by, scale_read}
use Rattle.decimal.proofs.Places.{Ordered, ordered, fraction_in, behind_in, fraction_long, digits_few}
use Rattle.decimal.proofs.Zeros.{trailing_few}
use Rattle.decimal.proofs.Caps.{raised_capped, reduced_capped}
use Rattle.decimal.proofs.Scales.{scale_read_holds}
use Rattle.decimal.proofs.Split.numeral.Goals as goal
use Rattle.decimal.proofs.Split.numeral.Goals.{After-is_negative_exponent, Start}

module _ (c : Start) where
  abbrev xs : List ℕ
  xs = c.args.self.text.now

  abbrev p : Parts
  p = c.args.self.parts

  in_order : Ordered xs p
  in_order = ordered xs p c.args.self.lies

-- the value by the parts where they lie
module _ (xs : List ℕ) where
  abbrev power : ℕ
  power = value_of 10 (exponent_of xs)

  behind_is : (p : Parts) → p ≡ parts_of xs → behind_in xs p ≡ length (fraction_of xs)
  behind_is p e = sym (fraction_long xs p e) ∙ ap (λ (q : Parts). length (fraction_in xs q)) e

  read_lowered : (p : Parts) → p ≡ parts_of xs → is_exponent xs p.fraction_to && is_minus xs (suc p.fraction_to) ≡ true → scaled_by (is_minus xs 0) (significand xs) (trailing (digits_of xs)) (behind_in xs p + power) ≡ scale_read xs
  read_lowered p e l =
      let m : is_negative_exponent xs ≡ true = rw e at l in
      ap (λ (n : ℕ). scaled_by (is_minus xs 0) (significand xs) (trailing (digits_of xs)) (n + power)) (behind_is p e) ∙ rw (m, add-zero)

  read_raised : (p : Parts) → p ≡ parts_of xs → is_exponent xs p.fraction_to && is_minus xs (suc p.fraction_to) ≡ false → scaled_by (is_minus xs 0) (significand xs) (trailing (digits_of xs) + power) (behind_in xs p) ≡ scale_read xs
  read_raised p e l =
      let m : is_negative_exponent xs ≡ false = rw e at l in
      ap (scaled_by (is_minus xs 0) (significand xs) (trailing (digits_of xs) + power)) (behind_is p e) ∙ rw (m, add-zero)

pub is_negative_exponent-requires : goal.is_negative_exponent-requires
is_negative_exponent-requires c = let a = (goal.at.is_negative_exponent-requires c).Start in omega (arith, (in_order a).fraction_in_holds, a.requires)

-- what was read
module _ (c : After-is_negative_exponent) where
  abbrev a : Start
  a = (goal.at.After-is_negative_exponent c).Start

  abbrev zeros : ℕ
  zeros = c.trailing_zeros-zeros.result

  abbrev w : ℕ
  w = c.significand-w.result

  abbrev e : ℕ
  e = c.exponent-e.result

  zeros_few : trailing (digits_of (xs a)) ≤ decimal_limit
  zeros_few = omega (arith, digits_few (xs a) (p a) a.args.self.lies, trailing_few (digits_of (xs a)), a.requires)

  behind_few : behind_in (xs a) (p a) ≤ decimal_limit
  behind_few = omega (arith, (in_order a).fraction_in_holds, a.requires)

  counted : zeros ≤ decimal_limit
  counted = omega (arith, zeros_few, c.trailing_zeros-zeros.ensures)

  capped : e ≤ most_told
  capped = omega (arith, c.exponent-e.ensures)

  -- a value by what was read is one by what stands there
  stands : (f : Bool → ℕ → ℕ → ℕ → Decimal) → f c.is_minus-negative.result w zeros e ≡ f (is_minus (xs a) 0) (min most_told (significand (xs a))) (trailing (digits_of (xs a))) (min most_told (power (xs a)))
  stands f =
      ap (λ (b : Bool). f b w zeros e) c.is_minus-negative.ensures
      ∙ ap (λ (n : ℕ). f (is_minus (xs a) 0) n zeros e) c.significand-w.ensures
      ∙ ap (λ (n : ℕ). f (is_minus (xs a) 0) (min most_told (significand (xs a))) n e) c.trailing_zeros-zeros.ensures
      ∙ ap (λ (n : ℕ). f (is_minus (xs a) 0) (min most_told (significand (xs a))) (trailing (digits_of (xs a))) n) c.exponent-e.ensures

pub scaled_by-requires : goal.scaled_by-requires
scaled_by-requires c = let d = (goal.at.scaled_by-requires c).After-is_negative_exponent in (omega (arith, counted d), omega (arith, behind_few d, capped d))

pub returns-then-is_negative_exponent : goal.returns-then-is_negative_exponent
returns-then-is_negative_exponent c =
    let d = (goal.at.returns-then-is_negative_exponent c).After-is_negative_exponent in
    let x = xs (a d) in
    let t = trailing (digits_of x) in
    c.scaled_by.ensures
    ∙ stands d (λ s v z n. scaled_by s v z (behind_in x (p (a d)) + n))
    ∙ reduced_capped (is_minus x 0) (significand x) t (behind_in x (p (a d))) (power x) (zeros_few d) (behind_few d)
    ∙ read_lowered x (p (a d)) (a d).args.self.lies (sym d.is_negative_exponent.ensures ∙ c.if-is_negative_exponent.true)
    ∙ scale_read_holds x

pub overflow_add-zeros : goal.overflow_add-zeros
overflow_add-zeros c = let d = (goal.at.overflow_add-zeros c).After-is_negative_exponent in omega (arith, counted d, capped d)

pub scaled_by-requires-2 : goal.scaled_by-requires-2
scaled_by-requires-2 c = let d = (goal.at.scaled_by-requires-2 c).After-is_negative_exponent in (omega (arith, counted d, capped d), omega (arith, behind_few d))

pub returns : goal.returns
returns c =
    let d = (goal.at.returns c).After-is_negative_exponent in
    let x = xs (a d) in
    let t = trailing (digits_of x) in
    c.scaled_by-2.ensures
    ∙ stands d (λ s v z n. scaled_by s v (z + n) (behind_in x (p (a d))))
    ∙ raised_capped (is_minus x 0) (significand x) t (behind_in x (p (a d))) (power x) (zeros_few d) (behind_few d)
    ∙ read_raised x (p (a d)) (a d).args.self.lies (sym d.is_negative_exponent.ensures ∙ c.if-is_negative_exponent.false)
    ∙ scale_read_holds x
