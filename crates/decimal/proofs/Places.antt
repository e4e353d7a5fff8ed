-- The places of a text's parts lie within it: past a sign or a point that stands there is still within, and so is where a run ends.
use Prim.Native.Nat.{ℕ, suc, ◌-◌, ◌≤◌, ◌<◌}
use native.Mathlib.Omega.{arith}
use mathlib.Core.Bool.{true, false}
use mathlib.Core.List.{List, ◌++◌}
use mathlib.Core.Path.{◌≡◌, refl, sym, ap, subst}
use lib.Dec.{eqb}
use lib.ListN.{length, length-append}
use Rattle.scan.specs.declared.byte.Class.TheVariants.{Digit}
use Rattle.scan.specs.Byte.{end, peek_at, is_within, is_in, lowered}
use Rattle.scan.specs.Run.{run_end}
use Rattle.proving.proofs.Choice.{either}
use Rattle.scan.proofs.Runs.{inside, run_within}
use Rattle.scan.proofs.sign.Places.{sign_within}
use Rattle.decimal.specs.declared.Parts.{Parts}
use Rattle.decimal.proofs.Zeros.{between_long}
use Rattle.decimal.specs.Grammar.{between, parts_of, digits_of, past_point, is_exponent, whole_from, whole_to, fraction_from, fraction_to, exponent_from, exponent_to}

pub no_exponent : eqb (lowered end) 101 ≡ false
unfolding lowered is_within
no_exponent = refl

pub exponent_inside : (xs : List ℕ) (at : ℕ) → is_exponent xs at ≡ true → at < length xs
exponent_inside xs at e = inside (λ c. eqb (lowered c) 101) no_exponent xs at e

module _ (xs : List ℕ) (at : ℕ) (h : at ≤ length xs) where
  pub point_within : past_point xs at ≤ length xs
  point_within = either (λ n. n ≤ length xs) (eqb (peek_at xs at) 46) (λ e. inside (λ c. eqb c 46) refl xs at e) (λ e. h)

  pub digits_within_text : run_end (is_in Digit) xs at ≤ length xs
  digits_within_text = omega (arith, run_within (is_in Digit) xs at)

-- the parts of a text
module _ (xs : List ℕ) where
  pub whole_within : whole_to xs ≤ length xs
  whole_within = digits_within_text xs (whole_from xs) (sign_within xs 0 (omega arith))

  pub fraction_within : fraction_to xs ≤ length xs
  fraction_within = digits_within_text xs (fraction_from xs) (point_within xs (whole_to xs) whole_within)

  pub exponent_within : exponent_to xs ≤ length xs
  exponent_within =
      digits_within_text xs (exponent_from xs)
      (either (λ n. n ≤ length xs) (is_exponent xs (fraction_to xs))
      (λ e. sign_within xs (suc (fraction_to xs)) (exponent_inside xs (fraction_to xs) e)) (λ e. fraction_within))

-- parts of a text in their order
pub record Ordered (xs : List ℕ) (p : Parts) : Type 0 where
  pub whole : p.whole_from ≤ p.whole_to
  pub whole_in_holds : p.whole_to ≤ length xs
  pub fraction : p.fraction_from ≤ p.fraction_to
  pub fraction_in_holds : p.fraction_to ≤ length xs
  pub apart : p.whole_to ≤ p.fraction_from
  pub exponent : p.exponent_from ≤ p.exponent_to
  pub exponent_in : p.exponent_to ≤ length xs

pub ordered : (xs : List ℕ) (p : Parts) → p ≡ parts_of xs → Ordered xs p
ordered xs p e = subst (Ordered xs) (sym e) all
  where
    all : Ordered xs (parts_of xs)
    all =
        record { whole = omega arith; whole_in_holds = whole_within xs; fraction = omega arith; fraction_in_holds = fraction_within xs; apart = either (λ n. whole_to xs ≤ n) (eqb (peek_at xs (whole_to xs)) 46) (λ e. omega arith) (λ e. omega arith); exponent = omega arith; exponent_in = exponent_within xs }

-- the digits that lie in them
module _ (xs : List ℕ) (p : Parts) where
  abbrev pub whole_in : List ℕ
  whole_in = between xs p.whole_from p.whole_to

  abbrev pub fraction_in : List ℕ
  fraction_in = between xs p.fraction_from p.fraction_to

  abbrev pub behind_in : ℕ
  behind_in = p.fraction_to - p.fraction_from

  module _ (e : p ≡ parts_of xs) where
    pub whole_long : length whole_in ≡ p.whole_to - p.whole_from
    whole_long = let o = ordered xs p e in between_long xs p.whole_from p.whole_to o.whole o.whole_in_holds

    pub fraction_long : length fraction_in ≡ behind_in
    fraction_long = let o = ordered xs p e in between_long xs p.fraction_from p.fraction_to o.fraction o.fraction_in_holds

    pub digits_are : whole_in ++ fraction_in ≡ digits_of xs
    digits_are = ap (λ (q : Parts). between xs q.whole_from q.whole_to ++ between xs q.fraction_from q.fraction_to) e

    pub digits_few : length (digits_of xs) ≤ length xs
    digits_few =
        let o = ordered xs p e in
        omega (arith, ap length (sym digits_are), length-append whole_in fraction_in, whole_long, fraction_long, o.apart, o.fraction_in_holds)
