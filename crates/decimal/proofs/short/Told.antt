-- What is told of a short text that begins with a digit. It has no sign and is no name, so it is a numeral or nothing; and its digits are
-- few: they amount to less than 2^53 and end with few zeros, so that its value is in the exact range by its exponent alone.
use Prim.Native.Nat.{ℕ, ◌+◌, ◌-◌, ◌*◌, ◌^◌, ◌<◌, ◌≤◌}
use Prim.Native.Char.{code}
use native.Mathlib.Decide.{ℕ_discrete}
use native.Mathlib.Nat.{add-zero}
use native.Mathlib.Numerals.{add-one}
use native.Mathlib.Omega.{arith}
use mathlib.Core.Bool.{Bool, true, false, cond, ◌&&◌, ◌||◌, not, true≢false}
use mathlib.Core.List.{List, map}
use mathlib.Core.Logic.{inl, inr}
use mathlib.Core.Path.{◌≡◌, refl, sym, ap, ap₂, ◌∙◌}
use lib.Dec.{leb}
use lib.Ieee.{binary64, round}
use lib.ListN.{length, take, drop, take-append-drop, length-append}
use borrow.Author.Tests.{ne_eqb, lt-ltb, ltb-true}
use Rattle.proving.proofs.Choice.{either}
use Rattle.proving.proofs.Tests.{affirmed, itself, tests_le, tests_and}
use Rattle.scan.specs.declared.byte.Class.TheVariants.{Digit}
use Rattle.scan.specs.Byte.{peek_at, is_in, lowered}
use Rattle.scan.specs.Run.{run_end}
use Rattle.scan.specs.Sign.{past_sign, is_minus}
use Rattle.scan.specs.Digits.{value_from, value_of}
use Rattle.scan.proofs.byte.Classes.{within_bounds, end_in_none}
use Rattle.scan.proofs.Runs.{run_goes_on, run_stopped, run_stops}
use Rattle.decimal.specs.declared.Decimal.TheVariants.{NotDecimal, Exact}
use Rattle.decimal.specs.Grammar.{is_exponent, whole_from, whole_to, fraction_from, fraction_to, exponent_from, exponent_to, parts_of, exponent_has_digits, is_numeral, between, fraction_of, digits_of, exponent_of, is_negative_exponent}
use Rattle.decimal.specs.Value.{most_exact, most_exponent, plain, decimal_of}
use Rattle.decimal.specs.laws.Decimal.{Spelled, InExact}
use Rattle.decimal.specs.steps.Scale.{trailing, significand, raised, reduced, nearest}
use Rattle.decimal.specs.steps.Short.{most_short, most_raised, Led, scaled_short, Tells}
use Rattle.decimal.proofs.Runs.{grows, value_join}
use Rattle.decimal.proofs.Places.{digits_few, exponent_inside}
use Rattle.decimal.proofs.Zeros.{trailing_few}
use Rattle.decimal.proofs.Cuts.{between_none, sign_no}
use Rattle.decimal.proofs.Exactness.{is_zero_holds, scaled}
use Rattle.decimal.proofs.Spelling.{tests_numeral, lowered_low, first_infinite, first_nan}
use Rattle.decimal.proofs.Given.{decimal_given}

implies : (a b : Bool) → b ≡ true → not a || b ≡ true
implies true b e = e
implies false b e = refl

implied : (a b : Bool) → a ≡ true → not a || b ≡ true → b ≡ true
implied true b e h = h
implied false b e h = absurd (true≢false (sym e))

module _ (xs : List ℕ) where
  -- the power of ten by which the exponent raises the digits
  abbrev up : ℕ
  up = cond (is_negative_exponent xs) 0 (value_of 10 (exponent_of xs))

  -- it begins with a digit
  module _ (d : is_in Digit (peek_at xs 0) ≡ true) where
    bounds : (code "0" ≤ peek_at xs 0) × (peek_at xs 0 ≤ code "9")
    unfolding is_in
    bounds = within_bounds (code "0") (code "9") (peek_at xs 0) d

    pub from_start : whole_from xs ≡ 0
    from_start = rw (sign_no (peek_at xs 0) (omega (arith, bounds.0)))

    no_minus : is_minus xs 0 ≡ false
    no_minus = ne_eqb (peek_at xs 0) (code "-") (λ e. omega (arith, bounds.0))

    some_whole : whole_from xs < whole_to xs
    some_whole =
        let h : is_in Digit (peek_at xs (whole_from xs)) ≡ true = rw from_start d in
        omega (arith, run_goes_on (is_in Digit) (end_in_none Digit) xs (whole_from xs) h)

    low : peek_at (map lowered (drop (whole_from xs) xs)) 0 ≤ code "9"
    low = rw from_start (lowered_low xs bounds.1)

    pub none : (is_numeral xs ≡ true → ⊥) → decimal_of xs ≡ NotDecimal
    none n = (decimal_given xs).4.1 (λ s. go s.1)
      where
        go : Spelled xs → ⊥
        go (inl i) = omega (arith, first_infinite xs i, low)
        go (inr (inl i)) = omega (arith, first_nan xs i, low)
        go (inr (inr m)) = n m

    pub some : exponent_has_digits xs (parts_of xs) ≡ true → exponent_to xs ≡ length xs → is_numeral xs ≡ true
    some h l = (tests_numeral xs).1 (inl some_whole, (h, l))

  pub unended : (exponent_to xs ≡ length xs → ⊥) → is_numeral xs ≡ true → ⊥
  unended h n = h ((tests_numeral xs).0 n).1.1

  -- with no exponent
  pub past_end : fraction_to xs ≡ length xs → is_exponent xs (fraction_to xs) ≡ false
  past_end e = affirmed (itself (is_exponent xs (fraction_to xs))) (λ t. omega (arith, exponent_inside xs (fraction_to xs) t))

  module _ (e : is_exponent xs (fraction_to xs) ≡ false) where
    stops : run_end (is_in Digit) xs (fraction_to xs) ≡ fraction_to xs
    stops = run_stops (is_in Digit) xs (fraction_to xs) (run_stopped (is_in Digit) (end_in_none Digit) xs (fraction_from xs))

    pub no_power : exponent_to xs ≡ fraction_to xs
    no_power = rw e stops

    pub none_needed : exponent_has_digits xs (parts_of xs) ≡ true
    unfolding exponent_has_digits
    none_needed = rw e

    pub plain_up : up ≡ 0
    unfolding value_from
    plain_up = rw (e, stops) (ap (value_of 10) (between_none xs (fraction_to xs)))

    pub plain_down : reduced xs ≡ length (fraction_of xs)
    plain_down = rw e (add-zero (length (fraction_of xs)))

  -- with one
  module _ (e : is_exponent xs (fraction_to xs) ≡ true) where
    pub power_from : exponent_from xs ≡ past_sign xs (fraction_to xs + 1)
    power_from = rw (e, add-one)

    pub no_digits : exponent_to xs ≡ exponent_from xs → is_numeral xs ≡ true → ⊥
    unfolding exponent_has_digits
    no_digits s n = omega (arith, ltb-true (exponent_from xs) (exponent_to xs) (implied _ _ e ((tests_numeral xs).0 n).1.0))

    pub digits : (exponent_to xs ≡ exponent_from xs → ⊥) → exponent_has_digits xs (parts_of xs) ≡ true
    unfolding exponent_has_digits
    digits n = implies (is_exponent xs (fraction_to xs)) _ (lt-ltb (exponent_from xs) (exponent_to xs) (omega arith))

    pub negative : (b : Bool) → is_minus xs (fraction_to xs + 1) ≡ b → is_negative_exponent xs ≡ b
    negative b h = ap₂ ◌&&◌ e (ap (is_minus xs) (sym (add-one (fraction_to xs))) ∙ h)

  module _ (m : is_negative_exponent xs ≡ true) where
    pub lowered_up : up ≡ 0
    lowered_up = rw m

    pub lowered_down : reduced xs ≡ length (fraction_of xs) + value_of 10 (exponent_of xs)
    lowered_down = rw m

  module _ (m : is_negative_exponent xs ≡ false) where
    pub raised_up : up ≡ value_of 10 (exponent_of xs)
    raised_up = rw m

    pub raised_down : reduced xs ≡ length (fraction_of xs)
    raised_down = rw m (add-zero (length (fraction_of xs)))

  pub fraction_few : length (fraction_of xs) ≤ length xs
  fraction_few = omega (arith, digits_few xs (parts_of xs) refl, length-append (between xs (whole_from xs) (whole_to xs)) (fraction_of xs))

-- the value
module _ (xs : List ℕ) (at w behind : ℕ) (l : Led xs at w behind) (n : is_numeral xs ≡ true) where
  significand_few : significand xs ≤ most_exact
  significand_few =
      let ds = digits_of xs in
      let k = length ds - trailing ds in
      omega (arith, grows 10 (omega arith) (significand xs) (drop k ds), value_join 10 0 (take k ds) (drop k ds), ap (value_of 10) (take-append-drop k ds), l.value, l.below)

  in_exact : up xs ≤ reduced xs + most_raised → reduced xs ≤ up xs + most_exponent → InExact xs
  in_exact a b = go (ℕ_discrete (significand xs) 0)
    where
      zeros : trailing (digits_of xs) ≤ most_short
      zeros = omega (arith, trailing_few (digits_of xs), digits_few xs (parts_of xs) refl, l.few)

      go : Dec (significand xs ≡ 0) → InExact xs
      go (yes z) = inl (is_zero_holds xs z)
      go (no z) = inr (significand xs, raised xs, reduced xs, scaled xs z, (significand_few, (omega (arith, zeros), omega arith)))

  pub told_value : (u d : ℕ) → up xs ≡ u → reduced xs ≡ d → u ≤ d + most_raised → d ≤ u + most_exponent → decimal_of xs ≡ Exact (plain (nearest false w u d))
  unfolding nearest
  told_value u d p q a b =
      (decimal_given xs).2.1 (omega (arith, l.few), n, in_exact (omega (arith, p, q)) (omega (arith, p, q)))
      ∙ ap (λ (s : Bool). Exact (plain (round binary64 s (value_of 10 (digits_of xs) * 10 ^ up xs) (10 ^ reduced xs)))) (no_minus xs l.first)
      ∙ ap (λ (v : ℕ). Exact (plain (round binary64 false (v * 10 ^ up xs) (10 ^ reduced xs)))) (sym l.value)
      ∙ ap₂ (λ (i j : ℕ). Exact (plain (round binary64 false (w * 10 ^ i) (10 ^ j)))) p q

  pub told_scaled : (u d : ℕ) → up xs ≡ u → reduced xs ≡ d → Tells xs (scaled_short w u d)
  told_scaled u d p q =
      either (Tells xs) (leb u (d + most_raised) && leb d (u + most_exponent))
      (λ t. let h = (tests_and (tests_le u (d + most_raised)) (tests_le d (u + most_exponent))).0 t in told_value u d p q h.0 h.1)
      (λ t. tt)
