-- A part lies within its text, and counts for so little that seven of them fit: a number of 32 bits, times a year's seconds at most.
use Prim.Native.Nat.{ℕ, ◌*◌, ◌/◌, ◌%◌, ◌^◌, ◌≤◌, min}
use native.Mathlib.Decide.{dec_le}
use native.Mathlib.Nat.{mul-le-mul_right, mul-le-mul_left}
use native.Mathlib.Omega.{arith}
use mathlib.Core.List.{List}
use mathlib.Core.Path.{◌≡◌, sym, ap}
use lib.Dec.{leb, ltb}
use lib.ListN.{length, take}
use lib.Seq.{length-take-le}
use borrow.Author.Tests.{lt-leb, lt-ltb, leb-true}
use Rattle.scan.specs.declared.byte.Class.TheVariants.{Digit, Alpha}
use Rattle.scan.specs.Byte.{is_in}
use Rattle.proving.proofs.Choice.{either}
use Rattle.scan.proofs.Runs.{run_within}
use Rattle.duration.specs.Unit.{second, year}
use Rattle.decimal.specs.Value.{most_told}
use Rattle.duration.specs.Units.{digits_end, part_end, most_counted, counted}

pub digits_within_text : (ys : List ℕ) → digits_end ys ≤ length ys
digits_within_text ys = omega (arith, run_within (is_in Digit) ys 0)

pub digits_taken : (ys : List ℕ) → digits_end ys ≡ length (take (digits_end ys) ys)
digits_taken ys = sym (length-take-le (digits_end ys) ys (digits_within_text ys))

pub part_within : (ys : List ℕ) → part_end ys ≤ length ys
part_within ys = omega (arith, digits_within_text ys, run_within (is_in Alpha) ys (digits_end ys))

-- what is told apart only so far counts for nothing either way
pub counted_told : (v : ℕ) → counted (min most_told v) ≡ counted v
unfolding counted
counted_told v = go (dec_le v most_told)
  where
    go : Dec (v ≤ most_told) → counted (min most_told v) ≡ counted v
    go (yes l) = let k : min most_told v ≡ v = omega arith in ap counted k
    go (no l) = rw (lt-leb v most_counted (omega arith), lt-leb (min most_told v) most_counted (omega arith))

-- nor is it oversized in one way and not in the other
pub over_told : (v : ℕ) → ltb most_counted (min most_told v) ≡ ltb most_counted v
over_told v = go (dec_le v most_told)
  where
    go : Dec (v ≤ most_told) → ltb most_counted (min most_told v) ≡ ltb most_counted v
    go (yes l) = let k : min most_told v ≡ v = omega arith in ap (ltb most_counted) k
    go (no l) = rw (lt-ltb most_counted v (omega arith), lt-ltb most_counted (min most_told v) (omega arith))

pub counted_most : (v : ℕ) → counted v ≤ most_counted
unfolding counted
counted_most v = either (λ n. n ≤ most_counted) (leb v most_counted) (λ e. leb-true v most_counted e) (λ e. omega arith)

module _ (v n : ℕ) (h : n ≤ most_counted) where
  pub seconds_fit : v ≤ year → n * (v / second) ≤ 2 ^ 57
  seconds_fit l = let k : v / second ≤ 31536000 = omega arith in omega (arith, mul-le-mul_left n k, mul-le-mul_right 31536000 h)

  pub millis_fit : n * (v % second) ≤ 2 ^ 57
  millis_fit = let k : v % second ≤ 999 = omega arith in omega (arith, mul-le-mul_left n k, mul-le-mul_right 999 h)
