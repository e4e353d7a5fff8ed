-- `duration::span::from_secs_f64` meets its contract.
use mathlib.Core.Path.{◌≡◌, sym, ap, subst, ◌∙◌}
use Prim.Native.Nat.{ℕ, ◌+◌, ◌*◌, ◌/◌, ◌%◌, ◌^◌, ◌<◌, ◌≤◌}
use native.Mathlib.Nat.{zero-add, lt_of_lt_of_le, mod-lt}
use lib.Dec.{T, lit<}
use lib.Pow.{pow_pos, pow_mono}
use lib.Ieee.{of_bits, le, lt}
use lib.Ieee.Exact.{HasValue}
use lib.Ieee.Nearest.{closest}
use mathlib.Core.Bool.{false}
use Rattle.std.specs.Prelude.{Some}
use Rattle.duration.specs.Spans.{duration_at, from_secs, nanos_of, least_timed, two_to64}
use Rattle.duration.proofs.span.Spans.{too_long_holds, negative, accepted, above_nought, tiny, by_value, by_parts, at_most_a_second, carry}
use Rattle.duration.proofs.span.from_secs_f64.Goals as goal
use Rattle.duration.proofs.span.from_secs_f64.Goals.{After-dyadic_of-digits, After-nanos-then-x-2, After-pow2-unit, Then-shift-gt63, Then-x-2}

-- ---- where both tests passed
in_time : (c : Then-x-2) → T (lt c.args.x two_to64)
unfolding of_bits
in_time c = subst T (sym c.if-x.true) tt

enough : (c : Then-x-2) → T (le least_timed c.args.x)
unfolding of_bits
enough c = subst T (sym c.if-x-2.true) tt

accept : (c : Then-x-2) → Some (duration_at (nanos_of c.args.x)) ≡ from_secs c.args.x
unfolding of_bits
accept c = accepted c.args.x c.if-x.true (above_nought c.args.x (enough c))

pub dyadic_of-digits-requires : goal.dyadic_of-digits-requires
dyadic_of-digits-requires c = record {
  timed = enough c;
  below = in_time c;
}

-- ---- less than a second
small : (c : Then-shift-gt63) → c.dyadic_of-digits.result.digits < 2 ^ c.dyadic_of-digits.result.shift
small c = lt_of_lt_of_le c.dyadic_of-digits.ensures.digits_fit (pow_mono c.if-shift-gt63.true)

pub nanos-requires : goal.nanos-requires
nanos-requires c = record {
  proper = small c;
  shift_fits = c.dyadic_of-digits.ensures.shift_fits;
}

pub whole-requires : goal.whole-requires
whole-requires c =
    let p = c.dyadic_of-digits.result in
    record {
      within_second = subst (λ (n : ℕ). n ≤ 1000000000) (sym c.nanos.ensures) (at_most_a_second p.digits (2 ^ p.shift) (pow_pos p.shift) (small (goal.at.whole-requires c).Then-shift-gt63));
      fits = λ e. lit< tt;
    }

pub returns-then-shift-gt63 : goal.returns-then-shift-gt63
returns-then-shift-gt63 c =
    let at = (goal.at.returns-then-shift-gt63 c).After-dyadic_of-digits in
    let p = at.dyadic_of-digits.result in
    ap Some
    (c.whole.ensures
    ∙ ap duration_at (zero-add _ ∙ c.nanos.ensures ∙ by_value at.args.x p.digits (2 ^ p.shift) (pow_pos p.shift) at.dyadic_of-digits.ensures.value))
    ∙ accept (goal.at.After-dyadic_of-digits at).Then-x-2

-- ---- a second or more
divides : (c : After-pow2-unit) → 0 < c.pow2-unit.result
divides c = subst (λ (n : ℕ). 0 < n) (sym c.pow2-unit.ensures) (pow_pos _)

pub nanos-requires-then-x-2 : goal.nanos-requires-then-x-2
nanos-requires-then-x-2 c =
    let at = (goal.at.nanos-requires-then-x-2 c).After-dyadic_of-digits in
    record {
      proper = subst (λ (n : ℕ). at.dyadic_of-digits.result.digits % c.pow2-unit.result < n) c.pow2-unit.ensures (mod-lt at.dyadic_of-digits.result.digits (divides c));
      shift_fits = at.dyadic_of-digits.ensures.shift_fits;
    }

-- the nanoseconds, over the divisor as the code has it
nanos_are : (c : After-nanos-then-x-2) → c.nanos-then-x-2.result ≡ closest (c.dyadic_of-digits.result.digits % c.pow2-unit.result * 1000000000) c.pow2-unit.result
nanos_are c =
    let d = c.dyadic_of-digits.result.digits in
    c.nanos-then-x-2.ensures ∙ ap (closest (d % c.pow2-unit.result * 1000000000)) (sym c.pow2-unit.ensures)

pub whole-requires-then-x-2 : goal.whole-requires-then-x-2
whole-requires-then-x-2 c =
    let d = c.dyadic_of-digits.result.digits in
    let b = c.pow2-unit.result in
    let B = divides (goal.at.whole-requires-then-x-2 c).After-pow2-unit in record {
      within_second = subst (λ (n : ℕ). n ≤ 1000000000) (sym (nanos_are c)) (at_most_a_second (d % b) b B (mod-lt d B));
      fits = carry d b c.nanos-then-x-2.result B c.dyadic_of-digits.ensures.digits_fit (nanos_are c);
    }

pub returns-then-x-2 : goal.returns-then-x-2
returns-then-x-2 c =
    let at = (goal.at.returns-then-x-2 c).After-dyadic_of-digits in
    let d = at.dyadic_of-digits.result.digits in
    let b = c.pow2-unit.result in
    let B = divides (goal.at.returns-then-x-2 c).After-pow2-unit in
    let v = subst (λ (n : ℕ). HasValue at.args.x false d n) (sym c.pow2-unit.ensures) at.dyadic_of-digits.ensures.value in
    ap Some
    (c.whole-then-x-2.ensures
    ∙ ap duration_at (ap (λ (n : ℕ). d / b * 1000000000 + n) (nanos_are (goal.at.returns-then-x-2 c).After-nanos-then-x-2) ∙ by_parts d b B ∙ by_value at.args.x d b B v))
    ∙ accept (goal.at.After-dyadic_of-digits at).Then-x-2

-- ---- none, and the refusals
pub returns-then-x-3 : goal.returns-then-x-3
unfolding of_bits
returns-then-x-3 c =
    let x = c.args.x in
    ap (λ (n : ℕ). Some (duration_at n)) (sym (tiny x c.if-x.true c.if-x-2.false c.if-x-3.true))
    ∙ accepted x c.if-x.true c.if-x-3.true

pub returns-else-x-3 : goal.returns-else-x-3
unfolding of_bits
returns-else-x-3 c = negative c.args.x c.if-x.true c.if-x-3.false

pub returns-else-x : goal.returns-else-x
unfolding of_bits
returns-else-x c = too_long_holds c.args.x c.if-x.false
