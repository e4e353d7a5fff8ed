-- What is read is the text's digits, before the point and behind it. Where the text ends there, it is a numeral in the exact range.
use Prim.Native.Nat.{ℕ, ◌-◌, ◌≤◌}
use native.Mathlib.Omega.{arith}
use mathlib.Core.Bool.{true}
use mathlib.Core.List.{List}
use mathlib.Core.Path.{◌≡◌, sym, ap, ap₂, ◌∙◌}
use lib.Dec.{eqb}
use lib.Ieee.{Float}
use lib.ListN.{length}
use Rattle.proving.proofs.Choice.{either}
use Rattle.scan.specs.declared.byte.Class.TheVariants.{Digit}
use Rattle.scan.specs.Byte.{peek_at, is_in}
use Rattle.scan.specs.Digits.{value_of}
use Rattle.scan.proofs.Runs.{run_passes}
use Rattle.decimal.specs.declared.Decimal.TheVariants.{Exact}
use Rattle.decimal.specs.declared.short.Digits.{Digits}
use Rattle.decimal.specs.Grammar.{past_point, whole_from, whole_to, fraction_from, fraction_to, fraction_of, between}
use Rattle.decimal.specs.Value.{plain}
use Rattle.decimal.specs.steps.Short.{most_short, digits_from, Led}
use Rattle.decimal.proofs.Runs.{value_join}
use Rattle.decimal.proofs.Zeros.{between_long}
use Rattle.decimal.proofs.Places.{point_within, digits_within_text, fraction_within}
use Rattle.decimal.proofs.short.Walks.{further}
use Rattle.decimal.proofs.short.Told.{from_start, some, past_end, no_power, none_needed, plain_up, plain_down, fraction_few, told_value}
use Rattle.decimal.proofs.short.read_short.Goals as goal
use Rattle.decimal.proofs.short.read_short.Goals.{After-digits_from-all, After-digits_from-whole}

point_past : (xs : List ℕ) (at : ℕ) → at ≤ past_point xs at
point_past xs at = either (λ n. at ≤ n) (eqb (peek_at xs at) 46) (λ e. omega arith) (λ e. omega arith)

-- the digits before the point
module _ (c : After-digits_from-whole) where
  abbrev xs : List ℕ
  xs = c.args.s.now

  abbrev before_point : Digits
  before_point = c.digits_from-whole.result

  short : length xs ≤ most_short
  short = omega (arith, c.if-s-gt-MOST_SHORT.false)

  first_end : before_point.end ≤ length xs
  first_end = omega (arith, ap (λ (d : Digits). d.end) c.digits_from-whole.ensures.0, digits_within_text xs 0 (omega arith))

  module _ (n : before_point.end ≡ 0 → ⊥) where
    first : is_in Digit (peek_at xs 0) ≡ true
    first = run_passes (is_in Digit) xs 0 0 (omega arith) (omega (arith, n, ap (λ (d : Digits). d.end) c.digits_from-whole.ensures.0))

    whole_is : before_point ≡ digits_from xs (whole_from xs) 0
    whole_is = c.digits_from-whole.ensures.0 ∙ ap (λ (n : ℕ). digits_from xs n 0) (sym (from_start xs first))

pub past_point-point-requires : goal.past_point-point-requires
past_point-point-requires c = first_end (goal.at.past_point-point-requires c).After-digits_from-whole

pub digits_from-all-requires : goal.digits_from-all-requires
digits_from-all-requires c =
    let d = (goal.at.digits_from-all-requires c).After-digits_from-whole in
    let x = xs d in
    let w = before_point d in
    (omega (arith, c.past_point-point.ensures, point_within x w.end (first_end d)), short d, further w.value w.end c.past_point-point.result d.digits_from-whole.ensures.1 (omega (arith, c.past_point-point.ensures, point_past x w.end)))

-- all digits
module _ (c : After-digits_from-all) where
  abbrev d : After-digits_from-whole
  d = (goal.at.After-digits_from-all c).After-digits_from-whole

  abbrev text : List ℕ
  text = xs d

  abbrev all : Digits
  all = c.digits_from-all.result

  abbrev point : ℕ
  point = c.past_point-point.result

  begins : (before_point d).end ≡ 0 → ⊥
  begins = c.if-whole-eq0.false

  point_is : point ≡ fraction_from text
  point_is = c.past_point-point.ensures ∙ ap (λ (e : Digits). past_point text e.end) (whole_is d begins)

  all_is : all ≡ digits_from text (fraction_from text) (value_of 10 (between text (whole_from text) (whole_to text)))
  all_is = c.digits_from-all.ensures.0 ∙ ap₂ (digits_from text) point_is (ap (λ (e : Digits). e.value) (whole_is d begins))

  end_is : all.end ≡ fraction_to text
  end_is = ap (λ (e : Digits). e.end) all_is

  behind_is : all.end - point ≡ length (fraction_of text)
  behind_is = omega (arith, end_is, point_is, between_long text (fraction_from text) (fraction_to text) (omega arith) (fraction_within text))

  led : Led text all.end all.value (all.end - point)
  led = record {
    few = short d;
    first = first d begins;
    ends = end_is;
    value = ap (λ (e : Digits). e.value) all_is ∙ sym (value_join 10 0 (between text (whole_from text) (whole_to text)) (fraction_of text));
    below = further all.value all.end most_short c.digits_from-all.ensures.1 (omega (arith, end_is, fraction_within text, short d));
    fraction = behind_is;
  }

pub magnitude-requires : goal.magnitude-requires
magnitude-requires c =
    let a = (goal.at.magnitude-requires c).After-digits_from-all in
    (omega (arith, (led a).below), omega arith, omega (arith, (led a).fraction, fraction_few (text a), (led a).few))

pub returns-then-all-s : goal.returns-then-all-s
returns-then-all-s c =
    let a = (goal.at.returns-then-all-s c).After-digits_from-all in
    let x = text a in
    let l = led a in
    let t : fraction_to x ≡ length x = sym (end_is a) ∙ c.if-all-s.true in
    let e = past_end x t in
    told_value x (all a).end (all a).value ((all a).end - point a) l (some x l.first (none_needed x e) (no_power x e ∙ t)) 0 ((all a).end - point a) (plain_up x e)
    (plain_down x e ∙ sym l.fraction) (omega arith) (omega (arith, l.fraction, fraction_few x, l.few))
    ∙ ap (λ (v : Float). Exact (plain v)) (sym c.magnitude.ensures)

pub with_exponent-requires : goal.with_exponent-requires
with_exponent-requires c =
    let a = (goal.at.with_exponent-requires c).After-digits_from-all in
    (led a, omega (arith, c.if-all-s.false, end_is a, fraction_within (text a)))
