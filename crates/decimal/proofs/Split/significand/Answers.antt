-- As many zeros as there are digits behind the point, or more: these are all zeros, and those before it are read without theirs. Fewer: all digits before the point are read, and those behind it without theirs.
use Prim.Native.Nat.{ℕ, ◌+◌, ◌-◌, ◌<◌, ◌≤◌, min}
use native.Mathlib.Omega.{arith}
use mathlib.Core.Bool.{Bool, true, false}
use mathlib.Core.List.{List, ◌++◌}
use mathlib.Core.Path.{◌≡◌, refl, sym, ap, ap₂, ◌∙◌}
use lib.ListN.{length}
use Rattle.scan.specs.Digits.{value_from, value_of}
use Rattle.decimal.specs.declared.Parts.{Parts}
use Rattle.decimal.specs.Grammar.{between}
use Rattle.decimal.specs.Value.{most_told}
use Rattle.decimal.specs.steps.Scale.{is_zeros, trailing, trimmed}
use Rattle.decimal.proofs.Runs.{capped_on, value_join}
use Rattle.decimal.proofs.Places.{Ordered, ordered, whole_in, fraction_in, behind_in, whole_long, fraction_long, digits_are}
use Rattle.decimal.proofs.Zeros.{trailing_few, not_all, trailing_first, trailing_last, trimmed_first, trimmed_both, trimmed_between}
use Rattle.decimal.proofs.Split.significand.Goals as goal
use Rattle.decimal.proofs.Split.significand.Goals.{After-value_between-whole, Else-behind-zeros, Start}

module _ (c : Start) where
  abbrev xs : List ℕ
  xs = c.args.self.text.now

  abbrev p : Parts
  p = c.args.self.parts

  abbrev zeros : ℕ
  zeros = c.args.zeros

  in_order : Ordered xs p
  in_order = ordered xs p c.args.self.lies

  abbrev whole : List ℕ
  whole = whole_in xs p

  abbrev fraction : List ℕ
  fraction = fraction_in xs p

  long : length fraction ≡ behind_in xs p
  long = fraction_long xs p c.args.self.lies

  whole_few : trailing whole ≤ p.whole_to - p.whole_from
  whole_few = omega (arith, trailing_few whole, whole_long xs p c.args.self.lies)

  counted : zeros ≡ trailing (whole ++ fraction)
  counted = c.requires ∙ ap trailing (sym (digits_are xs p c.args.self.lies))

  -- as many zeros as there are digits behind the point, or fewer
  first : behind_in xs p ≤ zeros → (is_zeros fraction ≡ true) × (zeros ≡ behind_in xs p + trailing whole)
  first h = go (is_zeros fraction) refl
    where
      go : (b : Bool) → is_zeros fraction ≡ b → (is_zeros fraction ≡ true) × (zeros ≡ behind_in xs p + trailing whole)
      go true e = (e, omega (arith, counted, trailing_first whole fraction e, long))
      go false e = let f : ⊥ = omega (arith, counted, trailing_last whole fraction e, long, not_all fraction e) in absurd f

  second : zeros < behind_in xs p → (is_zeros fraction ≡ false) × (zeros ≡ trailing fraction)
  second h = go (is_zeros fraction) refl
    where
      go : (b : Bool) → is_zeros fraction ≡ b → (is_zeros fraction ≡ false) × (zeros ≡ trailing fraction)
      go true e = let f : ⊥ = omega (arith, counted, trailing_first whole fraction e, long) in absurd f
      go false e = (e, omega (arith, counted, trailing_last whole fraction e))

pub overflow_sub-p : goal.overflow_sub-p
overflow_sub-p c = let s = (goal.at.overflow_sub-p c).Start in omega (arith, (first s c.if-behind-zeros.true).1, (in_order s).whole, whole_few s)

pub value_between-requires : goal.value_between-requires
value_between-requires c =
    let s = (goal.at.value_between-requires c).Start in
    let o = in_order s in
    (omega (arith, (first s c.if-behind-zeros.true).1, o.whole, whole_few s), omega (arith, o.whole_in_holds))

pub returns-then-behind-zeros : goal.returns-then-behind-zeros
returns-then-behind-zeros c =
    let s = (goal.at.returns-then-behind-zeros c).Start in
    let o = in_order s in
    let f = first s c.if-behind-zeros.true in
    let k : zeros s - behind_in (xs s) (p s) ≡ trailing (whole s) = omega (arith, f.1) in
    c.value_between.ensures
    ∙ ap (λ (n : ℕ). min most_told (value_of 10 (between (xs s) (p s).whole_from ((p s).whole_to - n)))) k
    ∙ ap (λ (ys : List ℕ). min most_told (value_of 10 ys)) (sym (ap trimmed (sym (digits_are (xs s) (p s) s.args.self.lies)) ∙ trimmed_first (whole s) (fraction s) f.0 ∙ trimmed_between (xs s) (p s).whole_from (p s).whole_to o.whole o.whole_in_holds))

pub value_between-whole-requires : goal.value_between-whole-requires
value_between-whole-requires c = let o = in_order (goal.at.value_between-whole-requires c).Start in (o.whole, o.whole_in_holds)

fraction_few : (c : After-value_between-whole) → let s = (goal.at.After-value_between-whole c).Start in zeros s ≤ behind_in (xs s) (p s)
fraction_few c = let s = (goal.at.After-value_between-whole c).Start in omega (arith, (second s c.if-behind-zeros.false).1, trailing_few (fraction s), long s)

pub value_between-requires-2 : goal.value_between-requires-2
value_between-requires-2 c =
    let e = (goal.at.value_between-requires-2 c).After-value_between-whole in
    let o = in_order (goal.at.After-value_between-whole e).Start in
    (omega (arith, fraction_few e, o.fraction), omega (arith, o.fraction_in_holds))

pub returns : goal.returns
returns c =
    let e = (goal.at.returns c).Else-behind-zeros in
    let s = (goal.at.Else-behind-zeros e).Start in
    let o = in_order s in
    let g = second s e.if-behind-zeros.false in
    let rest = between (xs s) (p s).fraction_from ((p s).fraction_to - trailing (fraction s)) in
    c.value_between-2.ensures
    ∙ ap₂ (λ (v n : ℕ). min most_told (value_from 10 v (between (xs s) (p s).fraction_from ((p s).fraction_to - n)))) c.value_between-whole.ensures g.1
    ∙ capped_on 10 (omega arith) most_told (value_of 10 (whole s)) rest
    ∙ ap (min most_told) (sym (value_join 10 0 (whole s) rest))
    ∙ ap (λ (ys : List ℕ). min most_told (value_of 10 ys))
    (sym (ap trimmed (sym (digits_are (xs s) (p s) s.args.self.lies)) ∙ trimmed_both (whole s) (fraction s) g.0 ∙ ap (λ (ys : List ℕ). whole s ++ ys) (trimmed_between (xs s) (p s).fraction_from (p s).fraction_to o.fraction o.fraction_in_holds)))
