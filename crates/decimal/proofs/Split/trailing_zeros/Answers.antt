-- Where the digits behind the point are all zeros those before it count on (`trailing_join`).
use Prim.Native.Nat.{ℕ, ◌+◌}
use native.Mathlib.Omega.{arith}
use mathlib.Core.List.{List}
use mathlib.Core.Path.{◌≡◌, sym, ap, ◌∙◌}
use Rattle.std.proofs.lemmas.Bool.{false_from_ne_true}
use Rattle.decimal.specs.declared.Parts.{Parts}
use Rattle.decimal.specs.Grammar.{parts_of, digits_of}
use Rattle.decimal.specs.steps.Scale.{trailing}
use Rattle.decimal.proofs.Places.{ordered, whole_in, fraction_in, behind_in, fraction_long, digits_are}
use Rattle.decimal.proofs.Zeros.{all_is, all_zeros, trailing_first, trailing_last}
use Rattle.decimal.proofs.Split.trailing_zeros.Goals as goal

module _ (xs : List ℕ) (p : Parts) (e : p ≡ parts_of xs) (z : ℕ) (f : z ≡ trailing (fraction_in xs p)) where
  all : (w : ℕ) → w ≡ trailing (whole_in xs p) → z ≡ behind_in xs p → z + w ≡ trailing (digits_of xs)
  all w g t =
      let k = trailing_first (whole_in xs p) (fraction_in xs p) (all_is (fraction_in xs p) (sym f ∙ t ∙ sym (fraction_long xs p e))) in
      omega (arith, f, g, t, k, fraction_long xs p e, ap trailing (digits_are xs p e))

  some : (z ≡ behind_in xs p → ⊥) → z ≡ trailing (digits_of xs)
  some n =
      let k = false_from_ne_true _ (λ t. n (f ∙ all_zeros (fraction_in xs p) t ∙ fraction_long xs p e)) in
      f ∙ sym (trailing_last (whole_in xs p) (fraction_in xs p) k) ∙ ap trailing (digits_are xs p e)

pub slice_bounds-zeros_at_end-end : goal.slice_bounds-zeros_at_end-end
slice_bounds-zeros_at_end-end c = omega (arith, (ordered c.args.self.text.now c.args.self.parts c.args.self.lies).fraction_in_holds)

pub slice_bounds-zeros_at_end-end-then-zeros-p : goal.slice_bounds-zeros_at_end-end-then-zeros-p
slice_bounds-zeros_at_end-end-then-zeros-p c = omega (arith, (ordered c.args.self.text.now c.args.self.parts c.args.self.lies).whole_in_holds)

pub returns-then-zeros-p : goal.returns-then-zeros-p
returns-then-zeros-p c = all c.args.self.text.now c.args.self.parts c.args.self.lies _ c.zeros_at_end-zeros.ensures.value _ c.zeros_at_end.ensures.value c.if-zeros-p.true

pub returns : goal.returns
returns c = some c.args.self.text.now c.args.self.parts c.args.self.lies _ c.zeros_at_end-zeros.ensures.value c.if-zeros-p.false
