-- What is told apart only so far is still no signed integer, so an integer is read as it was told.
use Rattle.std.specs.Prelude.{None, Option, Some}
use Rattle.std.proofs.Common.{◌≡◌, ℕ, ◌-◌, ◌^◌, ◌<◌, ◌≤◌, min, Bool, true, false, sym, refl, ap, ◌∙◌, List, arith}
use native.Mathlib.Decide.{dec_le}
use borrow.Author.Tests.{lt-leb}
use Rattle.decimal.specs.declared.Notation.{Notation}
use Rattle.decimal.specs.Value.{most_told}
use Rattle.number.specs.declared.Integer.{Integer}
use Rattle.number.specs.Signed.{is_i64}
use Rattle.number.specs.Integer.{integer_of, told_of}
use Rattle.number.specs.Number.{integer_by, integer_read}

module _ (n : Notation) (outer : Bool) where
  far : (s : Bool) (v : ℕ) → 2 ^ 63 < v → is_i64 s v ≡ false
  unfolding is_i64
  far true v h = lt-leb v (2 ^ 63) h
  far false v h = lt-leb v (2 ^ 63 - 1) (omega arith)

  told_same : (i : Option Integer) → integer_by n outer (told_of i) ≡ integer_by n outer i
  told_same None = refl
  told_same (Some i) = go (dec_le i.magnitude most_told)
    where
      go : Dec (i.magnitude ≤ most_told) → integer_by n outer (told_of (Some i)) ≡ integer_by n outer (Some i)
      go (yes l) = let k : min most_told i.magnitude ≡ i.magnitude = omega arith in ap (λ (m : ℕ). integer_by n outer (Some (record { negative = i.negative; magnitude = m }))) k
      go (no l) = rw (far i.negative i.magnitude (omega arith), far i.negative (min most_told i.magnitude) (omega arith))

  pub told_read : (ys : List ℕ) (i : Option Integer) → i ≡ told_of (integer_of n ys) → integer_read n outer ys ≡ integer_by n outer i
  told_read ys i e = sym (told_same (integer_of n ys)) ∙ ap (integer_by n outer) (sym e)
