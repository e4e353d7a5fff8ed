-- Behind a unit, and its s, the end ends a duration, and behind digits it fails, as `turn_of` says of the end.
use Rattle.std.proofs.Common.{◌≡◌, ℕ, ◌≤◌, List, [], length, drop, refl, sym, ap, ◌∙◌, inl, inr, arith}
use lib.ListN.{drop_of_length-le}
use Rattle.scan.specs.Byte.{is_alpha, is_within}
use Rattle.numeral.specs.declared.Part.{Part}
use Rattle.numeral.specs.declared.Part.TheVariants.{Unit, UnitS, Digits}
use Rattle.numeral.specs.declared.Numeral.{Numeral}
use Rattle.numeral.specs.declared.Numeral.TheVariants.{Duration, Neither}
use Rattle.numeral.specs.Numeral.{is_unit, stop_of, turn_of, duration_from}
use Rattle.numeral.proofs.duration.Goals as goal

abbrev ended : Part → ℕ → Numeral
ended Unit n = Duration n
ended UnitS n = Duration n
ended Digits n = Neither n

at_end : (p : Part) (n : ℕ) → duration_from p n [] ≡ ended p n
unfolding duration_from turn_of stop_of is_unit is_alpha is_within
at_end Unit n = refl
at_end UnitS n = refl
at_end Digits n = refl

ends : (p : Part) (n : ℕ) (xs : List ℕ) → n ≤ length xs → length xs ≤ n → duration_from p n (drop n xs) ≡ ended p (length xs)
ends p n xs h k = rw (drop_of_length-le xs) (at_end p n ∙ ap (ended p) (omega arith))

pub returns-in-Digits : goal.returns-in-Digits
returns-in-Digits c = sym (c.loop-n.invariant ∙ ends _ _ _ (omega arith) (omega arith) ∙ rw c.in-Digits.is)

pub returns-in-Unit : goal.returns-in-Unit
returns-in-Unit c = sym (c.loop-n.invariant ∙ ends _ _ _ (omega arith) (omega arith) ∙ elim c.in-Unit.is [ inl e ↦ rw e | inr e ↦ rw e ])
