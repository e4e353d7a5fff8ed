-- A step for each unit says what the definition says. What is kept from step to step: the parts that were read and those that are still to be
-- read amount to what all do, and leave behind them what all do (`Reached`); a step reads the part of the next unit, if it is there.
use Prim.Native.Nat.{ℕ, ◌+◌, ◌*◌, ◌/◌, ◌%◌, ◌^◌, ◌<◌, ◌≤◌, min}
use native.Mathlib.Nat.{mul_assoc, mul-add, div-add-mod'}
use native.Mathlib.Omega.{arith}
use mathlib.Core.Bool.{Bool, true, false, cond, ◌&&◌, ◌||◌, or_assoc, or-false}
use mathlib.Core.List.{List, [], ◌∷◌}
use mathlib.Core.Path.{◌≡◌, refl, sym, ap, subst, ◌∙◌}
use lib.Dec.{eqb, ltb}
use lib.ListN.{length, drop, get_or}
use Rattle.std.proofs.Common.{map, add-one, drop-cons}
use Rattle.std.specs.Prelude.{None, Option, Some}
use Rattle.decimal.specs.Value.{most_told}
use Rattle.duration.specs.Unit.{Unit, units, second, year}
use Rattle.duration.specs.declared.units.Part.{Part}
use Rattle.duration.specs.Units.{is_part, part_end, part_value, behind, sum_by, most_counted, counted, has_oversized, is_unit_text, unit_sum, lasting, units_of}
use Rattle.duration.specs.declared.unit.Unit as code
use Rattle.duration.specs.declared.unit.Unit.TheVariants.{Year, Week, Day, Hour, Minute, Second, Milli}
use Rattle.duration.specs.steps.Units.{unit_of, part_of}
use Rattle.duration.proofs.units.Parts.{part_within, counted_told, over_told, counted_most, seconds_fit, millis_fit}

-- the parts of k units were looked for in a text, and those of the units are to be looked for in the rest
pub record Reached (xs : List ℕ) (us : List Unit) (k : ℕ) (rest : List ℕ) (secs millis : ℕ) (oversized : Bool) : Type 0 where
  pub left : behind us rest ≡ behind units xs
  pub sum : secs * second + millis + sum_by counted us rest ≡ unit_sum xs
  pub over : oversized || has_oversized us rest ≡ has_oversized units xs
  pub secs_few : secs ≤ k * 2 ^ 57
  pub millis_few : millis ≤ k * 2 ^ 57

pub begun : (xs : List ℕ) → Reached xs units 0 xs 0 0 false
begun xs = record { left = refl; sum = omega arith; over = refl; secs_few = omega arith; millis_few = omega arith }

-- n of a size: its seconds and what is over
parted : (n size : ℕ) → n * (size / second) * second + n * (size % second) ≡ n * size
parted n size =
    ap (λ (m : ℕ). m + n * (size % second)) (mul_assoc n (size / second) second) ∙ sym (mul-add n (size / second * second) (size % second)) ∙ ap (λ (m : ℕ). n * m) (div-add-mod' size second)

-- what a part is that was looked for
found : (ys : List ℕ) (u : Unit) → Bool → Option Part
found ys u b = cond b (Some (record { number = min most_told (part_value ys); size = part_end ys })) None

module _ (ys : List ℕ) (u : Unit) where
  none_found : None ≡ part_of ys u → is_part u.text ys ≡ false
  unfolding part_of found
  none_found e = go (is_part u.text ys) refl e
    where
      go : (b : Bool) → is_part u.text ys ≡ b → None ≡ found ys u b → is_part u.text ys ≡ false
      go true i e = let z : ⊥ = cc in absurd z
      go false i e = i

  module _ (p : Part) (e : Some p ≡ part_of ys u) where
    some_found : (is_part u.text ys ≡ true) × (p.number ≡ min most_told (part_value ys)) × (p.size ≡ part_end ys)
    unfolding part_of found
    some_found = go (is_part u.text ys) refl e
      where
        go : (b : Bool) → is_part u.text ys ≡ b → Some p ≡ found ys u b → (is_part u.text ys ≡ true) × (p.number ≡ min most_told (part_value ys)) × (p.size ≡ part_end ys)
        go true i e = (i, cc, cc)
        go false i e = let z : ⊥ = cc in absurd z

    pub part_inside : p.size ≤ length ys
    part_inside = omega (arith, some_found.2, part_within ys)

module _ {xs ys : List ℕ} {u : Unit} {us : List Unit} {k secs millis : ℕ} {oversized : Bool} (r : Reached xs (u ∷ us) k ys secs millis oversized) where
  abbrev rest : Bool → List ℕ
  rest b = cond b (drop (part_end ys) ys) ys

  abbrev n : ℕ
  n = counted (part_value ys)

  module _ (b : Bool) (e : is_part u.text ys ≡ b) where
    left_by : behind us (rest b) ≡ behind units xs
    unfolding behind
    left_by = rw (← e) r.left

    sum_by_part : sum_by counted (u ∷ us) ys ≡ cond b (n * u.size) 0 + sum_by counted us (rest b)
    unfolding sum_by
    sum_by_part = rw e

    over_by : has_oversized (u ∷ us) ys ≡ (b && ltb most_counted (part_value ys)) || has_oversized us (rest b)
    unfolding has_oversized
    over_by = rw e

  pub stepped : (p : Part) → u.size ≤ year → Some p ≡ part_of ys u
      → Reached xs us (k + 1) (drop p.size ys) (secs + counted p.number * (u.size / second)) (millis + counted p.number * (u.size % second)) (oversized || ltb most_counted p.number)
  stepped p h e =
      let f = some_found ys u p e in
      rw (f.1, f.2, counted_told (part_value ys), over_told (part_value ys)) (record {
        left = left_by true f.0;
        sum = omega (arith, r.sum, sum_by_part true f.0, parted n u.size);
        over =
            or_assoc oversized (ltb most_counted (part_value ys)) (has_oversized us (rest true))
            ∙ ap (λ (b : Bool). oversized || b) (sym (over_by true f.0))
            ∙ r.over;
        secs_few = omega (arith, r.secs_few, seconds_fit u.size n (counted_most (part_value ys)) h);
        millis_few = omega (arith, r.millis_few, millis_fit u.size n (counted_most (part_value ys)));
      })

  pub passed : None ≡ part_of ys u → Reached xs us (k + 1) ys secs millis oversized
  passed e =
      let i = none_found ys u e in
      record {
        left = left_by false i;
        sum = omega (arith, r.sum, sum_by_part false i);
        over = ap (λ (b : Bool). oversized || b) (sym (over_by false i)) ∙ r.over;
        secs_few = omega (arith, r.secs_few);
        millis_few = omega (arith, r.millis_few);
      }

-- the next of the units is no longer than a year
abbrev pub all : List code.Unit
all = Year ∷ Week ∷ Day ∷ Hour ∷ Minute ∷ Second ∷ Milli ∷ []

pub next : {xs ys : List ℕ} {secs millis : ℕ} {oversized : Bool} (i : ℕ) → i < 7 → Reached xs (map unit_of (drop i all)) i ys secs millis oversized
    → Reached xs (unit_of (get_or all i Year) ∷ map unit_of (drop (i + 1) all)) i ys secs millis oversized
next i l r = rw add-one (rw (drop-cons all i Year) at r)

pub unit_few : (u : code.Unit) → (unit_of u).size ≤ year
unit_few Year = omega arith
unit_few Week = omega arith
unit_few Day = omega arith
unit_few Hour = omega arith
unit_few Minute = omega arith
unit_few Second = omega arith
unit_few Milli = omega arith

-- with no unit left
module _ {xs ys : List ℕ} {i secs millis : ℕ} {oversized : Bool} (r : Reached xs (map unit_of (drop i all)) i ys secs millis oversized) (l : i ≤ 7) (m : 7 ≤ i) where
  ended : Reached xs [] 7 ys secs millis oversized
  ended = let e : i ≡ 7 = omega arith in subst (λ (n : ℕ). Reached xs (map unit_of (drop n all)) n ys secs millis oversized) e r

  tested : is_unit_text xs ≡ eqb (length ys) 0
  unfolding is_unit_text behind
  tested = ap (λ (zs : List ℕ). eqb (length zs) 0) (sym ended.left)

  sum_is : secs * second + millis ≡ unit_sum xs
  unfolding sum_by
  sum_is = omega (arith, ended.sum)

  over_is : oversized ≡ has_oversized units xs
  unfolding has_oversized
  over_is = sym (or-false oversized) ∙ ended.over

  pub no_units : eqb (length ys) 0 ≡ false → None ≡ units_of xs
  unfolding units_of
  no_units e = rw (tested, e)

  pub all_units : eqb (length ys) 0 ≡ true → Some (record { lasts = lasting (secs * second + millis); oversized = oversized }) ≡ units_of xs
  unfolding units_of
  all_units e = rw (tested, e, sum_is, over_is)
