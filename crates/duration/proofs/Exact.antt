-- How the exact reading stands to the present one: they part where a text is refused with 55, and nowhere else (`parted`). A text with a part above
-- 4,294,967,295 is one that counts a part as nothing, since every unit has some milliseconds (`total_less`).
use Prim.Native.Nat.{ℕ, ◌<◌, ◌≤◌}
use native.Mathlib.Nat.{mul-le-mul_right}
use native.Mathlib.Decide.{dec_lt}
use native.Mathlib.Omega.{arith}
use mathlib.Core.Bool.{Bool, true, false, cond}
use mathlib.Core.List.{List, [], ◌∷◌}
use mathlib.Core.Logic.{◌⊎◌, inl, inr}
use mathlib.Core.Path.{◌≡◌, refl, sym, ap, ◌∙◌}
use lib.Dec.{eqb}
use lib.ListN.{length}
use borrow.Author.Tests.{le-leb, lt-leb}
use Rattle.utf8.specs.declared.Refusal.{Refusal}
use Rattle.duration.specs.declared.span.Duration.{Duration}
use Rattle.utf8.specs.declared.CharNumber.{CharNumber}
use Rattle.std.specs.Prelude.{Err, None, Ok, Option, Result, Some}
use Rattle.proving.proofs.Choice.{told}
use Rattle.proving.proofs.Tests.{denied}
use Rattle.scan.specs.Ascii.{ascii}
use Rattle.scan.specs.Text.{same_text}
use Rattle.utf8.specs.Answers.{admitted}
use Rattle.decimal.specs.declared.Decimal.{Decimal}
use Rattle.decimal.specs.declared.Decimal.TheVariants.{NotDecimal, Named, Exact, Outside}
use Rattle.decimal.specs.Value.{decimal_limit, decimal_of}
use Rattle.duration.specs.declared.Oversized.TheVariants as oversized
use Rattle.duration.specs.declared.units.Sum.{Sum}
use Rattle.duration.specs.Unit.{Unit, units}
use Rattle.duration.specs.Units.{sum_by, most_counted, counted, has_oversized, lasting, units_of}
use Rattle.duration.specs.Duration.{empty_text, zero_duration, oversized_part, units_read, timed_decimal, duration_read, timing_for, timing_by, timing_of, exact_timing_of}
use Rattle.duration.specs.laws.Refusals.{Read, UnitText, SecondsAre, UnitsAre}
use Rattle.duration.specs.laws.Spelling.{PartsOf, end, none, one, total_of, SomeAbove}
use Rattle.duration.specs.laws.Exact.{ExactAgrees, ExactElse, CountsNothing, ExactRefuses, AllCounted}
use Rattle.duration.proofs.Given.{timing_given}
use Rattle.duration.proofs.units.Spelling.{units_spelled, parts_taken}

-- what a number counts for
counted_same : (v : ℕ) → (most_counted < v → ⊥) → counted v ≡ v
unfolding counted
counted_same v n = rw (le-leb v most_counted (omega (arith, n)))

counted_none : (v : ℕ) → most_counted < v → counted v ≡ 0
unfolding counted
counted_none v l = rw (lt-leb v most_counted l)

counted_few : (v : ℕ) → counted v ≤ v
counted_few v = go (dec_lt most_counted v)
  where
    go : Dec (most_counted < v) → counted v ≤ v
    go (yes l) = omega (arith, counted_none v l)
    go (no n) = omega (arith, counted_same v n)

-- and the parts of a text
pub total_same : (ps : List (ℕ × ℕ)) → (SomeAbove most_counted ps → ⊥) → total_of counted ps ≡ total_of (λ v. v) ps
total_same [] n = refl
total_same (p ∷ ps) n = rw (counted_same p.0 (λ l. n (inl l)), total_same ps (λ a. n (inr a)))

total_most : (ps : List (ℕ × ℕ)) → total_of counted ps ≤ total_of (λ v. v) ps
total_most [] = omega arith
total_most (p ∷ ps) = omega (arith, mul-le-mul_right p.1 (counted_few p.0), total_most ps)

abbrev Sized : List (ℕ × ℕ) → Type 0
Sized [] = Prim.Unit {0}
Sized (p ∷ ps) = (0 < p.1) × Sized ps

total_less : (ps : List (ℕ × ℕ)) → Sized ps → SomeAbove most_counted ps → total_of counted ps < total_of (λ v. v) ps
total_less [] z a = absurd a
total_less (p ∷ ps) z (inl l) =
    let m : 1 ≤ p.0 = omega arith in
    rw (counted_none p.0 l) (omega (arith, mul-le-mul_right p.1 m, z.0, total_most ps))
total_less (p ∷ ps) z (inr a) = omega (arith, mul-le-mul_right p.1 (counted_few p.0), total_less ps z.1 a)

abbrev Positive : List Unit → Type 0
Positive [] = Prim.Unit {0}
Positive (u ∷ us) = (0 < u.size) × Positive us

sized : {us : List Unit} {xs : List ℕ} {ps : List (ℕ × ℕ)} → PartsOf us xs ps → Positive us → Sized ps
sized end z = tt
sized (none u us xs ps s) z = sized s z.1
sized (one u us ds xs ps d s) z = (z.0, sized s z.1)

positive : Positive units
positive = (omega arith, (omega arith, (omega arith, (omega arith, (omega arith, (omega arith, (omega arith, tt)))))))

-- a part is above exactly where one counts for nothing
module _ (xs : List ℕ) (u : UnitText xs) where
  less : has_oversized units xs ≡ true → CountsNothing xs
  less e =
      let (ps, s) = (units_spelled xs).0 u.1 in
      let t = parts_taken xs ps s in
      omega (arith, total_less ps (sized s positive) (t.1.0 e), t.0 counted, t.0 (λ v. v))

  over : CountsNothing xs → has_oversized units xs ≡ true
  over c = go (has_oversized units xs) refl
    where
      go : (b : Bool) → has_oversized units xs ≡ b → b ≡ true
      go true e = refl
      go false e =
          let (ps, s) = (units_spelled xs).0 u.1 in
          let t = parts_taken xs ps s in
          let z : ⊥ = omega (arith, total_same ps (denied t.1 e), t.0 counted, t.0 (λ v. v), c) in
          absurd z

pub exact_refuses : ExactRefuses
exact_refuses xs = (to, λ (r, u, c). (timing_given oversized.Refused xs).5.1 (r, u, (refl, over xs u c)))
  where
    to : exact_timing_of xs ≡ Err oversized_part → Read xs × UnitText xs × CountsNothing xs
    to e = let (r, u, v) = (timing_given oversized.Refused xs).5.0 e in (r, u, less xs u v.1)

-- so what is accepted has no such part, and all of it counts
pub all_counted : AllCounted
all_counted xs d u e = go (((timing_given oversized.Refused xs).8 d).0 e).1
  where
    go : SecondsAre xs d ⊎ UnitsAre oversized.Refused xs d → d ≡ lasting (sum_by (λ v. v) units xs)
    go (inl s) = absurd (u.0 (inr (inr s.0)))
    go (inr (t, n, z, l)) =
        let (ps, s) = (units_spelled xs).0 u.1 in
        let c = parts_taken xs ps s in
        let k = total_same ps (λ a. n (refl, c.1.1 a)) in
        l ∙ ap lasting (c.0 counted ∙ k ∙ sym (c.0 (λ v. v)))

-- the two readings, step by step
abbrev Parted : Result Duration Refusal → Result Duration Refusal → Type 0
Parted exact present = (exact ≡ Err oversized_part) ⊎ (exact ≡ present)

units_parted : (u : Option Sum) → Parted (units_read oversized.Refused u) (units_read oversized.Ignored u)
units_parted (Some s) = go s.oversized
  where
    go : (b : Bool) → Parted (cond b (Err oversized_part) (units_read oversized.Ignored (Some s))) (units_read oversized.Ignored (Some s))
    go true = inl refl
    go false = inr refl
units_parted None = inr refl

decimal_parted : (xs : List ℕ) (d : Decimal) → Parted (timed_decimal oversized.Refused xs d) (timed_decimal oversized.Ignored xs d)
decimal_parted xs NotDecimal = units_parted (units_of xs)
decimal_parted xs (Named n) = inr refl
decimal_parted xs (Exact n) = inr refl
decimal_parted xs (Outside b) = inr refl

parted : (xs : List ℕ) → Parted (exact_timing_of xs) (timing_of xs)
unfolding timing_by duration_read
parted xs = go (admitted decimal_limit xs)
  where
    by : (a b : Bool) → Parted (cond a (Err empty_text) (cond b (Err zero_duration) (timed_decimal oversized.Refused xs (decimal_of xs)))) (cond a (Err empty_text) (cond b (Err zero_duration) (timed_decimal oversized.Ignored xs (decimal_of xs))))
    by true b = inr refl
    by false true = inr refl
    by false false = decimal_parted xs (decimal_of xs)

    go : (a : Result CharNumber Refusal) → Parted (timing_for oversized.Refused a xs) (timing_for oversized.Ignored a xs)
    go (Ok n) = by (eqb (length xs) 0) (same_text xs (ascii "0"))
    go (Err r) = inr refl

pub exact_else : ExactElse
exact_else xs n = go (parted xs)
  where
    go : Parted (exact_timing_of xs) (timing_of xs) → exact_timing_of xs ≡ timing_of xs
    go (inl e) = absurd (n e)
    go (inr e) = e

pub exact_agrees : ExactAgrees
exact_agrees xs d e = sym (exact_else xs (λ r. told tag e r (λ z. omega arith))) ∙ e
  where
    tag : Result Duration Refusal → ℕ
    tag (Ok d) = 0
    tag (Err r) = 1
