-- The value of a numeral: its digits amount to w and the zeros that they end with, and w is divisible by ten only where it is zero, since
-- its last digit is none. Two ways to write a value so are one: what ten divides on one side it divides on the other.
use Prim.Native.Nat.{ℕ, zero, suc, ◌+◌, ◌-◌, ◌*◌, ◌%◌, ◌^◌, ◌<◌}
use Prim.Native.Char.{code}
use native.Mathlib.Nat.{mul_assoc, mul_right_comm, mul-one, zero-mul, mul-mod_left, pow-suc, eq_of_mul-eq-mul_right}
use native.Mathlib.Omega.{arith}
use mathlib.Core.Bool.{Bool, true, false, cond, ◌&&◌, true≢false}
use mathlib.Core.List.{List, [], ◌∷◌, ◌++◌}
use mathlib.Core.Logic.{◌↔◌}
use mathlib.Core.Path.{◌≡◌, refl, sym, ap, ap₂, ◌∙◌}
use lib.Dec.{eqb}
use lib.ListN.{length, take, drop}
use lib.Pow.{pow-add}
use lib.Seq.{get_or-drop}
use borrow.Author.Tests.{eqb-true}
use Rattle.scan.specs.declared.byte.Class.TheVariants.{Digit}
use Rattle.scan.specs.Byte.{peek_at, digit_of, is_in}
use Rattle.scan.specs.Run.{run_end}
use Rattle.scan.specs.Digits.{value_from, value_of}
use Rattle.scan.proofs.byte.Classes.{within_bounds}
use Rattle.scan.proofs.Runs.{run_passes}
use Rattle.decimal.specs.Grammar.{between, whole_from, whole_to, fraction_from, fraction_of, digits_of, exponent_of, is_negative_exponent}
use Rattle.decimal.specs.Value.{numerator, denominator}
use Rattle.decimal.specs.steps.Scale.{is_zeros, trailing, trimmed, significand, raised, reduced}
use Rattle.decimal.specs.laws.Decimal.{Scaled, SomeScale, OneScale, InRange, ExactRange}
use Rattle.decimal.proofs.Values.{ten_pos}
use Rattle.decimal.proofs.Zeros.{trailing_few, all_zeros}

more : (v n : ℕ) → v * 10 ^ suc n ≡ v * 10 ^ n * 10
more v n = ap (λ (m : ℕ). v * m) (pow-suc 10 n) ∙ sym (mul_assoc v (10 ^ n) 10)

ten_times : (v n : ℕ) → v * 10 * 10 ^ n ≡ v * 10 ^ suc n
ten_times v n = mul_right_comm v 10 (10 ^ n) ∙ sym (more v n)

zeros_value : (v : ℕ) (ds : List ℕ) → is_zeros ds ≡ true → value_from 10 v ds ≡ v * 10 ^ length ds
unfolding value_from is_zeros
zeros_value v [] z = sym (mul-one v)
zeros_value v (d ∷ ds) z = go (eqb (digit_of d) 0) refl z (zeros_value (v * 10 + digit_of d) ds)
  where
    go : (b : Bool) → eqb (digit_of d) 0 ≡ b → b && is_zeros ds ≡ true → (is_zeros ds ≡ true → value_from 10 (v * 10 + digit_of d) ds ≡ (v * 10 + digit_of d) * 10 ^ length ds) → value_from 10 (v * 10 + digit_of d) ds ≡ v * 10 ^ suc (length ds)
    go true e t ih =
        let n : v * 10 + digit_of d ≡ v * 10 = omega (arith, eqb-true (digit_of d) 0 e) in
        ih t ∙ ap (λ (m : ℕ). m * 10 ^ length ds) n ∙ ten_times v (length ds)
    go false e t ih = absurd (true≢false (sym t))

-- digits that do not all end in zeros: the first, and the others without theirs
trimmed_on : (d : ℕ) (ds : List ℕ) → is_zeros (d ∷ ds) ≡ false → trimmed (d ∷ ds) ≡ d ∷ trimmed ds
unfolding trailing
trimmed_on d ds z =
    let k : suc (length ds) - trailing ds ≡ suc (length ds - trailing ds) = omega (arith, trailing_few ds) in
    rw (z, k)

trailing_on : (d : ℕ) (ds : List ℕ) → is_zeros (d ∷ ds) ≡ false → trailing (d ∷ ds) ≡ trailing ds
unfolding trailing
trailing_on d ds z = rw z

all_trimmed : (v : ℕ) (ds : List ℕ) → is_zeros ds ≡ true → value_from 10 v (trimmed ds) ≡ v
unfolding value_from
all_trimmed v ds z = let k : length ds - trailing ds ≡ 0 = omega (arith, all_zeros ds z) in rw k

first : (d : ℕ) (ds : List ℕ) → is_zeros (d ∷ ds) ≡ false → is_zeros ds ≡ true → digit_of d ≡ 0 → ⊥
unfolding is_zeros
first d ds z f e = true≢false (sym (rw (e, f)) ∙ z)

split : (v : ℕ) (ds : List ℕ) → value_from 10 v ds ≡ value_from 10 v (trimmed ds) * 10 ^ trailing ds
unfolding value_from
split v [] = unfold trailing in sym (mul-one v)
split v (d ∷ ds) = go (is_zeros (d ∷ ds)) refl (split (v * 10 + digit_of d) ds)
  where
    go : (b : Bool) → is_zeros (d ∷ ds) ≡ b → value_from 10 (v * 10 + digit_of d) ds ≡ value_from 10 (v * 10 + digit_of d) (trimmed ds) * 10 ^ trailing ds → value_from 10 v (d ∷ ds) ≡ value_from 10 v (trimmed (d ∷ ds)) * 10 ^ trailing (d ∷ ds)
    go true z ih =
        let t = all_zeros (d ∷ ds) z in
        let k : length (d ∷ ds) - trailing (d ∷ ds) ≡ 0 = omega (arith, t) in
        zeros_value v (d ∷ ds) z ∙ sym (ap₂ (λ (a b : ℕ). value_from 10 v (take a (d ∷ ds)) * 10 ^ b) k t)
    go false z ih = ih ∙ sym (ap₂ (λ (ys : List ℕ) (n : ℕ). value_from 10 v ys * 10 ^ n) (trimmed_on d ds z) (trailing_on d ds z))

-- the last digit of w
abbrev AllBelow : List ℕ → Type 0
AllBelow [] = Unit {0}
AllBelow (d ∷ ds) = (digit_of d < 10) × AllBelow ds

ends : (v : ℕ) (ds : List ℕ) → AllBelow ds → is_zeros ds ≡ false → (value_from 10 v (trimmed ds) % 10 ≡ 0) → ⊥
unfolding value_from
ends v [] a z e = unfold is_zeros in true≢false z
ends v (d ∷ ds) a z e = go (is_zeros ds) refl (ends (v * 10 + digit_of d) ds a.1)
  where
    on : value_from 10 (v * 10 + digit_of d) (trimmed ds) % 10 ≡ 0
    on = ap (λ (ys : List ℕ). value_from 10 v ys % 10) (sym (trimmed_on d ds z)) ∙ e

    go : (b : Bool) → is_zeros ds ≡ b → (is_zeros ds ≡ false → (value_from 10 (v * 10 + digit_of d) (trimmed ds) % 10 ≡ 0) → ⊥) → ⊥
    go true f ih =
        let l : value_from 10 (v * 10 + digit_of d) (trimmed ds) ≡ v * 10 + digit_of d = all_trimmed (v * 10 + digit_of d) ds f in
        omega (arith, on, l, a.0, first d ds z f)
    go false f ih = ih f on

-- the digits of a text are digits
pub digit_below : (c : ℕ) → is_in Digit c ≡ true → digit_of c < 10
unfolding is_in digit_of
digit_below c e = rw e (omega (arith, within_bounds (code "0") (code "9") c e))

below_take : (n : ℕ) (xs : List ℕ) → ((i : ℕ) → i < n → digit_of (peek_at xs i) < 10) → AllBelow (take n xs)
below_take zero xs h = tt
below_take (suc n) [] h = tt
below_take (suc n) (x ∷ xs) h = (h 0 (omega arith), below_take n xs (λ i l. h (suc i) (omega arith)))

below_join : (xs ys : List ℕ) → AllBelow xs → AllBelow ys → AllBelow (xs ++ ys)
below_join [] ys a b = b
below_join (x ∷ xs) ys a b = (a.0, below_join xs ys a.1 b)

run_below : (xs : List ℕ) (from : ℕ) → AllBelow (between xs from (run_end (is_in Digit) xs from))
run_below xs from =
    below_take (run_end (is_in Digit) xs from - from) (drop from xs)
    (λ i l. rw (get_or-drop) (digit_below (peek_at xs (from + i)) (run_passes (is_in Digit) xs from (from + i) (omega arith) (omega arith))))

digits_below : (xs : List ℕ) → AllBelow (digits_of xs)
digits_below xs = below_join (between xs (whole_from xs) (whole_to xs)) (fraction_of xs) (run_below xs (whole_from xs)) (run_below xs (fraction_from xs))

-- the value is w times ten to the power of the zeros and the exponent
pub numerator_is : (xs : List ℕ) → numerator xs ≡ significand xs * 10 ^ raised xs
numerator_is xs =
    let e = cond (is_negative_exponent xs) 0 (value_of 10 (exponent_of xs)) in
    ap (λ (n : ℕ). n * 10 ^ e) (split 0 (digits_of xs))
    ∙ mul_assoc (significand xs) (10 ^ trailing (digits_of xs)) (10 ^ e)
    ∙ ap (λ (n : ℕ). significand xs * n) (sym (pow-add 10 (trailing (digits_of xs)) e))

pub zero_is : (xs : List ℕ) → numerator xs ≡ 0 → significand xs ≡ 0
zero_is xs e = eq_of_mul-eq-mul_right (10 ^ raised xs) (ten_pos (raised xs)) (significand xs) 0 (sym (numerator_is xs) ∙ e ∙ sym (zero-mul (10 ^ raised xs)))

pub is_zero_holds : (xs : List ℕ) → significand xs ≡ 0 → numerator xs ≡ 0
is_zero_holds xs e = numerator_is xs ∙ ap (λ (n : ℕ). n * 10 ^ raised xs) e ∙ zero-mul (10 ^ raised xs)

pub scaled : (xs : List ℕ) → (significand xs ≡ 0 → ⊥) → Scaled xs (significand xs) (raised xs) (reduced xs)
scaled xs n =
    record { value = ap (λ (m : ℕ). m * denominator xs) (sym (numerator_is xs)); not_by_ten = λ e. go (is_zeros (digits_of xs)) refl e }
  where
    go : (b : Bool) → is_zeros (digits_of xs) ≡ b → significand xs % 10 ≡ 0 → ⊥
    go true z e = n (all_trimmed 0 (digits_of xs) z)
    go false z e = ends 0 (digits_of xs) (digits_below xs) z e

-- two numbers that ten does not divide, times powers of ten
one_power : (a b w v : ℕ) → (w % 10 ≡ 0 → ⊥) → (v % 10 ≡ 0 → ⊥) → w * 10 ^ a ≡ v * 10 ^ b → (w ≡ v) × (a ≡ b)
one_power zero zero w v h k e = (sym (mul-one w) ∙ e ∙ mul-one v, refl)
one_power zero (suc b) w v h k e = absurd (h (ap (λ (n : ℕ). n % 10) (sym (mul-one w) ∙ e ∙ more v b) ∙ mul-mod_left (v * 10 ^ b) 10))
one_power (suc a) zero w v h k e = absurd (k (ap (λ (n : ℕ). n % 10) (sym (mul-one v) ∙ sym e ∙ more w a) ∙ mul-mod_left (w * 10 ^ a) 10))
one_power (suc a) (suc b) w v h k e =
    let r = one_power a b w v h k (eq_of_mul-eq-mul_right 10 (omega arith) (w * 10 ^ a) (v * 10 ^ b) (sym (more w a) ∙ e ∙ more v b)) in
    (r.0, ap suc r.1)

-- a power of ten that stands on both sides
pub apart : (w u b n : ℕ) → w * 10 ^ (u + b) * n ≡ w * 10 ^ u * n * 10 ^ b
apart w u b n = ap (λ (m : ℕ). w * m * n) (pow-add 10 u b) ∙ ap (λ (m : ℕ). m * n) (sym (mul_assoc w (10 ^ u) (10 ^ b))) ∙ mul_right_comm (w * 10 ^ u) (10 ^ b) n

-- and so two scales of a value
module _ (xs : List ℕ) (w u d v a b : ℕ) (p : Scaled xs w u d) (q : Scaled xs v a b) where
  crossed : w * 10 ^ (u + b) ≡ v * 10 ^ (a + d)
  crossed =
      let D = denominator xs in
      let N = numerator xs in
      eq_of_mul-eq-mul_right D (ten_pos (reduced xs)) (w * 10 ^ (u + b)) (v * 10 ^ (a + d))
      (apart w u b D ∙ ap (λ (n : ℕ). n * 10 ^ b) p.value ∙ mul_right_comm N (10 ^ d) (10 ^ b) ∙ ap (λ (n : ℕ). n * 10 ^ d) (sym q.value) ∙ sym (apart v a d D))

  pub one : (w ≡ v) × (u + b ≡ a + d)
  one = one_power (u + b) (a + d) w v p.not_by_ten q.not_by_ten crossed

  same_range : InRange w u d → InRange v a b
  same_range i = (omega (arith, one.0, i.0), (omega (arith, one.1, i.1.0), omega (arith, one.1, i.1.1)))

pub one_scale : OneScale
one_scale = one

pub some_scale : SomeScale
some_scale xs n = (significand xs, raised xs, reduced xs, scaled xs (λ e. n (is_zero_holds xs e)))

-- so a value is within the range by any w and E of it or by none
pub any_scale : (xs : List ℕ) (w u d : ℕ) → Scaled xs w u d → InRange w u d ↔ ExactRange xs
any_scale xs w u d p = ((λ i. (w, u, d, p, i)), λ r. same_range xs r.0 r.1 r.2 w u d r.3 p r.4)
