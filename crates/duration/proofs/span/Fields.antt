-- An f64's digits and exponent by its bit pattern, and what a test of its size says of them.
--
use mathlib.Core.Path.{◌≡◌, refl, sym, ap, ◌∙◌, subst}
use mathlib.Core.Logic.{⊎_elim}
use mathlib.Core.Bool.{Bool, true, false, not, cond, true≢false}
use Prim.Native.Nat.{ℕ, zero, suc, ◌+◌, ◌-◌, ◌*◌, ◌/◌, ◌%◌, ◌^◌, ◌≤◌, ◌<◌}
use native.Mathlib.Nat.{le_of_lt, le_trans, le_of_eq, lt_of_le_of_lt, mul_assoc, mul_right_comm, mul-one, one-mul, mul-le-mul, mul-le-mul_right, mul-lt-mul_of_pos_right, eq_of_mul-eq-mul_right, not-le_of_lt, mod-lt, mod-eq_of_lt, le_of_suc-le-suc}
use native.Mathlib.Omega.{arith}
use lib.Dec.{T, leb, eqb, ltb→lt, nleb→lt, lit<, lit≤}
use lib.Bits.{bit_and, and_mask}
use lib.Pow.{pow-add, pow_pos, pow_mono}
use lib.Ieee.{Float, nan, inf, fin, binary64, up, down, lt, le, fits, odd, of_fields, of_bits, to_bits}
use lib.Ieee.Exact.{HasValue, odd_sign}
use lib.Ieee.Bits.{of_bits-to_bits}
use lib.Ieee.Positive.{above, above_of_le, values_of_le}
use Rattle.duration.specs.Spans.{least_timed, two_to64}
use Rattle.duration.proofs.span.Round.{lt_or_ge}

-- ---- x by the fields of its pattern
by_fields : (x : Float) → T (fits binary64 x) → x ≡ of_fields binary64 (leb (2 ^ 63) (to_bits binary64 x)) (to_bits binary64 x % 2 ^ 63 / 2 ^ 52) (to_bits binary64 x % 2 ^ 52)
unfolding of_bits
by_fields x h = sym (of_bits-to_bits binary64 x h)

-- ---- what a test says of any fraction that x equals
low_side : (x : Float) (s : Bool) (a c : ℕ) → HasValue x s a c → T (le least_timed x) → (s ≡ false) × (c ≤ a * 2 ^ 31)
low_side x s a c h l = go x h l (above_of_le least_timed x tt l)
  where
    go : (x : Float) → HasValue x s a c → T (le least_timed x) → T (above x) → (s ≡ false) × (c ≤ a * 2 ^ 31)
    go nan h l p = absurd h
    go (inf t) h l p = absurd h
    go (fin true m e) h l p = absurd p
    go (fin false m e) h l p =
        (sym h.0, le_trans (le_of_eq (sym (one-mul c))) (values_of_le least_timed (fin false m e) 1 (2 ^ 31) a c tt p (refl, refl) (refl, h.1) l))

high_side : (x : Float) (a c : ℕ) → 0 < c → HasValue x false a c → T (lt x two_to64) → a < 2 ^ 64 * c
unfolding lt
high_side nan a c C h l = absurd h
high_side (inf t) a c C h l = absurd h
high_side (fin true m e) a c C h l = absurd (true≢false h.0)
high_side (fin false m e) a c C h l =
    let x : m * up e < 2 ^ 64 * down e = subst (λ (n : ℕ). n < 2 ^ 64 * down e) (mul-one (m * up e)) (ltb→lt (m * up e * 1) (2 ^ 64 * down e) l) in
    let y : a * down e < 2 ^ 64 * c * down e = subst (λ (n : ℕ). n < 2 ^ 64 * c * down e) h.1 (subst (λ (n : ℕ). m * up e * c < n) (mul_right_comm (2 ^ 64) (down e) c) (mul-lt-mul_of_pos_right x C)) in
    ⊎_elim (λ (k : a < 2 ^ 64 * c). k) (λ (k : 2 ^ 64 * c ≤ a). absurd (not-le_of_lt y (mul-le-mul_right (down e) k))) (lt_or_ge a (2 ^ 64 * c))

-- ---- the fields of an x from 2 ^ -31 up and below 2 ^ 64
abbrev Read : Float → Bool → ℕ → ℕ → Type 0
Read x s E t = (s ≡ false) × (992 ≤ E) × (E ≤ 1086) × HasValue x false ((2 ^ 52 + t) * 2 ^ (E - 1)) (2 ^ 1074)

normal : (x : Float) (s : Bool) (y t : ℕ) → t < 2 ^ 52 → HasValue x s ((2 ^ 52 + t) * 2 ^ y) (2 ^ 1074) → T (le least_timed x) → T (lt x two_to64) → Read x s (suc y) t
normal x s y t h v l u =
    let a = (2 ^ 52 + t) * 2 ^ y in
    let low = low_side x s a (2 ^ 1074) v l in
    let w : HasValue x false a (2 ^ 1074) = subst (λ (b : Bool). HasValue x b a (2 ^ 1074)) low.0 v in
    let high = high_side x a (2 ^ 1074) (pow_pos 1074) w u in
    (low.0, at_least low.1, at_most high, subst (λ (n : ℕ). HasValue x false ((2 ^ 52 + t) * 2 ^ n) (2 ^ 1074)) (sym (pred y)) w)
  where
    pred : (y : ℕ) → suc y - 1 ≡ y
    pred y = omega arith

    digits_le : 2 ^ 52 + t ≤ 2 ^ 53 - 1
    digits_le = omega arith

    at_least : 2 ^ 1074 ≤ (2 ^ 52 + t) * 2 ^ y * 2 ^ 31 → 992 ≤ suc y
    at_least g =
        ⊎_elim (λ (k : y < 991). absurd (not-le_of_lt (lt_of_le_of_lt (mul-le-mul_right (2 ^ 31) (mul-le-mul digits_le (pow_mono (le_of_suc-le-suc k)))) (lit< tt)) g)) (λ (k : 991 ≤ y). omega arith) (lt_or_ge y 991)

    digits_ge : 2 ^ 52 ≤ 2 ^ 52 + t
    digits_ge = omega arith

    at_most : (2 ^ 52 + t) * 2 ^ y < 2 ^ 64 * 2 ^ 1074 → suc y ≤ 1086
    at_most g =
        ⊎_elim (λ (k : y < 1086). k) (λ (k : 1086 ≤ y). absurd (not-le_of_lt g (le_trans (lit≤ tt) (mul-le-mul digits_ge (pow_mono k))))) (lt_or_ge y 1086)

no_inf : (s : Bool) → T (le least_timed (inf s)) → T (lt (inf s) two_to64) → ⊥
unfolding le lt
no_inf true l u = l
no_inf false l u = u

no_nan : T (lt nan two_to64) → ⊥
unfolding lt
no_nan u = u

fields : (x : Float) (s : Bool) (E t : ℕ) → t < 2 ^ 52 → x ≡ of_fields binary64 s E t → T (le least_timed x) → T (lt x two_to64) → Read x s E t
unfolding of_fields
fields x s zero t h is l u =
    absurd (not-le_of_lt (lt_of_le_of_lt (mul-le-mul_right (2 ^ 31) (mul-le-mul_right 1 (le_of_lt h))) (lit< tt)) (low_side x s (t * 1) (2 ^ 1074) (subst (λ (z : Float). HasValue z s (t * 1) (2 ^ 1074)) (sym is) (odd_sign 53 s t 0 1074)) l).1)
fields x s (suc y) t h is l u = go (eqb (suc y) 2047) (eqb t 0) is
  where
    go : (b z : Bool) → x ≡ cond b (cond z (inf s) nan) (odd 53 s (2 ^ 52 + t) y 1074) → Read x s (suc y) t
    go true true is = absurd (no_inf s (subst (λ (v : Float). T (le least_timed v)) is l) (subst (λ (v : Float). T (lt v two_to64)) is u))
    go true false is = absurd (no_nan (subst (λ (v : Float). T (lt v two_to64)) is u))
    go false z is = normal x s y t h (subst (λ (v : Float). HasValue v s ((2 ^ 52 + t) * 2 ^ y) (2 ^ 1074)) (sym is) (odd_sign 53 s (2 ^ 52 + t) y 1074)) l u

-- ---- from one fraction to another of the same size
rescale : (x : Float) (s : Bool) (a c b d : ℕ) → 0 < c → b * c ≡ a * d → HasValue x s a c → HasValue x s b d
rescale nan s a c b d C h v = v
rescale (inf t) s a c b d C h v = v
rescale (fin t m e) s a c b d C h v = (
  v.0,
  eq_of_mul-eq-mul_right c C (m * up e * d) (b * down e)
      (mul_right_comm (m * up e) d c ∙ ap (λ (n : ℕ). n * d) v.1 ∙ mul_right_comm a (down e) d ∙ ap (λ (n : ℕ). n * down e) (sym h) ∙ mul_right_comm b c (down e)),
)

module _ (x : Float) (held : T (fits binary64 x)) (l : T (le least_timed x)) (u : T (lt x two_to64)) where
  b : ℕ
  b = to_bits binary64 x

  read : Read x (leb (2 ^ 63) b) (b % 2 ^ 63 / 2 ^ 52) (b % 2 ^ 52)
  unfolding b
  read = fields x (leb (2 ^ 63) b) (b % 2 ^ 63 / 2 ^ 52) (b % 2 ^ 52) (mod-lt b (pow_pos 52)) (by_fields x held) l u

  no_sign : b % 2 ^ 63 ≡ b
  no_sign = mod-eq_of_lt (nleb→lt (2 ^ 63) b (subst (λ (t : Bool). T (not t)) (sym read.0) tt))

  exponent : b % 2 ^ 63 / 2 ^ 52 ≡ b / 2 ^ 52
  exponent = ap (λ (n : ℕ). n / 2 ^ 52) no_sign

  pub exponent_le : to_bits binary64 x / 2 ^ 52 ≤ 1086
  unfolding b
  exponent_le = subst (λ (n : ℕ). n ≤ 1086) exponent read.2

  pub shift_le : 1086 - to_bits binary64 x / 2 ^ 52 ≤ 94
  unfolding b
  shift_le = let g : 992 ≤ b / 2 ^ 52 = subst (λ (n : ℕ). 992 ≤ n) exponent read.1 in omega arith

  pub masked : bit_and (to_bits binary64 x) (2 ^ 52 - 1) ≡ to_bits binary64 x % 2 ^ 52
  masked = and_mask (to_bits binary64 x) 52

  pub masked_lt : bit_and (to_bits binary64 x) (2 ^ 52 - 1) < 2 ^ 52
  masked_lt = subst (λ (n : ℕ). n < 2 ^ 52) (sym masked) (mod-lt (to_bits binary64 x) (pow_pos 52))

  powers : (E : ℕ) → 992 ≤ E → E ≤ 1086 → 2 ^ (E - 1) * 2 ^ (1086 - E) ≡ 2048 * 2 ^ 1074
  powers E g h = sym (pow-add 2 (E - 1) (1086 - E)) ∙ ap (λ (n : ℕ). 2 ^ n) (sum E g h)
    where
      sum : (E : ℕ) → 992 ≤ E → E ≤ 1086 → E - 1 + (1086 - E) ≡ 1085
      sum E g h = omega arith

  pub value : HasValue x false ((bit_and (to_bits binary64 x) (2 ^ 52 - 1) + 2 ^ 52) * 2048 % 2 ^ 64) (2 ^ (1086 - to_bits binary64 x / 2 ^ 52))
  unfolding b
  value =
      let E = b % 2 ^ 63 / 2 ^ 52 in
      let M = 2 ^ 52 + b % 2 ^ 52 in
      let v : HasValue x false (M * 2048) (2 ^ (1086 - E)) =
      rescale x false (M * 2 ^ (E - 1)) (2 ^ 1074) (M * 2048) (2 ^ (1086 - E)) (pow_pos 1074)
      (mul_assoc M 2048 (2 ^ 1074) ∙ ap (λ (n : ℕ). M * n) (sym (powers E read.1 read.2)) ∙ sym (mul_assoc M (2 ^ (E - 1)) (2 ^ (1086 - E)))) read.3 in
      let small : b % 2 ^ 52 < 2 ^ 52 = mod-lt b (pow_pos 52) in
      let same : (bit_and b (2 ^ 52 - 1) + 2 ^ 52) * 2048 % 2 ^ 64 ≡ M * 2048 =
      ap (λ (n : ℕ). (n + 2 ^ 52) * 2048 % 2 ^ 64) masked ∙ mod-eq_of_lt (omega arith) ∙ turn (b % 2 ^ 52) in
      subst (λ (n : ℕ). HasValue x false n (2 ^ (1086 - b / 2 ^ 52))) (sym same) (subst (λ (n : ℕ). HasValue x false (M * 2048) (2 ^ (1086 - n))) exponent v)
    where
      turn : (t : ℕ) → (t + 2 ^ 52) * 2048 ≡ (2 ^ 52 + t) * 2048
      turn t = omega arith
