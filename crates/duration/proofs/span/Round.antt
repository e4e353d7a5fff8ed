-- A fraction to the nearest whole number, a tie to the even one (`closest` of `lib.Ieee.Nearest`): how code finds it. Nothing here is about floats.
--
use mathlib.Core.Path.{◌≡◌, refl, sym, ap, ap₂, ◌∙◌, subst}
use mathlib.Core.Logic.{◌⊎◌, inl, inr, ⊎_elim}
use mathlib.Core.Bool.{Bool, true, false, not, true≢false}
use Prim.Native.Nat.{ℕ, suc, ◌+◌, ◌-◌, ◌*◌, ◌/◌, ◌%◌, ◌^◌, ◌≤◌, ◌<◌, compare, Ordering}
use native.Mathlib.Nat.{le_of_lt, le_trans, le_of_eq, lt_of_le_of_lt, lt_irrefl, zero-lt-suc, mul_assoc, mul_right_comm, mul-one, add-zero, add-mul, mul-pos, mul-le-mul_right, mul-add-div_right, mul-add-mod_self_right, div-eq_of_lt, mod-eq_of_lt, div-add-mod', mod-lt, suc-mul, add_assoc}
use native.Mathlib.Omega.{arith}
use lib.Dec.{T, is_le, compare_is_eq, ltb, ltb→lt, nltb→le}
use lib.Pow.{pow-add, pow_pos}
use lib.Ieee.{nearest}
use lib.Ieee.Nearest.{closest, closest_mono, closest_same}
use borrow.Author.Tests.{le-leb, lt-leb, eq-eqb, ne_eqb}

-- ---- what `compare` is
cmp_lt : (a b : ℕ) → a < b → compare a b ≡ Ordering.lt
cmp_lt a b h = go (compare a b) (le-leb a b (le_of_lt h)) (ne_eqb a b (λ e. lt_irrefl b (subst (λ (x : ℕ). x < b) e h)))
  where
    go : (o : Ordering) → is_le o ≡ true → compare_is_eq o ≡ false → o ≡ Ordering.lt
    go Ordering.lt p q = refl
    go Ordering.eq p q = absurd (true≢false q)
    go Ordering.gt p q = absurd (true≢false (sym p))

cmp_eq : (a b : ℕ) → a ≡ b → compare a b ≡ Ordering.eq
cmp_eq a b h = go (compare a b) (eq-eqb a b h)
  where
    go : (o : Ordering) → compare_is_eq o ≡ true → o ≡ Ordering.eq
    go Ordering.lt p = absurd (true≢false (sym p))
    go Ordering.eq p = refl
    go Ordering.gt p = absurd (true≢false (sym p))

cmp_gt : (a b : ℕ) → b < a → compare a b ≡ Ordering.gt
cmp_gt a b h = go (compare a b) (lt-leb a b h)
  where
    go : (o : Ordering) → is_le o ≡ false → o ≡ Ordering.gt
    go Ordering.lt p = absurd (true≢false p)
    go Ordering.eq p = absurd (true≢false p)
    go Ordering.gt p = refl

pub lt_or_ge : (a b : ℕ) → (a < b) ⊎ (b ≤ a)
lt_or_ge a b = go (ltb a b) (ltb→lt a b) (nltb→le a b)
  where
    go : (t : Bool) → (T t → a < b) → (T (not t) → b ≤ a) → (a < b) ⊎ (b ≤ a)
    go true l g = inl (l tt)
    go false l g = inr (g tt)

-- ---- by the remainder
pub below_half : (a b : ℕ) → a % b * 2 < b → a / b ≡ closest a b
below_half a b h = ap (nearest (a / b)) (sym (cmp_lt (a % b * 2) b h))

pub above_half : (a b : ℕ) → b < a % b * 2 → suc (a / b) ≡ closest a b
above_half a b h = ap (nearest (a / b)) (sym (cmp_gt (a % b * 2) b h))

pub at_half : (a b : ℕ) → a % b * 2 ≡ b → a / b + a / b % 2 ≡ closest a b
at_half a b h = ap (nearest (a / b)) (sym (cmp_eq (a % b * 2) b h))

-- a quotient and a remainder that are given
module _ (a b q r : ℕ) (is : a ≡ q * b + r) (small : r < b) where
  the_quotient : a / b ≡ q
  the_quotient = ap (λ (x : ℕ). x / b) is ∙ mul-add-div_right (lt_of_le_of_lt (zero≤ r) small) q r ∙ ap (λ (x : ℕ). q + x) (div-eq_of_lt small) ∙ add-zero q
    where
      zero≤ : (n : ℕ) → 0 ≤ n
      zero≤ n = omega arith

  the_rest : a % b ≡ r
  the_rest = ap (λ (x : ℕ). x % b) is ∙ mul-add-mod_self_right q b r ∙ mod-eq_of_lt small

  pub rounds_down : r * 2 < b → closest a b ≡ q
  rounds_down h = sym (below_half a b (subst (λ (x : ℕ). x * 2 < b) (sym the_rest) h)) ∙ the_quotient

  pub rounds_up : b < r * 2 → closest a b ≡ suc q
  rounds_up h = sym (above_half a b (subst (λ (x : ℕ). b < x * 2) (sym the_rest) h)) ∙ ap suc the_quotient

-- ---- an even whole number comes out of the fraction
pub closest_add : (w a b : ℕ) → 0 < b → w % 2 ≡ 0 → closest (w * b + a) b ≡ w + closest a b
closest_add w a b B e =
    ap₂ (λ (q r : ℕ). nearest q (compare (r * 2) b)) (mul-add-div_right B w a) (mul-add-mod_self_right w b a) ∙ go (a / b) (compare (a % b * 2) b)
  where
    tie : (q : ℕ) → w + q + (w + q) % 2 ≡ w + (q + q % 2)
    tie q = omega arith

    more : (q : ℕ) → suc (w + q) ≡ w + suc q
    more q = omega arith

    go : (q : ℕ) (o : Ordering) → nearest (w + q) o ≡ w + nearest q o
    go q Ordering.lt = refl
    go q Ordering.eq = tie q
    go q Ordering.gt = more q

-- a fraction that is no more than w rounds to no more than w
pub closest_le : (a b w : ℕ) → 0 < b → a ≤ w * b → closest a b ≤ w
closest_le a b w B h = le_trans (closest_mono a b w 1 B (zero-lt-suc 0) (le_trans (le_of_eq (mul-one a)) h)) (le_of_eq (sym (below_half w 1 (lt w)) ∙ by_one w))
  where
    by_one : (w : ℕ) → w / 1 ≡ w
    by_one w = omega arith

    lt : (w : ℕ) → w % 1 * 2 < 1
    lt w = omega arith

-- ---- of the low half of a two-part number only whether it is zero bears on the rounding, where the divisor is a multiple of 2 * B
pub sticky : (H L B C : ℕ) → 0 < L → L < B → 0 < C → closest (H * B + L) (C * 2 * B) ≡ closest (H * 2 + 1) (C * 2 * 2)
sticky H L B C L0 LB C0 =
    let q = H / (C * 2) in
    let h = H % (C * 2) in
    let is : q * (C * 2) + h ≡ H = div-add-mod' H (C * 2) in
    let small : h < C * 2 = mod-lt H (mul-pos C0 (zero-lt-suc 1)) in
    let left : H * B + L ≡ q * (C * 2 * B) + (h * B + L) = wide q h is in
    let right : H * 2 + 1 ≡ q * (C * 2 * 2) + (h * 2 + 1) = narrow q h is in
    let in_left : h * B + L < C * 2 * B = within h (C * 2) small in
    let in_right : h * 2 + 1 < C * 2 * 2 = omega arith in
    ⊎_elim
    (λ (l : h < C).
    let x : h * B + L < C * B = within h C l in
    let y : (h * B + L) * 2 < C * 2 * B = subst (λ (n : ℕ). (h * B + L) * 2 < n) (mul_right_comm C B 2) (omega arith) in
    rounds_down (H * B + L) (C * 2 * B) q (h * B + L) left in_left y
    ∙ sym (rounds_down (H * 2 + 1) (C * 2 * 2) q (h * 2 + 1) right in_right (omega arith)))
    (λ (g : C ≤ h).
    let x : C * B ≤ h * B = mul-le-mul_right B g in
    let y : C * 2 * B < (h * B + L) * 2 = subst (λ (n : ℕ). n < (h * B + L) * 2) (mul_right_comm C B 2) (omega arith) in
    rounds_up (H * B + L) (C * 2 * B) q (h * B + L) left in_left y
    ∙ sym (rounds_up (H * 2 + 1) (C * 2 * 2) q (h * 2 + 1) right in_right (omega arith)))
    (lt_or_ge h C)
  where
    within : (h D : ℕ) → h < D → h * B + L < D * B
    within h D l =
        let x : suc h * B ≤ D * B = mul-le-mul_right B l in
        let y : suc h * B ≡ h * B + B = suc-mul h B in
        omega arith

    wide : (q h : ℕ) → q * (C * 2) + h ≡ H → H * B + L ≡ q * (C * 2 * B) + (h * B + L)
    wide q h is =
        ap (λ (n : ℕ). n * B + L) (sym is) ∙ ap (λ (n : ℕ). n + L) (add-mul (q * (C * 2)) h B ∙ ap (λ (n : ℕ). n + h * B) (mul_assoc q (C * 2) B))
        ∙ add_assoc (q * (C * 2 * B)) (h * B) L

    narrow : (q h : ℕ) → q * (C * 2) + h ≡ H → H * 2 + 1 ≡ q * (C * 2 * 2) + (h * 2 + 1)
    narrow q h is =
        let e : q * (C * 2 * 2) ≡ q * (C * 2) * 2 = sym (mul_assoc q (C * 2) 2) in
        omega arith

-- ---- f * 10 ^ 9 in two parts, over 2 ^ k
abbrev pub low_of : ℕ → ℕ
low_of f = f % 4294967296 * 1000000000

abbrev pub high_of : ℕ → ℕ
high_of f = f / 4294967296 * 1000000000 + low_of f / 4294967296

parts_are : (f : ℕ) → f * 1000000000 ≡ high_of f * 4294967296 + low_of f % 4294967296
parts_are f = omega arith

power_from : (j k : ℕ) → j ≤ k → 2 ^ k ≡ 2 ^ (k - j) * 2 ^ j
power_from j k h = ap (λ (n : ℕ). 2 ^ n) (sum j k h) ∙ pow-add 2 (k - j) j
  where
    sum : (j k : ℕ) → j ≤ k → k ≡ k - j + j
    sum j k h = omega arith

module _ (f k : ℕ) (h : 33 ≤ k) where
  C : ℕ
  C = 2 ^ (k - 33)

  C_pos : 0 < C
  unfolding C
  C_pos = pow_pos (k - 33)

  wide_is : 2 ^ k ≡ C * 2 * 4294967296
  unfolding C
  wide_is = power_from 33 k h ∙ sym (mul_assoc (2 ^ (k - 33)) 2 4294967296)

  short_is : 2 ^ (k - 31) ≡ C * 2 * 2
  unfolding C
  short_is =
      let two : 2 ≤ k - 31 = omega arith in
      let less : k - 31 - 2 ≡ k - 33 = omega arith in
      power_from 2 (k - 31) two ∙ ap (λ (n : ℕ). 2 ^ n * 4) less ∙ sym (mul_assoc (2 ^ (k - 33)) 2 2)

  pub none_low : low_of f % 4294967296 ≡ 0 → closest (high_of f * 2) (2 ^ (k - 31)) ≡ closest (f * 1000000000) (2 ^ k)
  none_low z =
      let is : f * 1000000000 ≡ high_of f * 4294967296 = parts_are f ∙ ap (λ (n : ℕ). high_of f * 4294967296 + n) z ∙ add-zero (high_of f * 4294967296) in
      ap (closest (high_of f * 2)) short_is
      ∙ closest_same (high_of f * 2) (C * 2 * 2) (high_of f * 4294967296) (C * 2 * 4294967296) (pos 2 (zero-lt-suc 1)) (pos 4294967296 (zero-lt-suc 4294967295)) (same (high_of f) C)
      ∙ ap₂ closest (sym is) (sym wide_is)
    where
      pos : (n : ℕ) → 0 < n → 0 < C * 2 * n
      pos n N = mul-pos (mul-pos C_pos (zero-lt-suc 1)) N

      same : (a c : ℕ) → a * 2 * (c * 2 * 4294967296) ≡ a * 4294967296 * (c * 2 * 2)
      same a c = mul_assoc a 2 (c * 2 * 4294967296) ∙ ap (λ (n : ℕ). a * n) (flat c) ∙ sym (mul_assoc a 4294967296 (c * 2 * 2))
        where
          flat : (c : ℕ) → 2 * (c * 2 * 4294967296) ≡ 4294967296 * (c * 2 * 2)
          flat c = omega arith

  pub some_low : (low_of f % 4294967296 ≡ 0 → ⊥) → closest (high_of f * 2 + 1) (2 ^ (k - 31)) ≡ closest (f * 1000000000) (2 ^ k)
  some_low z =
      ap (closest (high_of f * 2 + 1)) short_is
      ∙ sym (sticky (high_of f) (low_of f % 4294967296) 4294967296 C (nonzero (low_of f % 4294967296) z) (mod-lt (low_of f) (zero-lt-suc 4294967295)) C_pos)
      ∙ ap₂ closest (sym (parts_are f)) (sym wide_is)
    where
      nonzero : (n : ℕ) → (n ≡ 0 → ⊥) → 0 < n
      nonzero n z = omega arith
