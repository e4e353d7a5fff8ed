-- A product and a quotient by any fractions that the operands equal, signs and zeros included; and w * 10 ^ e, w / 10 ^ e rounded once.
--
use mathlib.Core.Path.{◌≡◌, refl, sym, ap, ap₂, ◌∙◌, subst}
use mathlib.Core.Bool.{Bool, false, cond, not}
use Prim.Native.Nat.{ℕ, zero, suc, ◌+◌, ◌-◌, ◌*◌, ◌^◌, ◌≤◌, ◌<◌}
use native.Mathlib.Omega.{arith}
use native.Mathlib.Nat.{zero-lt-suc, mul-pos, mul_comm, mul_assoc, mul_left_comm, mul-one, mul-mul-mul_comm, lt_irrefl, pow-suc}
use lib.Dec.{T, eqb, eqb-suc-zero}
use lib.IntN.{pos}
use lib.Ieee.{Float, nan, inf, fin, Format, binary64, up, down, unlike, round, mul, div, of_int}
use lib.Ieee.Fits.{down_pos}
use lib.Ieee.Exact.{HasValue}
use lib.Ieee.Scale.{round_same}
use lib.Ieee.Back.{round_whole}
use lib.Ieee.Positive.{first_pos}
use lib.Ieee.Bits.{cond_no}
use lib.Pow.{pow_pos, pow-add}
use Rattle.decimal.specs.Value.{most_exact}
use Rattle.decimal.specs.steps.Scale.{ten_to}

-- x / p is a / c and y / q is b / d: the fractions' products
cross : (x y p q a b c d : ℕ) → x * c ≡ a * p → y * d ≡ b * q → x * y * (c * d) ≡ a * b * (p * q)
cross x y p q a b c d h k = mul-mul-mul_comm x y c d ∙ ap₂ (λ (m n : ℕ). m * n) h k ∙ mul-mul-mul_comm a p b q

pub mul_values : (f : Format) (x y : Float) (s t : Bool) (a c b d : ℕ) → 0 < c → 0 < d → HasValue x s a c → HasValue y t b d
    → mul f x y ≡ round f (unlike s t) (a * b) (c * d)
unfolding mul
mul_values f nan y s t a c b d C D h k = absurd h
mul_values f (inf u) y s t a c b d C D h k = absurd h
mul_values f (fin u m e) nan s t a c b d C D h k = absurd k
mul_values f (fin u m e) (inf v) s t a c b d C D h k = absurd k
mul_values f (fin u m e) (fin v n g) s t a c b d C D h k =
    ap₂ (λ (x y : Bool). round f (unlike x y) (m * up e * (n * up g)) (down e * down g)) h.0 k.0
    ∙ round_same f (unlike s t) (m * up e * (n * up g)) (down e * down g) (a * b) (c * d) (mul-pos (down_pos e) (down_pos g)) (mul-pos C D)
    (cross (m * up e) (n * up g) (down e) (down g) a b c d h.1 k.1)

not_zero : (n : ℕ) → 0 < n → T (not (eqb n 0))
not_zero zero h = absurd (lt_irrefl 0 h)
not_zero (suc n) h = subst (λ (b : Bool). T (not b)) (sym (eqb-suc-zero n)) tt

pub div_values : (f : Format) (x y : Float) (s t : Bool) (a c b d : ℕ) → 0 < c → 0 < d → 0 < b → HasValue x s a c → HasValue y t b d
    → div f x y ≡ round f (unlike s t) (a * d) (b * c)
unfolding div
div_values f nan y s t a c b d C D B h k = absurd h
div_values f (inf u) y s t a c b d C D B h k = absurd h
div_values f (fin u m e) nan s t a c b d C D B h k = absurd k
div_values f (fin u m e) (inf v) s t a c b d C D B h k = absurd k
div_values f (fin u m e) (fin v n g) s t a c b d C D B h k =
    let N : 0 < n * up g = first_pos (n * up g) d (subst (λ (z : ℕ). 0 < z) (sym k.1) (mul-pos B (down_pos g))) in
    cond_no (eqb n 0) (cond (eqb m 0) nan (inf (unlike u v))) (round f (unlike u v) (m * up e * down g) (n * up g * down e)) (not_zero n (first_pos n (up g) N))
    ∙ ap₂ (λ (x y : Bool). round f (unlike x y) (m * up e * down g) (n * up g * down e)) h.0 k.0
    ∙ round_same f (unlike s t) (m * up e * down g) (n * up g * down e) (a * d) (b * c) (mul-pos N (down_pos e)) (mul-pos B C)
    (turned (m * up e) (n * up g) (down e) (down g) a b c d h.1 k.1)
  where
    turned : (x y p q a b c d : ℕ) → x * c ≡ a * p → y * d ≡ b * q → x * q * (b * c) ≡ a * d * (y * p)
    turned x y p q a b c d h k =
        let l : x * q * (b * c) ≡ x * c * (b * q) = simp (mul_assoc, mul_comm, mul_left_comm) in
        let r : a * p * (y * d) ≡ a * d * (y * p) = simp (mul_assoc, mul_comm, mul_left_comm) in
        l ∙ ap₂ (λ (m n : ℕ). m * n) h (sym k) ∙ r

-- ---- powers of ten
ten_is : (e : ℕ) → 5 ^ e * 2 ^ e ≡ 10 ^ e
ten_is zero = refl
ten_is (suc e) =
    ap₂ (λ (a b : ℕ). a * b) (pow-suc 5 e) (pow-suc 2 e) ∙ mul-mul-mul_comm (5 ^ e) 5 (2 ^ e) 2 ∙ ap (λ (n : ℕ). n * 10) (ten_is e) ∙ sym (pow-suc 10 e)

pub ten_value : (e : ℕ) → HasValue (ten_to e) false (10 ^ e) 1
ten_value e = (refl, ap (λ (n : ℕ). n * 1) (ten_is e))

pub ten_pos : (e : ℕ) → 0 < 10 ^ e
ten_pos e = subst (λ (n : ℕ). 0 < n) (ten_is e) (mul-pos (five e) (pow_pos e))
  where
    five : (e : ℕ) → 0 < 5 ^ e
    five zero = zero-lt-suc 0
    five (suc e) = subst (λ (n : ℕ). 0 < n) (sym (pow-suc 5 e)) (mul-pos (five e) (zero-lt-suc 4))

one : 0 < 1
one = zero-lt-suc 0

pub whole : (w : ℕ) → w ≤ most_exact → HasValue (of_int binary64 (pos w)) false w 1
unfolding of_int
whole w h = round_whole binary64 false w h

pub times : (w e : ℕ) → w ≤ most_exact → mul binary64 (of_int binary64 (pos w)) (ten_to e) ≡ round binary64 false (w * 10 ^ e) 1
times w e h = mul_values binary64 (of_int binary64 (pos w)) (ten_to e) false false w 1 (10 ^ e) 1 one one (whole w h) (ten_value e)

pub over : (w e : ℕ) → w ≤ most_exact → div binary64 (of_int binary64 (pos w)) (ten_to e) ≡ round binary64 false w (10 ^ e)
over w e h =
    div_values binary64 (of_int binary64 (pos w)) (ten_to e) false false w 1 (10 ^ e) 1 one one (ten_pos e) (whole w h) (ten_value e)
    ∙ ap₂ (round binary64 false) (mul-one w) (mul-one (10 ^ e))

-- one power over another
pub raise : (s : Bool) (w u d : ℕ) → d ≤ u → round binary64 s (w * 10 ^ (u - d)) 1 ≡ round binary64 s (w * 10 ^ u) (10 ^ d)
raise s w u d h =
    let k : u ≡ u - d + d = omega arith in
    round_same binary64 s (w * 10 ^ (u - d)) 1 (w * 10 ^ u) (10 ^ d) one (ten_pos d)
    (mul_assoc w (10 ^ (u - d)) (10 ^ d) ∙ ap (λ (n : ℕ). w * n) (sym (pow-add 10 (u - d) d) ∙ ap (λ (n : ℕ). 10 ^ n) (sym k)) ∙ sym (mul-one (w * 10 ^ u)))

pub reduce : (s : Bool) (w u d : ℕ) → u ≤ d → round binary64 s w (10 ^ (d - u)) ≡ round binary64 s (w * 10 ^ u) (10 ^ d)
reduce s w u d h =
    let k : u + (d - u) ≡ d = omega arith in
    round_same binary64 s w (10 ^ (d - u)) (w * 10 ^ u) (10 ^ d) (ten_pos (d - u)) (ten_pos d)
    (ap (λ (n : ℕ). w * n) (ap (λ (n : ℕ). 10 ^ n) (sym k) ∙ pow-add 10 u (d - u)) ∙ sym (mul_assoc w (10 ^ u) (10 ^ (d - u))))
