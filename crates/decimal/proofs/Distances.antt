-- No f64 is nearer. Counted in the least unit of an f64, rounding takes the nearest multiple of a power of two (`closest_near`); every f64 is
-- such a multiple, or else lies below one that the value has reached (`near_units`). The exact range lies far below where rounding overflows.
use Prim.Native.Nat.{ℕ, zero, suc, ◌+◌, ◌-◌, ◌*◌, ◌/◌, ◌%◌, ◌^◌, ◌≤◌, ◌<◌, compare, Ordering}
use native.Mathlib.Decide.{dec_le, ℕ_discrete}
use native.Mathlib.Nat.{add-mul, suc-mul, mul_assoc, mul_comm, mul_right_comm, mul-one, zero-mul, mul-pos, mul-sub, mul-le-mul, mul-le-mul_left, mul-le-mul_right, le_of_mul-le-mul_right, le-div_iff_mul-le, div-add-mod', mod-lt, pow-le-pow_right, le_of_eq, le_trans}
use native.Mathlib.Omega.{arith}
use mathlib.Core.Bool.{Bool, true, false, cond, ◌&&◌, not}
use mathlib.Core.List.{List}
use mathlib.Core.Logic.{◌⊎◌, inl, inr}
use mathlib.Core.Path.{◌≡◌, refl, sym, ap, ap₂, subst, ◌∙◌}
use lib.Count.{count_trailing_zeros}
use lib.Dec.{T, eqb, leb, ltb, is_le, compare_is_eq, leb→le, ltb→lt}
use lib.IntN.{ℤ, pos, negsuc}
use lib.Pow.{pow-add, pow_pos, pow-lt, shl_lt}
use lib.Ieee.{Float, nan, inf, fin, Format, binary64, prec, emax, low, up, down, nearest, neg, round, size, span, climb, units, odd, fits, lt, le, eq}
use lib.Ieee.Digits.{size_reaches}
use lib.Ieee.Exact.{HasValue, odd_sign}
use lib.Ieee.Fits.{and_l, and_r, two, round_is}
use lib.Ieee.Nearest.{closest}
use lib.Ieee.Order.{drop, kept, round_mono}
use lib.Ieee.Positive.{num, den, value→cross}
use lib.Ieee.Scale.{grid, finite, round_val, round_under}
use borrow.Author.Tests.{leb-true, leb-false, eqb-true}
use Rattle.scan.specs.Sign.{is_minus}
use Rattle.decimal.specs.declared.Number.{Number}
use Rattle.decimal.specs.Value.{numerator, denominator, nearest_of, most_exact, most_exponent}
use Rattle.decimal.specs.steps.Scale.{reduced}
use Rattle.decimal.specs.laws.Decimal.{InExact}
use Rattle.decimal.specs.laws.Rounding.{signed, distance, NoFarther, NearestF64}
use Rattle.decimal.proofs.Values.{ten_pos}
use Rattle.decimal.proofs.Ranges.{Some, Raised, Lowered, met}
use Rattle.decimal.proofs.Given.{nearest_value}
use Rattle.decimal.proofs.Rounding.{signed_round, in_exact}

sub_times : (a b k : ℕ) → a * k - b * k ≡ (a - b) * k
sub_times a b k = ap₂ (λ (m n : ℕ). m - n) (mul_comm a k) (mul_comm b k) ∙ sym (mul-sub k a b) ∙ mul_comm k (a - b)

distance_times : (a b k : ℕ) → distance (a * k) (b * k) ≡ distance a b * k
distance_times a b k = ap₂ (λ (m n : ℕ). m + n) (sub_times a b k) (sub_times b a k) ∙ sym (add-mul (a - b) (b - a) k)

-- ---- the nearest whole number
module _ (n u : ℕ) where
  -- the whole part where the rest is a half at most, or the next one where it is a half at least
  sides : ((n % u * 2 ≤ u) × (closest n u ≡ n / u)) ⊎ ((u ≤ n % u * 2) × (closest n u ≡ suc (n / u)))
  sides = go (compare (n % u * 2) u) (leb-true (n % u * 2) u) (leb-false (n % u * 2) u) (eqb-true (n % u * 2) u)
    where
      go : (o : Ordering) → (is_le o ≡ true → n % u * 2 ≤ u) → (is_le o ≡ false → u < n % u * 2) → (compare_is_eq o ≡ true → n % u * 2 ≡ u) → ((n % u * 2 ≤ u) × (nearest (n / u) o ≡ n / u)) ⊎ ((u ≤ n % u * 2) × (nearest (n / u) o ≡ suc (n / u)))
      go Ordering.lt h k e = inl (h refl, refl)
      go Ordering.eq h k e = even (ℕ_discrete (n / u % 2) 0)
        where
          even : Dec (n / u % 2 ≡ 0) → ((n % u * 2 ≤ u) × (n / u + n / u % 2 ≡ n / u)) ⊎ ((u ≤ n % u * 2) × (n / u + n / u % 2 ≡ suc (n / u)))
          even (yes z) = inl (h refl, omega arith)
          even (no z) = inr (omega (arith, e refl), omega arith)
      go Ordering.gt h k e = inr (omega (arith, k refl), refl)

  closest_near : 0 < u → (m : ℕ) → distance (closest n u * u) n ≤ distance (m * u) n
  closest_near U m = go sides (dec_le m (n / u))
    where
      go : ((n % u * 2 ≤ u) × (closest n u ≡ n / u)) ⊎ ((u ≤ n % u * 2) × (closest n u ≡ suc (n / u))) → Dec (m ≤ n / u) → distance (closest n u * u) n ≤ distance (m * u) n
      go (inl (h, e)) (yes l) = rw e (omega (arith, div-add-mod' n u, mul-le-mul_right u l))
      go (inl (h, e)) (no l) =
          let g : suc (n / u) ≤ m = omega arith in
          rw e (omega (arith, div-add-mod' n u, mul-le-mul_right u g, suc-mul (n / u) u, mod-lt n U))
      go (inr (h, e)) (yes l) = rw e (omega (arith, div-add-mod' n u, mul-le-mul_right u l, suc-mul (n / u) u, mod-lt n U))
      go (inr (h, e)) (no l) =
          let g : suc (n / u) ≤ m = omega arith in
          rw e (omega (arith, div-add-mod' n u, mul-le-mul_right u g, suc-mul (n / u) u, mod-lt n U))

-- ---- a / c in units of a format's least value
module _ (f : Format) (a c : ℕ) (C : 0 < c) where
  abbrev n : ℕ
  n = a * 2 ^ low f

  abbrev k : ℕ
  k = drop (prec f) n c

  abbrev u : ℕ
  u = c * 2 ^ k

  u_pos : 0 < u
  u_pos = mul-pos C (pow_pos k)

  by_u : (m : ℕ) → m * 2 ^ k * c ≡ m * u
  by_u m = mul_assoc m (2 ^ k) c ∙ ap (λ (x : ℕ). m * x) (mul_comm (2 ^ k) c)

  -- with digits dropped, the value has reached the least power of two of as many digits
  reached : 0 < k → 2 ^ (prec f - 1 + k) * c ≤ n
  reached h = (le-div_iff_mul-le C).0 (size_reaches (n / c) (prec f - 1 + k) (omega (arith, two f)))

  near_units : (m j : ℕ) → m < 2 ^ prec f → distance (grid f a c * c) n ≤ distance (m * 2 ^ j * c) n
  near_units m j h = rw (by_u (kept (prec f) n c)) (go (dec_le k j))
    where
      go : Dec (k ≤ j) → distance (kept (prec f) n c * u) n ≤ distance (m * 2 ^ j * c) n
      go (yes l) =
          let e : j ≡ j - k + k = omega arith in
          let p : m * 2 ^ j * c ≡ m * 2 ^ (j - k) * u = ap (λ (x : ℕ). m * 2 ^ x * c) e ∙ ap (λ (x : ℕ). m * x * c) (pow-add 2 (j - k) k) ∙ ap (λ (x : ℕ). x * c) (sym (mul_assoc m (2 ^ (j - k)) (2 ^ k))) ∙ by_u (m * 2 ^ (j - k)) in
          rw p (closest_near n u u_pos (m * 2 ^ (j - k)))
      go (no l) =
          let r = reached (omega arith) in
          let p : 2 ^ (prec f - 1 + k) * c ≡ 2 ^ (prec f - 1) * u = ap (λ (x : ℕ). x * c) (pow-add 2 (prec f - 1) k) ∙ by_u (2 ^ (prec f - 1)) in
          let s : m * 2 ^ j < 2 ^ (prec f + j) = shl_lt (prec f) j h in
          let t : 2 ^ (prec f + j) ≤ 2 ^ (prec f - 1 + k) = pow-le-pow_right (omega arith) (omega (arith, two f)) in
          let v : m * 2 ^ j * c ≤ 2 ^ (prec f - 1 + k) * c = mul-le-mul_right c (omega arith) in
          omega (arith, closest_near n u u_pos (2 ^ (prec f - 1)))

-- ---- a value of a format in these units: so many times a power of two
module _ (f : Format) where
  abbrev InUnits : Float → Type 0
  InUnits y = (m j : ℕ) × (m < 2 ^ prec f) × (num y * 2 ^ low f ≡ m * 2 ^ j * den y)

  in_units : (y : Float) → T (fits f y) → T (finite y) → InUnits y
  unfolding fits
  in_units nan t h = absurd h
  in_units (inf s) t h = absurd h
  in_units (fin s zero e) t h =
      (0, 0, pow_pos (prec f), ap (λ (x : ℕ). x * 2 ^ low f) (zero-mul (up e)) ∙ zero-mul (2 ^ low f) ∙ sym (ap (λ (x : ℕ). x * down e) (zero-mul (2 ^ 0)) ∙ zero-mul (down e)))
  in_units (fin s (suc m) e) t h =
      let o = eqb (suc m % 2) 1 in
      let b = ltb (suc m) (2 ^ prec f) in
      let d = leb (down e) (2 ^ low f) in
      let g = ltb (suc m * up e) (2 ^ suc (emax f) * down e) in
      let l = and_l (o && b && d) g t in
      at e (ltb→lt (suc m) (2 ^ prec f) (and_r o b (and_l (o && b) d l))) (leb→le (down e) (2 ^ low f) (and_r (o && b) d l))
    where
      at : (e : ℤ) → suc m < 2 ^ prec f → down e ≤ 2 ^ low f → InUnits (fin s (suc m) e)
      at (pos i) b d = (suc m, i + low f, b, mul_assoc (suc m) (2 ^ i) (2 ^ low f) ∙ ap (λ (x : ℕ). suc m * x) (sym (pow-add 2 i (low f))) ∙ sym (mul-one (suc m * 2 ^ (i + low f))))
      at (negsuc i) b d = go (dec_le (suc i) (low f))
        where
          go : Dec (suc i ≤ low f) → InUnits (fin s (suc m) (negsuc i))
          go (yes l) =
              let e : low f ≡ low f - suc i + suc i = omega arith in
              (suc m, low f - suc i, b, ap (λ (x : ℕ). x * 2 ^ low f) (mul-one (suc m)) ∙ ap (λ (x : ℕ). suc m * 2 ^ x) e ∙ ap (λ (x : ℕ). suc m * x) (pow-add 2 (low f - suc i) (suc i)) ∙ sym (mul_assoc (suc m) (2 ^ (low f - suc i)) (2 ^ suc i)))
          go (no l) = let p : 2 ^ low f < 2 ^ suc i = pow-lt (omega arith) in let z : ⊥ = omega arith in absurd z

-- ---- what is rounded, and any other value
module _ (f : Format) (a c : ℕ) (C : 0 < c) where
  abbrev L : ℕ
  L = 2 ^ low f

  by_units : (x d v : ℕ) → x * L ≡ v * d → distance (x * c) (a * d) * L ≡ distance (v * c) (a * L) * d
  by_units x d v e =
      sym (distance_times (x * c) (a * d) L)
      ∙ ap₂ distance (mul_right_comm x c L ∙ ap (λ (z : ℕ). z * c) e ∙ mul_right_comm v d c) (mul_right_comm a d L)
      ∙ distance_times (v * c) (a * L) d

  round_near : T (finite (round f false a c)) → (y : Float) → T (fits f y) → T (finite y) → NoFarther (round f false a c) y a c
  round_near h y t g =
      let x = round f false a c in
      let q = in_units f y t g in
      let r = value→cross x (grid f a c) L (round_val f a c (round_under f a c h)) in
      let there = distance (num x * c) (a * den x) in
      let other = distance (num y * c) (a * den y) in
      let rounded = distance (grid f a c * c) (a * L) in
      let counted = distance (q.0 * 2 ^ q.1 * c) (a * L) in
      let p : there * den y * L ≡ rounded * (den x * den y) = mul_right_comm there (den y) L ∙ ap (λ (z : ℕ). z * den y) (by_units (num x) (den x) (grid f a c) r) ∙ mul_assoc rounded (den x) (den y) in
      let s : other * den x * L ≡ counted * (den x * den y) = mul_right_comm other (den x) L ∙ ap (λ (z : ℕ). z * den x) (by_units (num y) (den y) (q.0 * 2 ^ q.1) q.3) ∙ mul_assoc counted (den y) (den x) ∙ ap (λ (z : ℕ). counted * z) (mul_comm (den y) (den x)) in
      le_of_mul-le-mul_right {k = L} (rw (p, s) (mul-le-mul_right (den x * den y) (near_units f a c C q.0 q.1 q.2))) (pow_pos (low f))

-- ---- with a sign
signed_sizes : (s : Bool) (x : Float) → (num (signed s x) ≡ num x) × (den (signed s x) ≡ den x)
unfolding neg
signed_sizes false x = (refl, refl)
signed_sizes true nan = (refl, refl)
signed_sizes true (inf s) = (refl, refl)
signed_sizes true (fin s m e) = (refl, refl)

signed_own : (s : Bool) (x : Float) (a c : ℕ) → HasValue x false a c → HasValue (signed s x) s (num (signed s x)) (den (signed s x))
unfolding neg
signed_own s nan a c h = absurd h
signed_own s (inf t) a c h = absurd h
signed_own true (fin t m e) a c h = (ap not h.0, refl)
signed_own false (fin t m e) a c h = (h.0, refl)

-- ---- the exact range
abbrev greatest : ℕ
greatest = most_exact * 10 ^ most_exponent

-- what is no greater than a finite value is finite
module _ (f : Format) (a c : ℕ) where
  abbrev ends : Bool → Float
  ends b = cond b (odd (suc (prec f)) false (kept (prec f) (a * 2 ^ low f) c) (drop (prec f) (a * 2 ^ low f) c) (low f)) (inf false)

  has_value : (x : Float) (n d : ℕ) → HasValue x false n d → T (finite x)
  has_value nan n d v = absurd v
  has_value (inf s) n d v = absurd v
  has_value (fin s m e) n d v = tt

  ends_finite : (m : ℕ) (e : ℤ) (b : Bool) → T (le (ends b) (fin false m e)) → T (finite (ends b))
  unfolding le lt eq
  ends_finite m e true h = has_value (ends true) (grid f a c) (2 ^ low f) (odd_sign (suc (prec f)) false (kept (prec f) (a * 2 ^ low f) c) (drop (prec f) (a * 2 ^ low f) c) (low f))
  ends_finite m e false h = absurd h

  bounded : (m : ℕ) (e : ℤ) → T (le (round f false a c) (fin false m e)) → T (finite (round f false a c))
  unfolding units
  bounded m e h =
      subst (λ (x : Float). T (finite x)) (sym (round_is f false a c))
      (ends_finite m e (ltb (grid f a c) (2 ^ (low f + suc (emax f)))) (subst (λ (x : Float). T (le x (fin false m e))) (round_is f false a c) h))

-- 2^53 times 10^22 is 5^22 times 2^75
top : round binary64 false greatest 1 ≡ fin false (5 ^ 22) (pos 75)
unfolding round size span climb units odd count_trailing_zeros
top = refl

module _ (xs : List ℕ) where
  abbrev N : ℕ
  N = numerator xs

  abbrev D : ℕ
  D = denominator xs

  under : (w e : ℕ) → w ≤ most_exact → e ≤ most_exponent → w * 10 ^ e * D ≤ greatest * D
  under w e m l = mul-le-mul_right D (mul-le-mul m (pow-le-pow_right {n = 10} (omega arith) l))

  small : InExact xs → N * 1 ≤ greatest * D
  small (inl z) = let e : N * 1 ≡ 0 = ap (λ (n : ℕ). n * 1) z in omega arith
  small (inr r) = go (met xs r)
    where
      go : Some (Raised xs) most_exponent ⊎ Some (Lowered xs) most_exponent → N * 1 ≤ greatest * D
      go (inl (e, l, (w, a))) = le_trans (le_of_eq (sym a.0)) (under w e a.2 l)
      go (inr (e, l, (w, a))) = le_trans (mul-le-mul_left N (ten_pos e)) (le_trans (le_of_eq (sym a.0)) (under w 0 a.2 (omega arith)))

  not_infinite : InExact xs → T (finite (round binary64 false N D))
  not_infinite i =
      bounded binary64 N D (5 ^ 22) (pos 75)
      (subst (λ (x : Float). T (le (round binary64 false N D) x)) top (round_mono binary64 N D greatest 1 (ten_pos (reduced xs)) (omega arith) (small i)))

  module _ (i : InExact xs) where
    abbrev r : Float
    r = round binary64 false N D

    abbrev s : Bool
    s = is_minus xs 0

    has_sign : HasValue (nearest_of xs).value s (num (nearest_of xs).value) (den (nearest_of xs).value)
    has_sign =
        subst (λ (x : Float). HasValue x s (num x) (den x)) (signed_round s N D)
        (signed_own s r (grid binary64 N D) (2 ^ low binary64) (round_val binary64 N D (round_under binary64 N D (not_infinite i))))

    near : (y : Float) → T (fits binary64 y) → T (finite y) → NoFarther (nearest_of xs).value y N D
    near y t g =
        let z = signed_sizes s r in
        subst (λ (x : Float). NoFarther x y N D) (signed_round s N D)
        (subst (λ (p : ℕ × ℕ). distance (p.0 * D) (N * p.1) * den y ≤ distance (num y * D) (N * den y) * p.1) (sym (ap₂ (λ (a b : ℕ). (a, b)) z.0 z.1)) (round_near binary64 N D (ten_pos (reduced xs)) (not_infinite i) y t g))

pub nearest_f64 : NearestF64
nearest_f64 xs n d =
    let i = in_exact xs n d in
    subst
    (λ (m : Number). HasValue m.value (is_minus xs 0) (num m.value) (den m.value) × ((y : Float) → T (fits binary64 y) → T (finite y) → NoFarther m.value y (numerator xs) (denominator xs)))
    (sym (nearest_value xs n d)) (has_sign xs i, near xs i)
