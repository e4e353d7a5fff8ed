-- `from_secs` at each of the tests that the code makes, and the whole seconds and the rest by any fraction that x equals.
--
use mathlib.Core.Path.{◌≡◌, refl, sym, ap, ap₂, ◌∙◌, subst}
use mathlib.Core.Logic.{⊎_elim}
use mathlib.Core.Bool.{Bool, true, false, cond, ◌&&◌, true≢false}
use Prim.Native.Nat.{ℕ, ◌+◌, ◌*◌, ◌/◌, ◌%◌, ◌^◌, ◌≤◌, ◌<◌}
use native.Mathlib.Nat.{le_of_lt, le_trans, le_of_eq, zero-lt-suc, mul_comm, mul_right_comm, mul-one, one-mul, zero-mul, zero-add, mul-le-mul_right, mul-le-mul_left, div-add-mod', div-mul-le_self, mod-lt, add-mul}
use native.Mathlib.Omega.{arith}
use lib.Dec.{T, eqb, eqb→eq}
use lib.IntN.{pos}
use lib.Ieee.{Float, nan, inf, fin, up, down, lt, le}
use lib.Ieee.Fits.{down_pos, and_l}
use lib.Ieee.Exact.{HasValue}
use lib.Ieee.Nearest.{closest, closest_same}
use lib.Ieee.Order.{le_of_values}
use lib.Ieee.Positive.{num, den, den_pos, above, above_of_le, value→cross}
use Rattle.duration.specs.declared.span.Duration.{Duration}
use Rattle.std.specs.Prelude.{None, Option, Some}
use Rattle.duration.specs.Spans.{least_timed, two_to64, nanos_of, duration_at, from_secs}
use Rattle.duration.proofs.span.Round.{lt_or_ge, rounds_down, closest_add, closest_le}

abbrev nought : Float
nought = fin false 0 (pos 0)

abbrev pick : Bool → Bool → Option Duration → Option Duration
pick a b t = cond (a && b) t None

-- ---- the tests
pub too_long_holds : (x : Float) → lt x two_to64 ≡ false → None ≡ from_secs x
too_long_holds x h = ap (λ (a : Bool). pick a (le nought x) (Some (duration_at (nanos_of x)))) (sym h)

pub negative : (x : Float) → lt x two_to64 ≡ true → le nought x ≡ false → None ≡ from_secs x
negative x h k = ap₂ (λ (a b : Bool). pick a b (Some (duration_at (nanos_of x)))) (sym h) (sym k)

pub accepted : (x : Float) → lt x two_to64 ≡ true → le nought x ≡ true → Some (duration_at (nanos_of x)) ≡ from_secs x
accepted x h k = ap₂ (λ (a b : Bool). pick a b (Some (duration_at (nanos_of x)))) (sym h) (sym k)

is_true : (b : Bool) → T b → b ≡ true
is_true true t = refl
is_true false t = absurd t

-- what is above zero is not below it
pub above_nought : (x : Float) → T (le least_timed x) → le nought x ≡ true
above_nought x h = is_true (le nought x) (go x (above_of_le least_timed x tt h))
  where
    go : (x : Float) → T (above x) → T (le nought x)
    go nan p = absurd p
    go (inf true) p = absurd p
    go (inf false) p = unfold le in tt
    go (fin true m e) p = absurd p
    go (fin false m e) p = le_of_values nought (fin false m e) 0 1 (m * up e) (down e) (zero-lt-suc 0) (down_pos e) (refl, refl) (refl, refl) (le_trans (le_of_eq (zero-mul (down e))) (zero≤ (m * up e * 1)))
      where
        zero≤ : (n : ℕ) → 0 ≤ n
        zero≤ n = omega arith

-- less than half a nanosecond
no_nanos : (a b : ℕ) → a * 2147483648 < b → closest (a * 1000000000) b ≡ 0
no_nanos a b h = rounds_down (a * 1000000000) b 0 (a * 1000000000) (sym (ap (λ (n : ℕ). n + a * 1000000000) (zero-mul b) ∙ zero-add (a * 1000000000))) (omega arith) (omega arith)

pub tiny : (x : Float) → lt x two_to64 ≡ true → le least_timed x ≡ false → le nought x ≡ true → nanos_of x ≡ 0
unfolding lt le
tiny nan h l k = absurd (true≢false (sym h))
tiny (inf true) h l k = absurd (true≢false (sym k))
tiny (inf false) h l k = absurd (true≢false (sym h))
tiny (fin true m e) h l k =
    let z : 0 * down e ≡ m * up e * 1 = eqb→eq (0 * down e) (m * up e * 1) (and_l (eqb (0 * down e) (m * up e * 1)) (eqb (0 * down e) 0) (subst T (sym k) tt)) in
    let y : m * up e ≡ 0 = sym (mul-one (m * up e)) ∙ sym z ∙ zero-mul (down e) in
    no_nanos (m * up e) (down e) (subst (λ (n : ℕ). n * 2147483648 < down e) (sym y) (down_pos e))
tiny (fin false m e) h l k =
    ⊎_elim (λ (s : m * up e * 2147483648 < down e). no_nanos (m * up e) (down e) s)
    (λ (g : down e ≤ m * up e * 2147483648).
    absurd (true≢false (sym (is_true (le least_timed (fin false m e)) (le_of_values least_timed (fin false m e) 1 2147483648 (m * up e) (down e) (zero-lt-suc 2147483647) (down_pos e) (refl, refl) (refl, refl) (le_trans (le_of_eq (one-mul (down e))) g))) ∙ l)))
    (lt_or_ge (m * up e * 2147483648) (down e))

-- ---- the nanoseconds by any fraction that x equals
pub by_value : (x : Float) (d b : ℕ) → 0 < b → HasValue x false d b → closest (d * 1000000000) b ≡ nanos_of x
by_value x d b B h =
    closest_same (d * 1000000000) b (num x * 1000000000) (den x) B (den_pos x)
    (mul_right_comm d 1000000000 (den x) ∙ ap (λ (n : ℕ). n * 1000000000) (sym (value→cross x d b h)) ∙ mul_right_comm (num x) b 1000000000)

-- whole seconds, and the rest
pub by_parts : (d b : ℕ) → 0 < b → d / b * 1000000000 + closest (d % b * 1000000000) b ≡ closest (d * 1000000000) b
by_parts d b B = sym (ap (λ (n : ℕ). closest n b) (is d b) ∙ closest_add (d / b * 1000000000) (d % b * 1000000000) b B (even (d / b)))
  where
    is : (d b : ℕ) → d * 1000000000 ≡ d / b * 1000000000 * b + d % b * 1000000000
    is d b = ap (λ (n : ℕ). n * 1000000000) (sym (div-add-mod' d b)) ∙ add-mul (d / b * b) (d % b) 1000000000 ∙ ap (λ (n : ℕ). n + d % b * 1000000000) (mul_right_comm (d / b) b 1000000000)

    even : (n : ℕ) → n * 1000000000 % 2 ≡ 0
    even n = omega arith

pub at_most_a_second : (f b : ℕ) → 0 < b → f < b → closest (f * 1000000000) b ≤ 1000000000
at_most_a_second f b B h = closest_le (f * 1000000000) b 1000000000 B (le_trans (mul-le-mul_right 1000000000 (le_of_lt h)) (le_of_eq (mul_comm b 1000000000)))

-- a whole second more still fits: there is none where b is 1
pub carry : (d b n : ℕ) → 0 < b → d < 2 ^ 64 → n ≡ closest (d % b * 1000000000) b → n ≡ 1000000000 → d / b + 1 < 2 ^ 64
carry d b n B D e h =
    ⊎_elim
    (λ (l : 1 < b). let x : d / b * 2 ≤ d = le_trans (mul-le-mul_left (d / b) l) (div-mul-le_self d b) in omega arith)
    (λ (g : b ≤ 1).
    let r : d % b < b = mod-lt d B in
    let z : d % b * 1000000000 ≤ 0 = omega arith in
    let y : closest (d % b * 1000000000) b ≤ 0 = closest_le (d % b * 1000000000) b 0 B (le_trans z (le_of_eq (sym (zero-mul b)))) in
    omega arith)
    (lt_or_ge 1 b)
