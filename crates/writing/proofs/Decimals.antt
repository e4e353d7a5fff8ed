-- Laws of decimal digits: one turn of spelling a number. A number bounds how many digits it has, so the bound in the definition
-- changes nothing.
use Prim.Native.Nat.{ℕ, zero, suc, ◌+◌, ◌-◌, ◌/◌, ◌%◌, ◌^◌, ◌<◌, ◌≤◌}
use native.Mathlib.Nat.{pow-suc}
use native.Mathlib.Numerals.{add-one}
use native.Mathlib.Omega.{arith}
use mathlib.Core.Bool.{Bool, true, false}
use mathlib.Core.Path.{◌≡◌, refl, sym, ◌∙◌}
use mathlib.Core.List.{List, [], ◌∷◌, ◌++◌, append_assoc}
use lib.ListN.{length, drop, set, length-set, length-append}
use lib.Seq.{drop-cons, drop-set-lt, get_or-set_same, lt-length-set}
use lib.Dec.{ltb}
use borrow.Author.Tests.{lt-ltb, le-ltb, ltb-false}
use Rattle.writing.specs.Decimal.{decimal_base, digit_for, most_digits, digits_by, digits_within, decimal_text}
use Rattle.writing.specs.laws.Writing.{OneDigit, MoreDigits, DigitsBelow, DigitsFew}

-- by whether a number has one digit
pub digits_case {ℓ} : (P : List ℕ → Type ℓ) (b : Bool) (f : ℕ → List ℕ) (n : ℕ)
    → (b ≡ true → P (digit_for n ∷ [])) → (b ≡ false → P (f (n / 10) ++ digit_for (n % 10) ∷ [])) → P (digits_by b f n)
digits_case P true f n h g = h refl
digits_case P false f n h g = g refl

by_same : (b : Bool) (f g : ℕ → List ℕ) (n : ℕ) → (b ≡ false → f (n / 10) ≡ g (n / 10)) → digits_by b f n ≡ digits_by b g n
by_same true f g n h = refl
by_same false f g n h = rw (h refl)

same_digits : (k l n : ℕ) → n ≤ k → n ≤ l → digits_within k n ≡ digits_within l n
unfolding digits_within
same_digits zero zero n h g = refl
same_digits zero (suc l) n h g = rw (lt-ltb n 10 (omega arith))
same_digits (suc k) zero n h g = rw (lt-ltb n 10 (omega arith))
same_digits (suc k) (suc l) n h g =
    by_same (ltb n 10) (digits_within k) (digits_within l) n (λ e. let t = ltb-false n 10 e in same_digits k l (n / 10) (omega arith) (omega arith))

pub digits_of_number : (n : ℕ) → decimal_text n ≡ digits_by (ltb n decimal_base) decimal_text n
unfolding digits_within decimal_text
digits_of_number zero = refl
digits_of_number (suc m) =
    by_same (ltb (suc m) 10) (digits_within m) decimal_text (suc m) (λ e. same_digits m (suc m / 10) (suc m / 10) (omega arith) (omega arith))

pub digits_one : OneDigit
digits_one n h = rw (digits_of_number n, lt-ltb n 10 h)

pub digits_more : MoreDigits
digits_more n h = rw (digits_of_number n, le-ltb n 10 h)

-- a number of two digits or more that has room from place i down leaves room for the rest
room_left : (i n : ℕ) → 10 ≤ n → n < 10 ^ (i + 1) → (1 ≤ i) × (n / 10 < 10 ^ (i - 1 + 1))
room_left zero n h g = let f : ⊥ = omega arith in absurd f
room_left (suc i) n h g =
    let e : suc i - 1 + 1 ≡ i + 1 = omega arith in
    let s : suc i + 1 ≡ suc (i + 1) = omega arith in
    (omega arith, rw e (omega (arith, rw s at g, pow-suc 10 (i + 1))))

pub digits_below : DigitsBelow
digits_below zero n h = rw (digits_one n (omega arith)) (omega arith)
digits_below (suc i) n h =
    rw (digits_of_number n)
    (digits_case (λ ds. length ds ≤ suc i + 1) (ltb n 10) decimal_text n (λ e. omega arith)
    (λ e.
    let t = ltb-false n 10 e in
    let r : suc i - 1 + 1 ≡ i + 1 = omega arith in
    omega (arith, digits_below i (n / 10) (rw r at (room_left (suc i) n t h).1), length-append (decimal_text (n / 10)) (digit_for (n % 10) ∷ []))))

pub digits_few : DigitsFew
digits_few n h = digits_below (most_digits - 1) n (omega arith)

-- what is written at a place stands before what followed it
drop_set : (xs : List ℕ) (i a : ℕ) → i < length xs → drop i (set xs i a) ≡ a ∷ drop (i + 1) xs
drop_set xs i a h =
    drop-cons (set xs i a) i 0 (lt-length-set xs i a h)
    ∙ rw (get_or-set_same xs i a 0 h, drop-set-lt (suc i) xs i a (omega arith), add-one)

-- of n, the digits past place i stand there, and the number `rest` is left to spell from place i down
pub record Spelled (n : ℕ) (ds : List ℕ) (i rest : ℕ) : Type 0 where
  pub size : length ds ≡ most_digits
  pub place : i < most_digits
  pub room : rest < 10 ^ (i + 1)
  pub holds : decimal_text n ≡ decimal_text rest ++ drop (i + 1) ds

module _ {n : ℕ} {ds : List ℕ} {i rest : ℕ} (p : Spelled n ds i rest) where
  place_left : 10 ≤ rest → 1 ≤ i
  place_left h = (room_left i rest h p.room).0

  pub spelled_more : {a : ℕ} → 10 ≤ rest → a ≡ digit_for (rest % 10) → Spelled n (set ds i a) (i - 1) (rest / 10)
  spelled_more {a} h e =
      let l = place_left h in
      let back : i - 1 + 1 ≡ i = omega arith in
      record {
        size = length-set ds i a ∙ p.size;
        place = omega (arith, p.place);
        room = (room_left i rest h p.room).1;
        holds = p.holds ∙ rw (digits_more rest h, append_assoc, back, drop_set ds i a (omega (arith, p.size, p.place)), e);
      }

  pub spelled_all : {a : ℕ} → rest < 10 → a ≡ digit_for rest → drop i (set ds i a) ≡ decimal_text n
  spelled_all {a} h e =
      sym (p.holds ∙ rw (digits_one rest h, drop_set ds i a (omega (arith, p.size, p.place)), e))
