-- The digits of a number are digits, one or more, and their value is the number: by induction over the digits, with the laws of one.
use Prim.Native.Nat.{ℕ, zero, suc, ◌+◌, ◌*◌, ◌/◌, ◌%◌, ◌<◌, ◌≤◌}
use native.Mathlib.Omega.{arith}
use mathlib.Core.Path.{◌≡◌, refl, ◌∙◌}
use mathlib.Core.List.{List, [], ◌∷◌, ◌++◌}
use lib.ListN.{length, length-append}
use lib.Dec.{ltb}
use borrow.Author.Tests.{ltb-true, ltb-false}
use Rattle.scan.specs.declared.byte.Class.TheVariants.{Digit}
use Rattle.scan.specs.Byte.{is_in, digit_of}
use Rattle.scan.specs.Digits.{value_from}
use Rattle.scan.specs.Run.{run_length}
use Rattle.scan.proofs.Runs.{run_past}
use Rattle.writing.specs.Decimal.{digit_for, digits_within, decimal_text}
use Rattle.writing.specs.laws.Writing.{OnlyDigits, AnyDigit, DecimalValue}
use Rattle.writing.proofs.Digit.{digit_sign, sign_digit}
use Rattle.writing.proofs.Decimals.{digits_case, digits_of_number}

value_append : (v : ℕ) (xs ys : List ℕ) → value_from 10 v (xs ++ ys) ≡ value_from 10 (value_from 10 v xs) ys
unfolding value_from
value_append v [] ys = refl
value_append v (x ∷ xs) ys = value_append (v * 10 + digit_of x) xs ys

digits_value : (k n : ℕ) → n ≤ k → value_from 10 0 (digits_within k n) ≡ n
unfolding digits_within value_from
digits_value zero n h = omega (arith, digit_sign n (omega arith))
digits_value (suc k) n h =
    digits_case (λ ds. value_from 10 0 ds ≡ n) (ltb n 10) (digits_within k) n
    (λ e. let t = ltb-true n 10 e in omega (arith, digit_sign n (omega arith)))
    (λ e.
    let t = ltb-false n 10 e in
    value_append 0 (digits_within k (n / 10)) (digit_for (n % 10) ∷ [])
    ∙ omega (arith, digits_value k (n / 10) (omega arith), digit_sign (n % 10) (omega arith)))

pub decimal_value : DecimalValue
unfolding decimal_text
decimal_value n = digits_value n n (omega arith)

one_digit : (d : ℕ) → d < 10 → run_length (is_in Digit) (digit_for d ∷ []) ≡ 1
unfolding run_length
one_digit d h = rw (sign_digit d h)

digits_run : (k n : ℕ) → n ≤ k → run_length (is_in Digit) (digits_within k n) ≡ length (digits_within k n)
unfolding digits_within
digits_run zero n h = one_digit n (omega arith)
digits_run (suc k) n h =
    digits_case (λ ds. run_length (is_in Digit) ds ≡ length ds) (ltb n 10) (digits_within k) n
    (λ e. one_digit n (ltb-true n 10 e))
    (λ e.
    let t = ltb-false n 10 e in
    let xs = digits_within k (n / 10) in
    let ys = digit_for (n % 10) ∷ [] in
    omega (arith, run_past (is_in Digit) xs ys (digits_run k (n / 10) (omega arith)), one_digit (n % 10) (omega arith), length-append xs ys))

pub digits_some : AnyDigit
digits_some n =
    rw (digits_of_number n)
    (digits_case (λ ds. 0 < length ds) (ltb n 10) decimal_text n (λ e. omega arith) (λ e. omega (arith, length-append (decimal_text (n / 10)) (digit_for (n % 10) ∷ []))))

pub digits_all : OnlyDigits
unfolding decimal_text
digits_all n = digits_run n n (omega arith)
