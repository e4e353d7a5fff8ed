-- How a text is read: a decimal is taken up, and is not empty; and `0` is an exact one.
use Prim.Native.Nat.{ℕ}
use native.Mathlib.Omega.{arith}
use mathlib.Core.Bool.{Bool, true, false, cond, true≢false}
use mathlib.Core.List.{List, [], ◌∷◌}
use mathlib.Core.Path.{◌≡◌, refl, sym, ap, ◌∙◌}
use lib.Dec.{ltb}
use lib.IntN.{pos}
use lib.Ieee.{fin, round, size, span, climb, units, odd}
use lib.ListN.{length}
use borrow.Author.Tests.{ne_eqb, eqb-true, lt-ltb}
use Rattle.std.specs.Prelude.{Err}
use Rattle.proving.proofs.Tests.{affirmed, itself}
use Rattle.scan.specs.Ascii.{ascii}
use Rattle.scan.specs.Byte.{is_within, digit_of, lowered, is_in}
use Rattle.scan.specs.Digits.{value_from}
use Rattle.scan.specs.Run.{run_length}
use Rattle.scan.specs.Sign.{is_sign}
use Rattle.scan.specs.Text.{same_text}
use Rattle.scan.proofs.Same.{same_is_equal}
use Rattle.utf8.specs.Table.{fits, size_in, char_length}
use Rattle.utf8.specs.Text.{chars_past, size_of, is_well_formed, prefix_end, codes_of}
use Rattle.utf8.specs.Code.{code_of}
use Rattle.utf8.specs.laws.Refusals.{Taken}
use Rattle.utf8.proofs.Given.{given_exactly}
use Rattle.decimal.specs.declared.Number.{Number}
use Rattle.decimal.specs.declared.Decimal.{Decimal}
use Rattle.decimal.specs.declared.Decimal.TheVariants.{NotDecimal, Named, Exact, Outside}
use Rattle.decimal.specs.Grammar.{has_digits, exponent_has_digits, is_numeral, is_infinite, is_nan}
use Rattle.decimal.specs.Value.{outside_exact, plain, is_in_exact, numeral_read, decimal_limit, decimal_in, decimal_of}
use Rattle.duration.specs.declared.Oversized.{Oversized}
use Rattle.duration.specs.Duration.{zero_duration, out_of_range, seconds_read, timed_decimal, duration_read, timing_by}

empty_none : decimal_of [] ≡ NotDecimal
unfolding decimal_of decimal_in chars_past size_of char_length is_infinite is_nan is_numeral has_digits exponent_has_digits is_sign lowered same_text is_in is_within run_length
empty_none = refl

zero_exact : decimal_of (ascii "0") ≡ Exact (plain (fin false 0 (pos 0)))
unfolding decimal_of decimal_in chars_past size_of char_length size_in fits code_of is_within is_infinite is_nan is_numeral has_digits exponent_has_digits is_sign lowered same_text is_in run_length digit_of value_from numeral_read is_in_exact round size span climb units odd
zero_exact = refl

not_zero : (xs : List ℕ) → ((n : Number) → decimal_of xs ≡ Exact n → ⊥) → same_text xs (ascii "0") ≡ false
not_zero xs h = affirmed (itself (same_text xs (ascii "0"))) (λ t. h _ (ap decimal_of ((same_is_equal xs (ascii "0")).0 t) ∙ zero_exact))

module _ (xs : List ℕ) (d : Decimal) (e : decimal_of xs ≡ d) where
  not_empty : (d ≡ NotDecimal → ⊥) → length xs ≡ 0 → ⊥
  not_empty n l = n (sym e ∙ ap decimal_of (nil xs l) ∙ empty_none)
    where
      nil : (xs : List ℕ) → length xs ≡ 0 → xs ≡ []
      nil [] l = refl
      nil (x ∷ xs) l = absurd (omega arith)

  taken : (d ≡ NotDecimal → ⊥) → Taken decimal_limit xs
  unfolding decimal_of
  taken n = go (ltb decimal_limit (length xs)) (is_well_formed xs) refl refl e
    where
      go : (a b : Bool) → ltb decimal_limit (length xs) ≡ a → is_well_formed xs ≡ b → cond a NotDecimal (cond b (decimal_in (codes_of xs)) NotDecimal) ≡ d → Taken decimal_limit xs
      go true b p q e = absurd (n (sym e))
      go false false p q e = absurd (n (sym e))
      go false true p q e = ((λ l. let z : ◌≡◌ {A = Bool} true false = sym (lt-ltb decimal_limit (length xs) l) ∙ p in absurd (true≢false z)), eqb-true (prefix_end xs) (length xs) q)

  -- a decimal is `0`, or what it is read as
  begun : (o : Oversized) → (d ≡ NotDecimal → ⊥) → timing_by o xs ≡ cond (same_text xs (ascii "0")) (Err zero_duration) (timed_decimal o xs d)
  unfolding timing_by duration_read
  begun o n = rw ((given_exactly decimal_limit xs).2.1 (taken n), ne_eqb (length xs) 0 (not_empty n), e)

module _ (o : Oversized) (xs : List ℕ) where
  pub zero_read : (n : Number) → decimal_of xs ≡ Exact n → same_text xs (ascii "0") ≡ true → timing_by o xs ≡ Err zero_duration
  zero_read n e z = begun xs (Exact n) e o (λ f. cc) ∙ rw z

  pub exact_read : (n : Number) → decimal_of xs ≡ Exact n → same_text xs (ascii "0") ≡ false → timing_by o xs ≡ seconds_read n
  exact_read n e z = begun xs (Exact n) e o (λ f. cc) ∙ rw z

  pub named_read : (n : Number) → decimal_of xs ≡ Named n → timing_by o xs ≡ Err out_of_range
  named_read n e = begun xs (Named n) e o (λ f. cc) ∙ rw (not_zero xs (λ m f. let z : Named n ≡ Exact m = sym e ∙ f in cc))

  pub outside_read : (b : Bool) → decimal_of xs ≡ Outside b → timing_by o xs ≡ Err (cond b out_of_range outside_exact)
  outside_read b e = begun xs (Outside b) e o (λ f. cc) ∙ rw (not_zero xs (λ m f. let z : Outside b ≡ Exact m = sym e ∙ f in cc))

-- what is no decimal is not `0`
pub no_zero : (xs : List ℕ) → decimal_of xs ≡ NotDecimal → same_text xs (ascii "0") ≡ false
no_zero xs e = not_zero xs (λ n f. let z : NotDecimal ≡ Exact n = sym e ∙ f in cc)
