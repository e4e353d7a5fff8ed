-- A decimal is a text of characters, and can be read by its bytes: what the grammar takes is ASCII throughout, place by place, and a name
-- is, in any case of its letters; so what is not ASCII is no decimal, and utf8's `by_bytes` says the rest.
use Prim.Native.Nat.{ℕ, suc, ◌<◌}
use Prim.Native.Char.{code}
use native.Mathlib.Decide.{dec_lt, ℕ_discrete}
use native.Mathlib.Omega.{arith}
use mathlib.Core.Bool.{Bool, true, false, cond, ◌&&◌, true≢false}
use mathlib.Core.List.{List, [], ◌∷◌}
use mathlib.Core.Path.{◌≡◌, refl, sym, ◌∙◌}
use lib.Dec.{eqb}
use lib.ListN.{length, drop}
use borrow.Author.Tests.{lt-ltb, le-ltb, eqb-true}
use Rattle.scan.specs.Ascii.{ascii}
use Rattle.scan.specs.declared.byte.Class.TheVariants.{Digit}
use Rattle.scan.specs.Byte.{peek_at, is_in, lowered}
use Rattle.scan.specs.Run.{run_end}
use Rattle.proving.proofs.Choice.{either, and_right}
use Rattle.scan.proofs.byte.Classes.{within_bounds, lowered_above}
use Rattle.scan.proofs.Runs.{run_passes}
use Rattle.utf8.specs.laws.Ascii.{is_ascii}
use Rattle.utf8.proofs.Ascii.{by_bytes, lowered_other}
use Rattle.scan.proofs.sign.Places.{sign_ascii}
use Rattle.decimal.specs.declared.Decimal.{Decimal}
use Rattle.decimal.specs.declared.Decimal.TheVariants.{NotDecimal}
use Rattle.scan.specs.Sign.{is_sign, past_sign}
use Rattle.decimal.specs.Grammar.{past_point, is_exponent, past_exponent, whole_from, whole_to, fraction_from, fraction_to, exponent_from, exponent_to, parts_of, has_digits, exponent_has_digits, is_numeral, is_named, is_infinite, is_nan}
use Rattle.decimal.specs.Value.{decimal_limit, decimal_in, decimal_of}
use Rattle.decimal.specs.laws.Decimal.{Short}

-- the places before n hold ASCII
abbrev AsciiTo : List ℕ → ℕ → Type 0
AsciiTo xs n = (i : ℕ) → i < n → peek_at xs i < 0x80

to_end : (xs : List ℕ) → AsciiTo xs (length xs) → is_ascii xs ≡ true
to_end [] a = refl
to_end (x ∷ xs) a = rw (lt-ltb x 0x80 (a 0 (omega arith))) (to_end xs (λ i l. a (suc i) (omega arith)))

exponent_ascii : (c : ℕ) → eqb (lowered c) (code "e") ≡ true → c < 0x80
exponent_ascii c e = go (dec_lt c 0x80)
  where
    go : Dec (c < 0x80) → c < 0x80
    go (yes l) = l
    go (no l) = omega (arith, eqb-true (lowered c) (code "e") e, lowered_above c (omega arith))

digit_ascii : (c : ℕ) → is_in Digit c ≡ true → c < 0x80
unfolding is_in
digit_ascii c e = omega (arith, within_bounds (code "0") (code "9") c e)

module _ (xs : List ℕ) where
  -- one place more
  more : (p : ℕ → Bool) → ((c : ℕ) → p c ≡ true → c < 0x80) → (at : ℕ) → AsciiTo xs at → p (peek_at xs at) ≡ true → AsciiTo xs (suc at)
  more p ok at a e i l = go (ℕ_discrete i at)
    where
      go : Dec (i ≡ at) → peek_at xs i < 0x80
      go (yes s) = rw s (ok (peek_at xs at) e)
      go (no n) = a i (omega arith)

  signs : (at : ℕ) → AsciiTo xs at → AsciiTo xs (past_sign xs at)
  signs at a = either (AsciiTo xs) (is_sign (peek_at xs at)) (more is_sign sign_ascii at a) (λ e. a)

  points : (at : ℕ) → AsciiTo xs at → AsciiTo xs (past_point xs at)
  points at a = either (AsciiTo xs) (eqb (peek_at xs at) (code ".")) (more (λ c. eqb c (code ".")) (λ c e. omega (arith, eqb-true c (code ".") e)) at a) (λ e. a)

  exponents : (at : ℕ) → AsciiTo xs at → AsciiTo xs (past_exponent xs at)
  exponents at a =
      either (AsciiTo xs) (is_exponent xs at) (λ e. signs (suc at) (more (λ c. eqb (lowered c) (code "e")) exponent_ascii at a e)) (λ e. a)

  digits : (at : ℕ) → AsciiTo xs at → AsciiTo xs (run_end (is_in Digit) xs at)
  digits at a i l = go (dec_lt i at)
    where
      go : Dec (i < at) → peek_at xs i < 0x80
      go (yes m) = a i m
      go (no m) = digit_ascii (peek_at xs i) (run_passes (is_in Digit) xs at i (omega arith) l)

  parts : AsciiTo xs (exponent_to xs)
  parts =
      digits (exponent_from xs)
      (exponents (fraction_to xs)
      (digits (fraction_from xs)
      (points (whole_to xs)
      (digits (whole_from xs) (signs 0 (λ i l. let f : ⊥ = omega arith in absurd f))))))

  whole_ends : is_numeral xs ≡ true → exponent_to xs ≡ length xs
  unfolding is_numeral
  whole_ends e =
      let p = parts_of xs in
      eqb-true (exponent_to xs) (length xs) (and_right (exponent_has_digits xs p) (eqb (exponent_to xs) (length xs)) (and_right (has_digits p) (exponent_has_digits xs p && eqb (exponent_to xs) (length xs)) e))

  module _ (h : is_ascii xs ≡ false) where
    no_numeral : is_numeral xs ≡ false
    no_numeral = go (is_numeral xs) refl
      where
        go : (b : Bool) → is_numeral xs ≡ b → is_numeral xs ≡ false
        go true e = absurd (true≢false (sym (to_end xs (rw (← whole_ends e) parts)) ∙ h))
        go false e = e

-- behind a sign
behind : (xs : List ℕ) → is_ascii xs ≡ false → is_ascii (drop (whole_from xs) xs) ≡ false
behind [] h = absurd (true≢false h)
behind (x ∷ xs) h = go (is_sign x) refl
  where
    go : (b : Bool) → is_sign x ≡ b → is_ascii (drop (cond b 1 0) (x ∷ xs)) ≡ false
    go true e = rw (lt-ltb x 0x80 (sign_ascii x e)) at h
    go false e = h

unnamed : (name xs : List ℕ) → is_ascii name ≡ true → is_ascii xs ≡ false → is_named name xs ≡ false
unnamed name xs a h = lowered_other (drop (whole_from xs) xs) name (behind xs h) a

other_none : (xs : List ℕ) → is_ascii xs ≡ false → decimal_in xs ≡ NotDecimal
unfolding decimal_in is_infinite is_nan
other_none xs h =
    rw (unnamed (ascii "inf") xs refl h, unnamed (ascii "infinity") xs refl h, unnamed (ascii "nan") xs refl h, no_numeral xs h)

pub by_characters : (xs : List ℕ) → Short xs → decimal_in xs ≡ decimal_of xs
unfolding decimal_of
by_characters xs h = rw (le-ltb decimal_limit (length xs) h) (by_bytes Decimal NotDecimal decimal_in other_none xs)
