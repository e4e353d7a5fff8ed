-- No text is longer than 30 bytes. Days are at most 15 digits, what remains under a day at most 2 2 2 and 3, and the five units 6 bytes;
-- years and weeks are written only where nothing follows them.
use Prim.Native.Nat.{ℕ, ◌+◌, ◌*◌, ◌/◌, ◌%◌, ◌^◌, ◌≤◌, ◌<◌}
use native.Mathlib.Omega.{arith}
use mathlib.Core.Bool.{Bool, true, false, cond, not}
use mathlib.Core.List.{List, [], ◌∷◌, ◌++◌}
use mathlib.Core.Path.{◌≡◌, refl}
use lib.Dec.{eqb, ltb}
use lib.ListN.{length, drop, length-append}
use borrow.Author.Tests.{eqb-true}
use Rattle.proving.proofs.Choice.{either}
use Rattle.writing.specs.Decimal.{decimal_text}
use Rattle.writing.proofs.Decimals.{digits_below}
use Rattle.duration.specs.Unit.{Unit, units, second, day}
use Rattle.duration.specs.Spans.{is_zero}
use Rattle.duration.specs.Display.{count_text, part_text, rest_of, written, duration_text, millis_of}
use Rattle.duration.specs.laws.Display.{longest_text, TextFew}

-- of a number with at most i + 1 digits
counted_few : (i v : ℕ) (text : List ℕ) → v < 10 ^ (i + 1) → length (count_text v text) ≤ i + 1 + length text
unfolding count_text
counted_few i v text h =
    either (λ (xs : List ℕ). length xs ≤ i + 1 + length text) (eqb v 0) (λ e. omega arith)
    (λ e. omega (arith, length-append (decimal_text v) text, digits_below i v h))

-- a unit that is written also with a remainder, before units of which that writes at most n bytes
also_few : (i n : ℕ) (u : Unit) (us : List Unit) (ms : ℕ) → ltb day u.size ≡ false → ms / u.size < 10 ^ (i + 1) → length (written us (ms % u.size)) ≤ n
    → length (written (u ∷ us) ms) ≤ i + 1 + length u.text + n
unfolding part_text rest_of
also_few i n u us ms e h more =
    rw e (omega (arith, length-append (count_text (ms / u.size) u.text) (written us (ms % u.size)), counted_few i (ms / u.size) u.text h, more))

-- a unit that is written only where nothing remains, before units of which nothing writes nothing
whole_few : (i : ℕ) (u : Unit) (us : List Unit) (ms : ℕ) → ltb day u.size ≡ true → ms / u.size < 10 ^ (i + 1) → i + 1 + length u.text ≤ longest_text
    → written us 0 ≡ [] → length (written us ms) ≤ longest_text → length (written (u ∷ us) ms) ≤ longest_text
unfolding part_text rest_of
whole_few i u us ms l h s none more = rw l (go (eqb (ms % u.size) 0) refl)
  where
    go : (b : Bool) → eqb (ms % u.size) 0 ≡ b
        → length (cond (not b) [] (count_text (ms / u.size) u.text) ++ written us (cond (not b) ms (ms % u.size))) ≤ longest_text
    go true e =
        rw (eqb-true (ms % u.size) 0 e, none) (omega (arith, length-append (count_text (ms / u.size) u.text) [], counted_few i (ms / u.size) u.text h))
    go false e = more

below_weeks : (ms : ℕ) → ms < 2 ^ 64 * second → length (written (drop 2 units) ms) ≤ longest_text
below_weeks ms h =
    also_few 14 14 _ (drop 3 units) ms refl (omega arith)
    (also_few 1 11 _ (drop 4 units) _ refl (omega arith)
    (also_few 1 8 _ (drop 5 units) _ refl (omega arith)
    (also_few 1 5 _ (drop 6 units) _ refl (omega arith)
    (also_few 2 0 _ [] _ refl (omega arith) (omega arith)))))

none_below_weeks : written (drop 2 units) 0 ≡ []
unfolding part_text rest_of count_text
none_below_weeks = refl

none_below_years : written (drop 1 units) 0 ≡ []
unfolding part_text rest_of count_text
none_below_years = refl

written_few : (ms : ℕ) → ms < 2 ^ 64 * second → length (written units ms) ≤ longest_text
written_few ms h =
    whole_few 11 _ (drop 1 units) ms refl (omega arith) (omega arith) none_below_years
    (whole_few 13 _ (drop 2 units) ms refl (omega arith) (omega arith) none_below_weeks (below_weeks ms h))

pub text_few : TextFew
unfolding duration_text
text_few d h g = either (λ (xs : List ℕ). length xs ≤ longest_text) (is_zero d) (λ e. omega arith) (λ e. written_few (millis_of d) (omega arith))
