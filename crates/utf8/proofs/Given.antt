-- Each refusal of a text is given exactly when its row holds: of the three cases, too long, not UTF-8 and text, one holds, and the
-- three answers are told apart by their numbers.
use Prim.Native.Nat.{ℕ}
use native.Mathlib.Decide.{dec_lt, ℕ_discrete}
use native.Mathlib.Omega.{arith}
use mathlib.Core.List.{List}
use mathlib.Core.Path.{◌≡◌}
use lib.ListN.{length}
use borrow.Author.Tests.{eq-eqb, ne_eqb, lt-ltb, le-ltb}
use Rattle.utf8.specs.declared.CharNumber.{CharNumber}
use Rattle.utf8.specs.declared.Refusal.{Refusal}
use Rattle.std.specs.Prelude.{Err, Ok, Result}
use Rattle.proving.proofs.Choice.{told}
use Rattle.utf8.specs.Text.{chars_of, prefix_end, WellFormed}
use Rattle.utf8.specs.Answers.{count, place_at, too_long, not_utf8, validity_of, admitted}
use Rattle.utf8.specs.laws.Refusals.{TooLong, NotUtf8, GivenExactly, AdmittedText}

-- the number that an answer has, 0 where it is no refusal
abbrev number_of : Result CharNumber Refusal → ℕ
number_of (Ok n) = 0
number_of (Err r) = r.number

module _ (limit : ℕ) (xs : List ℕ) where
  long : TooLong limit xs → admitted limit xs ≡ Err too_long
  unfolding admitted
  long h = rw (lt-ltb limit (length xs) h)

  broken : (TooLong limit xs → ⊥) → NotUtf8 xs → admitted limit xs ≡ Err (not_utf8 (place_at xs (prefix_end xs)))
  unfolding admitted validity_of
  broken h n = rw (le-ltb limit (length xs) (omega arith), ne_eqb (prefix_end xs) (length xs) n)

  taken : (TooLong limit xs → ⊥) → WellFormed xs → admitted limit xs ≡ Ok (count (length (chars_of xs)))
  unfolding admitted validity_of
  taken h w = rw (le-ltb limit (length xs) (omega arith), eq-eqb (prefix_end xs) (length xs) w)

  rows : Dec (TooLong limit xs) → Dec (WellFormed xs)
      → (admitted limit xs ≡ Err too_long → TooLong limit xs)
      × (admitted limit xs ≡ Err (not_utf8 (place_at xs (prefix_end xs))) → (TooLong limit xs → ⊥) × NotUtf8 xs)
      × (admitted limit xs ≡ Ok (count (length (chars_of xs))) → (TooLong limit xs → ⊥) × WellFormed xs)
  rows (yes l) d = ((λ e. l), (λ e. told number_of (long l) e (λ z. omega arith)), (λ e. told number_of (long l) e (λ z. omega arith)))
  rows (no l) (yes w) = ((λ e. told number_of (taken l w) e (λ z. omega arith)), (λ e. told number_of (taken l w) e (λ z. omega arith)), (λ e. (l, w)))
  rows (no l) (no w) = ((λ e. told number_of (broken l w) e (λ z. omega arith)), (λ e. (l, w)), (λ e. told number_of (broken l w) e (λ z. omega arith)))

pub given_exactly : GivenExactly
given_exactly limit xs =
    let r = rows limit xs (dec_lt limit (length xs)) (ℕ_discrete (prefix_end xs) (length xs)) in
    ((r.0, long limit xs), (r.1, λ h. broken limit xs h.0 h.1), (r.2, λ h. taken limit xs h.0 h.1))

pub admitted_text : AdmittedText
admitted_text limit xs n a = go (dec_lt limit (length xs)) (ℕ_discrete (prefix_end xs) (length xs))
  where
    go : Dec (TooLong limit xs) → Dec (WellFormed xs) → (TooLong limit xs → ⊥) × WellFormed xs
    go (yes l) w = told number_of (long limit xs l) a (λ z. omega arith)
    go (no l) (yes w) = (l, w)
    go (no l) (no w) = told number_of (broken limit xs l w) a (λ z. omega arith)
