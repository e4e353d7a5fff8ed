-- Digits and behind them letters are a part, where what follows begins with no letter: the run of digits ends at the first letter, and the
-- run of letters where they end, so the part is of the unit whose text the letters are, and of no other.
use Prim.Native.Nat.{ℕ, suc, ◌+◌, ◌-◌, ◌<◌}
use Prim.Native.Char.{code}
use native.Mathlib.Omega.{arith}
use mathlib.Core.Bool.{Bool, true, false, cond}
use mathlib.Core.List.{List, [], ◌∷◌, ◌++◌}
use mathlib.Core.Path.{◌≡◌, refl, sym, ap, ap₂, ◌∙◌}
use lib.ListN.{length, take, drop}
use lib.Seq.{take-append_seam, drop-append_seam, drop-drop}
use borrow.Author.Tests.{lt-ltb, ne_eqb}
use Rattle.scan.specs.declared.byte.Class.TheVariants.{Digit, Alpha}
use Rattle.scan.specs.Byte.{is_alpha, is_in}
use Rattle.scan.specs.Run.{run_length}
use Rattle.scan.specs.Text.{same_text}
use Rattle.scan.specs.Digits.{value_of}
use Rattle.scan.proofs.byte.Classes.{within_bounds, below_not}
use Rattle.scan.proofs.Runs.{run_past}
use Rattle.decimal.specs.Grammar.{between}
use Rattle.duration.specs.Units.{digits_end, part_end, is_part, part_value}

digit_no_letter : (c : ℕ) → is_in Digit c ≡ true → is_in Alpha c ≡ false
unfolding is_in is_alpha
digit_no_letter c e =
    let h = within_bounds (code "0") (code "9") c e in
    rw (below_not (code "a") (code "z") c (omega (arith, h.1)), below_not (code "A") (code "Z") c (omega (arith, h.1))) (ne_eqb c (code "_") (λ e. omega (arith, h.1)))

-- digits begin with no letter
pub digits_first : (ds ys : List ℕ) → 0 < length ds → run_length (is_in Digit) ds ≡ length ds → run_length (is_in Alpha) (ds ++ ys) ≡ 0
unfolding run_length
digits_first [] ys h e = absurd (omega arith)
digits_first (x ∷ ds) ys h e = go (is_in Digit x) refl e
  where
    go : (b : Bool) → is_in Digit x ≡ b → cond b (suc (run_length (is_in Digit) ds)) 0 ≡ suc (length ds) → cond (is_in Alpha x) (suc (run_length (is_in Alpha) (ds ++ ys))) 0 ≡ 0
    go true d e = rw (digit_no_letter x d)
    go false d e = absurd (omega arith)

-- a text is a part and what is behind it
pub record Part (ds name rest : List ℕ) : Type 0 where
  pub is : (text : List ℕ) → is_part text (ds ++ (name ++ rest)) ≡ same_text name text
  pub value : part_value (ds ++ (name ++ rest)) ≡ value_of 10 ds
  pub behind : drop (part_end (ds ++ (name ++ rest))) (ds ++ (name ++ rest)) ≡ rest

module _ (ds name rest : List ℕ) (some : 0 < length ds) (digits : run_length (is_in Digit) ds ≡ length ds) (letters : run_length (is_in Alpha) name ≡ length name)
    (first : run_length (is_in Digit) (name ++ rest) ≡ 0) (over : run_length (is_in Alpha) rest ≡ 0) where
  abbrev xs : List ℕ
  xs = ds ++ (name ++ rest)

  digits_end_holds : digits_end xs ≡ length ds
  digits_end_holds = omega (arith, run_past (is_in Digit) ds (name ++ rest) digits)

  from : drop (digits_end xs) xs ≡ name ++ rest
  from = ap (λ (n : ℕ). drop n xs) digits_end_holds ∙ drop-append_seam ds (name ++ rest)

  part_end_holds : part_end xs ≡ digits_end xs + length name
  part_end_holds = ap (λ (n : ℕ). digits_end xs + n) (ap (run_length (is_in Alpha)) from ∙ omega (arith, run_past (is_in Alpha) name rest letters))

  letters_are : between xs (digits_end xs) (part_end xs) ≡ name
  letters_are =
      let k : part_end xs - digits_end xs ≡ length name = omega (arith, part_end_holds) in
      ap₂ (λ (n : ℕ) (l : List ℕ). take n l) k from ∙ take-append_seam name rest

  part_is : (text : List ℕ) → is_part text xs ≡ same_text name text
  unfolding is_part
  part_is text = rw (lt-ltb 0 (digits_end xs) (omega (arith, digits_end_holds)), letters_are)

  pub part : Part ds name rest
  part =
      record {
        is = part_is;
        value = ap (value_of 10) (ap (λ (n : ℕ). take n xs) digits_end_holds ∙ take-append_seam ds (name ++ rest));
        behind = ap (λ (n : ℕ). drop n xs) part_end_holds ∙ sym (drop-drop (length name) (digits_end xs) xs) ∙ ap (drop (length name)) from ∙ drop-append_seam name rest;
      }
