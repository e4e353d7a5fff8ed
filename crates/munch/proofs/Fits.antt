-- The kind of a lexeme that a step takes has 16 bits: a definition names it, or a word has it (`word_fits`). By the mode, then by the rows of its
-- table.
use Prim.Native.Nat.{ℕ, ◌^◌, ◌<◌}
use Prim.Native.Char.{code}
use native.Mathlib.Omega.{arith}
use mathlib.Core.Bool.{Bool}
use mathlib.Core.List.{List}
use lib.Dec.{eqb}
use lib.ListN.{take, drop}
use Rattle.scan.specs.declared.byte.Class.TheVariants.{AlphaNumeric, Word}
use Rattle.scan.specs.Byte.{end, peek_at, is_digit, is_in}
use Rattle.scan.specs.Run.{run_end}
use Rattle.proving.proofs.Choice.{either}
use Rattle.token.specs.Words.{keyword_of}
use Rattle.token.specs.Kinds.{lte, lss, gte, gtr}
use Rattle.token.proofs.Fits.{keyword_fits}
use Rattle.utf8.specs.declared.Reading.{Reading}
use Rattle.numeral.specs.declared.Numeral.{Numeral}
use Rattle.numeral.specs.declared.Numeral.TheVariants.{Number, Duration, Neither}
use Rattle.numeral.specs.Numeral.{numeral_of}
use Rattle.quoted.specs.declared.Fault.{Fault}
use Rattle.std.specs.Prelude.{Err, Ok, Result}
use Rattle.quoted.specs.Quoted.{quoted_of}
use Rattle.munch.proofs.word.Fits.{small, word_fits, brace_word_fits}
use Rattle.munch.specs.declared.Inside.{Inside}
use Rattle.munch.specs.declared.Inside.TheVariants.{Nothing, Braces, Brackets}
use Rattle.munch.specs.declared.Mode.{Mode}
use Rattle.munch.specs.declared.Step.{Step}
use Rattle.munch.specs.Munch.{mode, if_next, number_by, number_step, dot_step, quoted_by, quoted_step, comment_step, word_step, equals_step, bang_step, compare_step, right_paren_step, end_step, brace_word, brace_equals, brace_bang, colon_step, outside_table, brace_table, bracket_table, step_in, munched}
use Rattle.munch.specs.laws.Step.{Fits, StepFits}
use Rattle.munch.proofs.Openings.{by_rows}

module _ (m : Mode) (xs : List ℕ) where
  number_fits : (r : Reading) → Fits (number_step r m xs)
  unfolding number_step
  number_fits r = go (numeral_of r xs)
    where
      go : (n : Numeral) → Fits (number_by m n)
      go (Number n) = omega arith
      go (Duration n) = omega arith
      go (Neither n) = tt

  string_fits : (r : Reading) → Fits (quoted_step r m xs)
  unfolding quoted_step
  string_fits r = go (quoted_of r (peek_at xs 0) (drop 1 xs))
    where
      go : (q : Result ℕ Fault) → Fits (quoted_by m q)
      go (Ok n) = omega arith
      go (Err e') = tt

  -- one step or another
  next_fits : (c : ℕ) (s t : Step) → Fits s → Fits t → Fits (if_next xs c s t)
  next_fits c s t f g = either Fits (eqb (peek_at xs 1) c) (λ e. f) (λ e. g)

  dot_fits : (r : Reading) → Fits (dot_step r m xs)
  unfolding dot_step
  dot_fits r = either Fits (is_digit (peek_at xs 1)) (λ e. number_fits r) (λ e. next_fits end _ _ tt tt)

  equals_fits : Fits (equals_step m xs)
  unfolding equals_step
  equals_fits = next_fits (code "=") _ _ (omega arith) (next_fits (code "~") _ _ tt (omega arith))

  bang_fits : Fits (bang_step m xs)
  unfolding bang_step
  bang_fits = next_fits (code "=") _ _ (omega arith) (next_fits end _ _ tt tt)

  compare_fits : (equal alone : ℕ) → equal < 2 ^ 16 → alone < 2 ^ 16 → Fits (compare_step equal alone m xs)
  unfolding compare_step
  compare_fits equal alone h g = next_fits (code "=") _ _ h g

  regex_fits : Fits (brace_equals m xs)
  unfolding brace_equals
  regex_fits = next_fits (code "~") _ _ (omega arith) (omega arith)

  brace_bang_fits : Fits (brace_bang m xs)
  unfolding brace_bang
  brace_bang_fits = next_fits (code "=") _ _ (omega arith) (next_fits (code "~") _ _ (omega arith) (next_fits end _ _ tt tt))

module _ (r : Reading) (d : ℕ) (xs : List ℕ) where
  paren_fits : Fits (right_paren_step d)
  unfolding right_paren_step
  paren_fits = either Fits (eqb d 0) (λ e. tt) (λ e. omega arith)

  end_fits : Fits (end_step d)
  unfolding end_step
  end_fits = either Fits (eqb d 0) (λ e. tt) (λ e. tt)

  colon_fits : (seen fresh : Bool) → Fits (colon_step d seen fresh)
  unfolding colon_step
  colon_fits seen fresh = either Fits seen (λ e. tt) (λ e. either Fits fresh (λ f. tt) (λ f. omega arith))

  word_step_fits : (m : Mode) → Fits (word_step m xs)
  unfolding word_step
  word_step_fits m = let n = run_end (is_in Word) xs 1 in small _ (word_fits xs n (keyword_of (take n xs)) (keyword_fits (take n xs)))

  brace_word_step_fits : (m : Mode) → Fits (brace_word m xs)
  unfolding brace_word
  brace_word_step_fits m = small _ (brace_word_fits xs (run_end (is_in AlphaNumeric) xs 1))

  -- of the bytes that are left
  abbrev Small : (List ℕ → Step) → Type 0
  Small step = Fits (step xs)

  outside_fits : Fits (step_in r d Nothing (peek_at xs 0) xs)
  unfolding step_in outside_table comment_step
  outside_fits =
      let here = mode d Nothing in
      by_rows Small (peek_at xs 0) (outside_table r d) 19
      (λ h. word_step_fits here)
      (λ h. tt)
      (λ h. string_fits here xs r)
      (λ h. number_fits here xs r)
      (λ h. end_fits)
      (λ h. tt)
      (λ h. dot_fits here xs r)
      (λ h. omega arith)
      (λ h. paren_fits)
      (λ h. omega arith)
      (λ h. tt)
      (λ h. omega arith)
      (λ h. tt)
      (λ h. omega arith)
      (λ h. equals_fits here xs)
      (λ h. omega arith)
      (λ h. omega arith)
      (λ h. omega arith)
      (λ h. omega arith)
      (λ h. omega arith)
      (λ h. omega arith)
      (λ h. bang_fits here xs)
      (λ h. compare_fits here xs lte lss (omega arith) (omega arith))
      (λ h. compare_fits here xs gte gtr (omega arith) (omega arith))
      (λ h. omega arith)
      (λ n. tt)

  brace_fits : Fits (step_in r d Braces (peek_at xs 0) xs)
  unfolding step_in brace_table comment_step
  brace_fits =
      let here = mode d Braces in
      by_rows Small (peek_at xs 0) (brace_table r d) 26
      (λ h. brace_word_step_fits here)
      (λ h. tt)
      (λ h. string_fits here xs r)
      (λ h. tt)
      (λ h. tt)
      (λ h. tt)
      (λ h. omega arith)
      (λ h. omega arith)
      (λ h. regex_fits here xs)
      (λ h. brace_bang_fits here xs)
      (λ n. tt)

  bracket_fits : (seen fresh : Bool) → Fits (step_in r d (Brackets seen fresh) (peek_at xs 0) xs)
  unfolding step_in bracket_table
  bracket_fits seen fresh =
      by_rows Small (peek_at xs 0) (bracket_table r d seen fresh) 31
      (λ h. tt)
      (λ h. number_fits _ xs r)
      (λ h. tt)
      (λ h. tt)
      (λ h. omega arith)
      (λ h. colon_fits seen fresh)
      (λ n. tt)

  inside_fits : (i : Inside) → Fits (step_in r d i (peek_at xs 0) xs)
  inside_fits Nothing = outside_fits
  inside_fits Braces = brace_fits
  inside_fits (Brackets seen fresh) = bracket_fits seen fresh

pub step_fits : StepFits
unfolding munched
step_fits r m xs = inside_fits r m.depth xs m.inside
