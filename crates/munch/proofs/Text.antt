-- The bytes of a lexeme, by the rows of the tables: a sign is a byte or two that the row and the choice behind it name; a word goes on with bytes of its class,
-- none of which is apart; of a number, a duration and a string it is the law of what they are.
use Prim.Native.Nat.{ℕ, zero, suc, ◌<◌}
use Prim.Native.Char.{code}
use native.Mathlib.Omega.{arith}
use mathlib.Core.Bool.{Bool, true, false, ◌&&◌, not}
use mathlib.Core.List.{List}
use mathlib.Core.Logic.{inl, inr}
use mathlib.Core.Path.{◌≡◌, refl, subst}
use lib.Dec.{eqb}
use lib.ListN.{drop}
use borrow.Author.Tests.{eqb-true, not-true}
use Rattle.scan.specs.declared.byte.Class.{Class}
use Rattle.scan.specs.declared.byte.Class.TheVariants as class
use Rattle.scan.specs.Byte.{end, peek_at, is_quote, is_space, is_within, is_alpha, is_digit, is_alpha_numeric, is_word, is_in}
use Rattle.scan.specs.Run.{run_end}
use Rattle.scan.specs.laws.Edge.{AsciiAlone}
use Rattle.scan.proofs.Edges.{class_ascii}
use Rattle.scan.proofs.Runs.{run_passes}
use Rattle.proving.proofs.Below.{all_below, below}
use Rattle.proving.proofs.Choice.{either}
use Rattle.utf8.specs.declared.Reading.{Reading}
use Rattle.numeral.specs.declared.Numeral.{Numeral}
use Rattle.numeral.specs.declared.Numeral.TheVariants.{Number, Duration, Neither}
use Rattle.numeral.specs.Numeral.{numeral_of}
use Rattle.numeral.specs.Texts.{Begun}
use Rattle.numeral.specs.laws.Texts.{is_apart}
use Rattle.numeral.proofs.Given.{number_given, duration_given}
use Rattle.numeral.proofs.Plain.{none_apart}
use Rattle.quoted.specs.declared.Fault.{Fault}
use Rattle.std.specs.Prelude.{Err, Ok, Result}
use Rattle.quoted.specs.Quoted.{quoted_of}
use Rattle.quoted.proofs.Texts.{string_given}
use Rattle.munch.specs.Word.{is_word_start}
use Rattle.munch.specs.declared.Inside.{Inside}
use Rattle.munch.specs.declared.Inside.TheVariants.{Nothing, Braces, Brackets}
use Rattle.munch.specs.declared.Mode.{Mode}
use Rattle.munch.specs.declared.Step.{Step}
use Rattle.munch.specs.Munch.{if_next, number_by, number_step, dot_step, quoted_by, quoted_step, comment_step, word_step, equals_step, bang_step, compare_step, right_paren_step, end_step, brace_word, brace_equals, brace_bang, colon_step, outside_table, brace_table, bracket_table, step_in, munched}
use Rattle.munch.specs.laws.Step.{OfLexeme}
use Rattle.munch.specs.laws.Text.{TextOf, quoted, left, right, bare, LexemeText}
use Rattle.munch.proofs.Openings.{by_rows}
use Rattle.munch.proofs.Starts.{start_ascii}

-- what passes a test that no byte apart does
not_apart : (p : ℕ → Bool) → AsciiAlone p → all_below (λ x. not (p x && is_apart x)) 0x80 ≡ true → (c : ℕ) → p c ≡ true → is_apart c ≡ false
not_apart p a t c e = not-true (is_apart c) (rw e at (below (λ x. not (p x && is_apart x)) 0x80 t c (a c e)))

-- a fact of both steps is one of the choice by the second byte
next : (P : Step → Type 0) (xs : List ℕ) (c : ℕ) {s t : Step} → (eqb (peek_at xs 1) c ≡ true → P s) → P t → P (if_next xs c s t)
next P xs c f g = either P (eqb (peek_at xs 1) c) f (λ e. g)

module _ (r : Reading) (xs : List ℕ) where
  -- of a step
  abbrev Text : Step → Type 0
  Text = OfLexeme (TextOf r xs)

  -- a sign of one byte, and of two
  one : (c : ℕ) → is_apart c ≡ false → {k : ℕ} → eqb (peek_at xs 0) c ≡ true → TextOf r xs k 1
  one c a {k} h = bare k 1 go
    where
      go : (i : ℕ) → i < 1 → is_apart (peek_at xs i) ≡ false
      go zero l = rw (eqb-true (peek_at xs 0) c h) a
      go (suc i) l = absurd (omega arith)

  two : (c d : ℕ) → is_apart c ≡ false → is_apart d ≡ false → {k : ℕ} → eqb (peek_at xs 0) c ≡ true → eqb (peek_at xs 1) d ≡ true → TextOf r xs k 2
  two c d a b {k} h e = bare k 2 go
    where
      go : (i : ℕ) → i < 2 → is_apart (peek_at xs i) ≡ false
      go zero l = rw (eqb-true (peek_at xs 0) c h) a
      go (suc zero) l = rw (eqb-true (peek_at xs 1) d e) b
      go (suc (suc i)) l = absurd (omega arith)

  -- a word: its first byte, and those of its class
  word : (p : Class) → ((c : ℕ) → is_in p c ≡ true → is_apart c ≡ false) → {k : ℕ} → is_apart (peek_at xs 0) ≡ false → TextOf r xs k (run_end (is_in p) xs 1)
  word p a {k} f = bare k _ go
    where
      go : (i : ℕ) → i < run_end (is_in p) xs 1 → is_apart (peek_at xs i) ≡ false
      go zero l = f
      go (suc i) l = a _ (run_passes (is_in p) xs 1 (suc i) (omega arith) l)

  word_text : (m : Mode) → is_word_start (peek_at xs 0) ≡ true → Text (word_step m xs)
  unfolding word_step is_apart is_space is_quote is_in is_word is_alpha_numeric is_alpha is_within is_word_start
  word_text m h = word class.Word (not_apart _ (class_ascii class.Word refl) refl) (not_apart is_word_start start_ascii refl (peek_at xs 0) h)

  brace_word_text : (m : Mode) → is_alpha (peek_at xs 0) ≡ true → Text (brace_word m xs)
  unfolding brace_word is_apart is_space is_quote is_in is_alpha_numeric is_alpha is_within
  brace_word_text m h = word class.AlphaNumeric (not_apart _ (class_ascii class.AlphaNumeric refl) refl) (not_apart is_alpha (class_ascii class.Alpha refl) refl (peek_at xs 0) h)

  number_text : (m : Mode) → Begun xs → Text (number_step r m xs)
  unfolding number_step
  number_text m b = go (numeral_of r xs) refl
    where
      go : (v : Numeral) → numeral_of r xs ≡ v → Text (number_by m v)
      go (Number n) e = bare _ n (none_apart r xs n (inl ((number_given r xs b n).0 e)))
      go (Duration n) e = bare _ n (none_apart r xs n (inr ((duration_given r xs b n).0 e)))
      go (Neither n) e = tt

  string_text : (m : Mode) → is_quote (peek_at xs 0) ≡ true → Text (quoted_step r m xs)
  unfolding quoted_step
  string_text m h = go (quoted_of r (peek_at xs 0) (drop 1 xs)) refl
    where
      go : (v : Result ℕ Fault) → quoted_of r (peek_at xs 0) (drop 1 xs) ≡ v → Text (quoted_by m v)
      go (Ok n) e = quoted n h ((string_given r (peek_at xs 0) h (drop 1 xs) n).0.0 e)
      go (Err e') e = tt

  outside_text : (d : ℕ) → Text (step_in r d Nothing (peek_at xs 0) xs)
  unfolding step_in outside_table comment_step dot_step equals_step bang_step compare_step right_paren_step end_step is_apart is_space is_quote
  outside_text d =
      by_rows (λ step. Text (step xs)) (peek_at xs 0) (outside_table r d) 19
      (word_text _)
      (λ h. tt)
      (string_text _)
      (λ h. number_text _ (inl h))
      (λ h. either Text (eqb d 0) (λ e. tt) (λ e. tt))
      (λ h. tt)
      (λ h. either Text (is_digit (peek_at xs 1)) (λ e. number_text _ (inr (eqb-true (peek_at xs 0) _ h, e))) (λ e. next Text xs end (λ f. tt) tt))
      (one _ refl)
      (λ h. either Text (eqb d 0) (λ e. tt) (λ e. one _ refl h))
      (one _ refl)
      (λ h. tt)
      (λ h. left (eqb-true (peek_at xs 0) _ h))
      (λ h. tt)
      (one _ refl)
      (λ h. next Text xs (code "=") (two _ _ refl refl h) (next Text xs (code "~") (λ f. tt) (one _ refl h)))
      (one _ refl)
      (one _ refl)
      (one _ refl)
      (one _ refl)
      (one _ refl)
      (one _ refl)
      (λ h. next Text xs (code "=") (two _ _ refl refl h) (next Text xs end (λ f. tt) tt))
      (λ h. next Text xs (code "=") (two _ _ refl refl h) (one _ refl h))
      (λ h. next Text xs (code "=") (two _ _ refl refl h) (one _ refl h))
      (one _ refl)
      (λ n. tt)

  brace_text : (d : ℕ) → Text (step_in r d Braces (peek_at xs 0) xs)
  unfolding step_in brace_table comment_step brace_equals brace_bang is_apart is_space is_quote
  brace_text d =
      by_rows (λ step. Text (step xs)) (peek_at xs 0) (brace_table r d) 26
      (brace_word_text _)
      (λ h. tt)
      (string_text _)
      (λ h. tt)
      (λ h. tt)
      (λ h. tt)
      (one _ refl)
      (one _ refl)
      (λ h. next Text xs (code "~") (two _ _ refl refl h) (one _ refl h))
      (λ h. next Text xs (code "=") (two _ _ refl refl h) (next Text xs (code "~") (two _ _ refl refl h) (next Text xs end (λ f. tt) tt)))
      (λ n. tt)

  bracket_text : (d : ℕ) (seen fresh : Bool) → Text (step_in r d (Brackets seen fresh) (peek_at xs 0) xs)
  unfolding step_in bracket_table colon_step is_apart is_space is_quote
  bracket_text d seen fresh =
      by_rows (λ step. Text (step xs)) (peek_at xs 0) (bracket_table r d seen fresh) 31
      (λ h. tt)
      (λ h. number_text _ (inl h))
      (λ h. tt)
      (λ h. tt)
      (λ h. right (eqb-true (peek_at xs 0) _ h))
      (λ h. either Text seen (λ e. tt) (λ e. either Text fresh (λ f. tt) (λ f. one _ refl h)))
      (λ n. tt)

  inside_text : (d : ℕ) (i : Inside) → Text (step_in r d i (peek_at xs 0) xs)
  inside_text d Nothing = outside_text d
  inside_text d Braces = brace_text d
  inside_text d (Brackets seen fresh) = bracket_text d seen fresh

pub lexeme_text_holds : LexemeText
unfolding munched
lexeme_text_holds r m m' xs k n e = subst (Text r xs) e (inside_text r xs m.depth m.inside)
