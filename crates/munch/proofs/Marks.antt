-- What a step does to what is open, by the rows of the table that is for the place: the row of a mark's byte makes its lexeme, and the others make none that
-- has a mark's kind or the end's, since a word has none (`no_mark`, `not_the_end`). White space does as the other lexemes do, and the end is come to outside.
use Prim.Native.Nat.{ℕ, suc, ◌-◌}
use Prim.Native.Char.{code}
use native.Mathlib.Omega.{arith}
use mathlib.Core.Bool.{Bool, true, false}
use mathlib.Core.List.{List}
use mathlib.Core.Path.{◌≡◌, refl, ap₂, subst}
use lib.Dec.{eqb}
use lib.ListN.{take, drop}
use borrow.Author.Tests.{eqb-true, eqb-false}
use Rattle.scan.specs.declared.byte.Class.TheVariants.{AlphaNumeric, Word}
use Rattle.scan.specs.Byte.{end, peek_at, is_space, is_digit, is_in}
use Rattle.scan.specs.Run.{run_end}
use Rattle.scan.specs.Text.{has}
use Rattle.proving.proofs.Choice.{either}
use Rattle.token.specs.Kinds.{eof_kind, string, number, duration, comma, eql, add, sub, mul, div, modulo, pow, eqlc, neq, lte, lss, gte, gtr, eql_regex, neq_regex, at_sign}
use Rattle.token.specs.Words.{keyword_of}
use Rattle.token.proofs.Fits.{keyword_fits}
use Rattle.utf8.specs.declared.Reading.{Reading}
use Rattle.numeral.specs.declared.Numeral.{Numeral}
use Rattle.numeral.specs.declared.Numeral.TheVariants.{Number, Duration, Neither}
use Rattle.numeral.specs.Numeral.{numeral_of}
use Rattle.quoted.specs.declared.Fault.{Fault}
use Rattle.std.specs.Prelude.{Err, Ok, Result}
use Rattle.quoted.specs.Quoted.{quoted_of, comment_end}
use Rattle.munch.specs.declared.Inside.{Inside}
use Rattle.munch.specs.declared.Inside.TheVariants.{Nothing, Braces, Brackets}
use Rattle.munch.specs.declared.Mode.{Mode}
use Rattle.munch.specs.declared.Step.{Step}
use Rattle.munch.specs.declared.Step.TheVariants.{Lexeme, Space, Comment, Refused, Finished}
use Rattle.munch.specs.Munch.{mode, if_next, number_by, number_step, dot_step, quoted_by, quoted_step, comment_step, word_step, equals_step, bang_step, compare_step, right_paren_step, end_step, brace_word, brace_equals, brace_bang, colon_step, outside_table, brace_table, bracket_table, step_in, munched}
use Rattle.munch.specs.laws.Modes.{past, Commented}
use Rattle.munch.specs.laws.Rows.{Outside, Begins}
use Rattle.munch.specs.laws.Marks.{Does, opens_paren, closes_paren, opens_brace, closes_brace, opens_bracket, closes_bracket, first_colon, other, StepDoes, NoneEnds, SpaceWhite, CommentIs}
use Rattle.munch.proofs.Openings.{by_rows}
use Rattle.munch.proofs.word.Fits.{no_mark, not_the_end, word_fits, brace_word_fits}

-- of a step
abbrev pub DoesOf : List ℕ → Mode → Step → Type 0
DoesOf xs m (Lexeme k n m') = Does xs m k n m' × (eqb k eof_kind ≡ false)
DoesOf xs m (Space m') = (m' ≡ mode m.depth (past m.inside)) × (is_space (peek_at xs 0) ≡ true)
DoesOf xs m (Comment n) = Commented m.inside × Begins (code "#") xs × (n ≡ suc (comment_end (drop 1 xs)))
DoesOf xs m (Refused number o) = Unit {0}
DoesOf xs m Finished = Outside m

-- a fact of both steps is a fact of the choice by the second byte
by_second : (P : Step → Type 0) (xs : List ℕ) (c : ℕ) {s t : Step} → P s → P t → P (if_next xs c s t)
by_second P xs c f g = either P (eqb (peek_at xs 1) c) (λ e. f) (λ e. g)

module _ (r : Reading) (d : ℕ) (i : Inside) (xs : List ℕ) where
  -- here, and behind a lexeme that does nothing
  abbrev Here : Step → Type 0
  Here = DoesOf xs (mode d i)

  abbrev next : Mode
  next = mode d (past i)

  number_does : Here (number_step r next xs)
  unfolding number_step has
  number_does = go (numeral_of r xs)
    where
      go : (n : Numeral) → Here (number_by next n)
      go (Number n) = (other number n refl, refl)
      go (Duration n) = (other duration n refl, refl)
      go (Neither n) = tt

  string_does : Here (quoted_step r next xs)
  unfolding quoted_step has
  string_does = go (quoted_of r (peek_at xs 0) (drop 1 xs))
    where
      go : (q : Result ℕ Fault) → Here (quoted_by next q)
      go (Ok n) = (other string (suc n) refl, refl)
      go (Err e') = tt

  word_does : Here (word_step next xs)
  unfolding word_step
  word_does = let n = run_end (is_in Word) xs 1 in let w = word_fits xs n (keyword_of (take n xs)) (keyword_fits (take n xs)) in (other _ _ (no_mark _ w), not_the_end _ w)

  brace_word_does : Here (brace_word next xs)
  unfolding brace_word
  brace_word_does = let w = brace_word_fits xs (run_end (is_in AlphaNumeric) xs 1) in (other _ _ (no_mark _ w), not_the_end _ w)

module _ (r : Reading) (d : ℕ) (xs : List ℕ) where
  first : (y : ℕ) → eqb (peek_at xs 0) y ≡ true → peek_at xs 0 ≡ y
  first y h = eqb-true (peek_at xs 0) y h

  outside_does : DoesOf xs (mode d Nothing) (step_in r d Nothing (peek_at xs 0) xs)
  unfolding step_in outside_table comment_step dot_step equals_step bang_step compare_step right_paren_step end_step has
  outside_does =
      let P = Here r d Nothing xs in
      by_rows (λ step. P (step xs)) (peek_at xs 0) (outside_table r d) 19
      (λ h. word_does r d Nothing xs)
      (λ h. (refl, h))
      (λ h. string_does r d Nothing xs)
      (λ h. number_does r d Nothing xs)
      (λ h. either P (eqb d 0) (λ e. refl) (λ e. tt))
      (λ h. (tt, first _ h, refl))
      (λ h. either P (is_digit (peek_at xs 1)) (λ e. number_does r d Nothing xs) (λ e. by_second P xs end tt tt))
      (λ h. (opens_paren refl (first _ h), refl))
      (λ h. either P (eqb d 0) (λ e. tt) (λ e. (closes_paren (d - 1) refl (first _ h) (omega (arith, eqb-false d 0 e)), refl)))
      (λ h. (opens_brace refl (first _ h), refl))
      (λ h. tt)
      (λ h. (opens_bracket refl (first _ h), refl))
      (λ h. tt)
      (λ h. (other comma 1 refl, refl))
      (λ h. by_second P xs (code "=") (other eqlc 2 refl, refl) (by_second P xs (code "~") tt (other eql 1 refl, refl)))
      (λ h. (other add 1 refl, refl))
      (λ h. (other sub 1 refl, refl))
      (λ h. (other mul 1 refl, refl))
      (λ h. (other div 1 refl, refl))
      (λ h. (other modulo 1 refl, refl))
      (λ h. (other pow 1 refl, refl))
      (λ h. by_second P xs (code "=") (other neq 2 refl, refl) (by_second P xs end tt tt))
      (λ h. by_second P xs (code "=") (other lte 2 refl, refl) (other lss 1 refl, refl))
      (λ h. by_second P xs (code "=") (other gte 2 refl, refl) (other gtr 1 refl, refl))
      (λ h. (other at_sign 1 refl, refl))
      (λ n. tt)

  brace_does : DoesOf xs (mode d Braces) (step_in r d Braces (peek_at xs 0) xs)
  unfolding step_in brace_table comment_step brace_equals brace_bang has
  brace_does =
      let P = Here r d Braces xs in
      by_rows (λ step. P (step xs)) (peek_at xs 0) (brace_table r d) 26
      (λ h. brace_word_does r d Braces xs)
      (λ h. (refl, h))
      (λ h. string_does r d Braces xs)
      (λ h. tt)
      (λ h. (tt, first _ h, refl))
      (λ h. tt)
      (λ h. (closes_brace refl (first _ h), refl))
      (λ h. (other comma 1 refl, refl))
      (λ h. by_second P xs (code "~") (other eql_regex 2 refl, refl) (other eql 1 refl, refl))
      (λ h. by_second P xs (code "=") (other neq 2 refl, refl) (by_second P xs (code "~") (other neq_regex 2 refl, refl) (by_second P xs end tt tt)))
      (λ n. tt)

  bracket_does : (seen fresh : Bool) → DoesOf xs (mode d (Brackets seen fresh)) (step_in r d (Brackets seen fresh) (peek_at xs 0) xs)
  unfolding step_in bracket_table colon_step
  bracket_does seen fresh =
      let P = Here r d (Brackets seen fresh) xs in
      by_rows (λ step. P (step xs)) (peek_at xs 0) (bracket_table r d seen fresh) 31
      (λ h. (refl, h))
      (λ h. number_does r d (Brackets seen fresh) xs)
      (λ h. tt)
      (λ h. tt)
      (λ h. (closes_bracket (record { seen = seen; fresh = fresh; there = refl }) (first _ h), refl))
      (λ h. either P seen (λ e. tt) (λ e. either P fresh (λ f. tt) (λ f. (first_colon (ap₂ Brackets e f) (first _ h), refl))))
      (λ n. tt)

  inside_does : (i : Inside) → DoesOf xs (mode d i) (step_in r d i (peek_at xs 0) xs)
  inside_does Nothing = outside_does
  inside_does Braces = brace_does
  inside_does (Brackets seen fresh) = bracket_does seen fresh

pub does_of : (r : Reading) (m : Mode) (xs : List ℕ) → DoesOf xs m (munched r m xs)
unfolding munched
does_of r m xs = inside_does r m.depth xs m.inside

pub step_does : StepDoes
step_does r m m' xs k n e = (subst (DoesOf xs m) e (does_of r m xs)).0

pub none_ends : NoneEnds
none_ends r m m' xs k n e = (subst (DoesOf xs m) e (does_of r m xs)).1

pub space_white : SpaceWhite
space_white r m m' xs e = (subst (DoesOf xs m) e (does_of r m xs)).1

pub comment_is : CommentIs
comment_is r m xs n e = let d = subst (DoesOf xs m) e (does_of r m xs) in (d.1, d.2)
