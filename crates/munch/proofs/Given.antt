-- A step is refused exactly when its row holds. Forward, by the mode and the rows of its table: the tests that lead to a refusal there are the
-- condition of document 01's row. Backward, that condition fixes the mode and the first byte, so that the table comes to the refusal; a byte that
-- none of its rows is for is another character in 01's words. No two rows hold together, since a step has one answer.
use Prim.Native.Nat.{ℕ, suc, ◌≤◌}
use Prim.Native.Char.{code}
use native.Mathlib.Omega.{arith}
use mathlib.Core.Bool.{Bool, true, false}
use mathlib.Core.List.{List}
use mathlib.Core.Logic.{◌⊎◌, inl, inr}
use mathlib.Core.Path.{◌≡◌, refl, sym, ap, ap₂, subst, ◌∙◌}
use lib.Dec.{eqb}
use lib.ListN.{drop}
use borrow.Author.Tests.{eqb-true, eqb-false, ne_eqb}
use Rattle.scan.specs.Byte.{end, peek_at, is_within, is_space, is_alpha, is_digit, is_quote, backquote}
use Rattle.proving.proofs.Choice.{either}
use Rattle.proving.proofs.Choice as choice
use Rattle.utf8.specs.declared.Reading.{Reading}
use Rattle.utf8.specs.declared.Reading.TheVariants.{Crate, Documented}
use Rattle.numeral.specs.declared.Numeral.{Numeral}
use Rattle.numeral.specs.declared.Numeral.TheVariants.{Number, Duration, Neither}
use Rattle.numeral.specs.Numeral.{numeral_of}
use Rattle.numeral.specs.Texts.{Begun}
use Rattle.numeral.proofs.Given.{number_given, duration_given}
use Rattle.numeral.proofs.Places.{neither_given}
use Rattle.token.specs.Kinds.{string, number, duration}
use Rattle.quoted.specs.declared.Fault.{Fault}
use Rattle.quoted.specs.Quoted.{fault}
use Rattle.std.specs.Prelude.{Err, Ok, Result}
use Rattle.quoted.specs.Quoted.{unknown_escape, end_in_escape, end_in_string, is_raw, quoted_of}
use Rattle.quoted.specs.laws.Quoted.{Numbered}
use Rattle.quoted.specs.laws.Texts.{IsString}
use Rattle.quoted.proofs.Strings.{string_numbered}
use Rattle.quoted.proofs.Texts.{string_given}
use Rattle.munch.specs.declared.Inside.{Inside}
use Rattle.munch.specs.declared.Inside.TheVariants.{Nothing, Braces, Brackets}
use Rattle.munch.specs.declared.Mode.{Mode}
use Rattle.munch.specs.declared.Step.{Step}
use Rattle.munch.specs.declared.Step.TheVariants.{Lexeme, Space, Comment, Refused, Finished}
use Rattle.munch.specs.Word.{is_word_start}
use Rattle.munch.specs.Munch.{mode, if_next, refuse, number_by, number_step, dot_step, quoted_by, quoted_step, comment_step, word_step, equals_step, bang_step, compare_step, right_paren_step, end_step, brace_word, brace_equals, brace_bang, colon_step, outside_table, brace_table, bracket_table, step_in, munched}
use Rattle.munch.specs.laws.Modes.{past}
use Rattle.munch.proofs.Openings.{by_rows, none_takes}
use Rattle.munch.proofs.Starts.{one_quote, digit_outside, digit_in_brackets, quote_outside, quote_in_braces}
use Rattle.munch.specs.laws.Rows.{Outside, InBraces, InBrackets, Begins, Follows, named_outside, named_in_braces, named_in_brackets, NumberBegins, StringBegins, Row, row10, row11, row12, row13, row14, row15, row16, row17, row18, row19, row20, row21, row22, row23, row24, row25, row26, row27, row28, row29, row30, row31, row32, RowsGiven, NumbersGiven, ElsewhereAlike, StringsGiven, RowNumbers, OneRow}

-- what a step tells: of a refusal, its row
abbrev Told : Reading → Mode → List ℕ → Step → Type 0
Told r m xs (Lexeme k n m') = Unit {0}
Told r m xs (Space m') = Unit {0}
Told r m xs (Comment n) = Unit {0}
Told r m xs (Refused number o) = Row r m xs number o
Told r m xs Finished = Unit {0}

-- a fact of both steps, each with what is known of the second byte, is a fact of the choice by it
by_second : (P : Step → Type 0) (xs : List ℕ) (c : ℕ) {two one : Step} → (Follows c xs → P two) → (¬ (Follows c xs) → P one) → P (if_next xs c two one)
by_second P xs c f g = either P (eqb (peek_at xs 1) c) (λ e. f (eqb-true (peek_at xs 1) c e)) (λ e. g (eqb-false (peek_at xs 1) c e))

-- what begins a number is begun as its text is
begun_as_number : (m : Mode) (xs : List ℕ) → NumberBegins m xs → Begun xs
begun_as_number m xs (inl (w, d)) = inl d
begun_as_number m xs (inr (o, b, d)) = inr (b, d)

-- forward: what each clause of the definition tells
module _ (r : Reading) (m : Mode) (xs : List ℕ) where
  number_told : NumberBegins m xs → (m' : Mode) → Told r m xs (number_step r m' xs)
  unfolding number_step
  number_told b m' = go (numeral_of r xs) refl
    where
      go : (n : Numeral) → numeral_of r xs ≡ n → Told r m xs (number_by m' n)
      go (Number n) e = tt
      go (Duration n) e = tt
      go (Neither n) e = row20 n (b, (neither_given r xs (begun_as_number m xs b) n).0 e)

  -- a string is closed, or refused with one of three numbers
  string_told : StringBegins m xs → (m' : Mode) → Told r m xs (quoted_step r m' xs)
  unfolding quoted_step
  string_told b m' = go (quoted_of r (peek_at xs 0) (drop 1 xs)) refl (string_numbered r (peek_at xs 0) (drop 1 xs))
    where
      go : (q : Result ℕ Fault) → quoted_of r (peek_at xs 0) (drop 1 xs) ≡ q → Numbered q → Told r m xs (quoted_by m' q)
      go (Ok n) e h = tt
      go (Err e') e (inl f) = rw f (row21 e'.at (b, (string_given r (peek_at xs 0) b.1 (drop 1 xs) e'.at).1.0 (e ∙ rw f)))
      go (Err e') e (inr (inl f)) = rw f (row22 e'.at (b, (string_given r (peek_at xs 0) b.1 (drop 1 xs) e'.at).2.0 (e ∙ rw f)))
      go (Err e') e (inr (inr f)) = rw f (row23 e'.at (b, (string_given r (peek_at xs 0) b.1 (drop 1 xs) e'.at).3.0 (e ∙ rw f)))

  -- of the bytes that are left
  abbrev Telling : (List ℕ → Step) → Type 0
  Telling step = Told r m xs (step xs)

  -- the first byte is a sign
  begun : (y : ℕ) → eqb (peek_at xs 0) y ≡ true → Begins y xs
  begun y h = eqb-true (peek_at xs 0) y h

  outside_told : Outside m → Told r m xs (step_in r m.depth Nothing (peek_at xs 0) xs)
  unfolding step_in outside_table word_step comment_step dot_step equals_step bang_step compare_step right_paren_step end_step
  outside_told o =
      by_rows Telling (peek_at xs 0) (outside_table r m.depth) 19
      (λ h. tt)
      (λ h. tt)
      (λ h. string_told (inl o, h) _)
      (λ h. number_told (inl (inl o, h)) _)
      (λ h. either (Told r m xs) (eqb m.depth 0) (λ d. tt) (λ d. row10 (o, begun end h, omega (arith, eqb-false m.depth 0 d))))
      (λ h. tt)
      (λ h. let b = begun (code ".") h in either (Told r m xs) (is_digit (peek_at xs 1)) (λ d. number_told (inr (o, b, d)) _) (λ d. by_second (Told r m xs) xs end (λ f. row15 (o, b, f)) (λ f. row14 (o, b, d, f))))
      (λ h. tt)
      (λ h. either (Told r m xs) (eqb m.depth 0) (λ d. row16 (o, begun (code ")") h, eqb-true m.depth 0 d)) (λ d. tt))
      (λ h. tt)
      (λ h. row17 (o, begun (code "}") h))
      (λ h. tt)
      (λ h. row18 (o, begun (code "]") h))
      (λ h. tt)
      (λ h. by_second (Told r m xs) xs (code "=") (λ f. tt) (λ f. by_second (Told r m xs) xs (code "~") (λ g. row11 (o, begun (code "=") h, g)) (λ g. tt)))
      (λ h. tt)
      (λ h. tt)
      (λ h. tt)
      (λ h. tt)
      (λ h. tt)
      (λ h. tt)
      (λ h. let b = begun (code "!") h in by_second (Told r m xs) xs (code "=") (λ f. tt) (λ f. by_second (Told r m xs) xs end (λ g. row13 (inl o, b, g)) (λ g. row12 (o, b, f, g))))
      (λ h. by_second (Told r m xs) xs (code "=") (λ f. tt) (λ f. tt))
      (λ h. by_second (Told r m xs) xs (code "=") (λ f. tt) (λ f. tt))
      (λ h. tt)
      (λ n. row19 (o, n))

  braces_told : InBraces m → Told r m xs (step_in r m.depth Braces (peek_at xs 0) xs)
  unfolding step_in brace_table brace_word comment_step brace_equals brace_bang
  braces_told i =
      by_rows Telling (peek_at xs 0) (brace_table r m.depth) 26
      (λ h. tt)
      (λ h. tt)
      (λ h. string_told (inr i, h) _)
      (λ h. row27 (i, begun end h))
      (λ h. tt)
      (λ h. row25 (i, begun (code "{") h))
      (λ h. tt)
      (λ h. tt)
      (λ h. by_second (Told r m xs) xs (code "~") (λ f. tt) (λ f. tt))
      (λ h. let b = begun (code "!") h in by_second (Told r m xs) xs (code "=") (λ f. tt) (λ f. by_second (Told r m xs) xs (code "~") (λ g. tt) (λ g. by_second (Told r m xs) xs end (λ k. row13 (inr i, b, k)) (λ k. row24 (i, b, f, g, k)))))
      (λ n. row26 (i, n))

  brackets_told : (i : InBrackets m) → Told r m xs (step_in r m.depth (Brackets i.seen i.fresh) (peek_at xs 0) xs)
  unfolding step_in bracket_table colon_step
  brackets_told i =
      by_rows Telling (peek_at xs 0) (bracket_table r m.depth i.seen i.fresh) 31
      (λ h. tt)
      (λ h. number_told (inl (inr i, h)) _)
      (λ h. row32 (i, begun end h))
      (λ h. row30 (i, begun (code "[") h))
      (λ h. tt)
      (λ h. let b = begun (code ":") h in either (Told r m xs) i.seen (λ s. row28 (i, s, b)) (λ s. either (Told r m xs) i.fresh (λ f. row29 (i, s, f, b)) (λ f. tt)))
      (λ n. row31 (i, n))

  told : Told r m xs (munched r m xs)
  unfolding munched
  told = go m.inside refl
    where
      go : (i : Inside) → m.inside ≡ i → Told r m xs (step_in r m.depth i (peek_at xs 0) xs)
      go Nothing o = outside_told o
      go Braces i = braces_told i
      go (Brackets s f) i = brackets_told (record { seen = s; fresh = f; there = i })

-- backward: the step where the mode is known, and what the table has for the first byte
module _ (r : Reading) (m : Mode) (xs : List ℕ) where
  outside_by_tables : Outside m → {step : List ℕ → Step} → step_in r m.depth Nothing (peek_at xs 0) ≡ step → munched r m xs ≡ step xs
  unfolding munched
  outside_by_tables o e = rw (o, e)

  braces_by : InBraces m → {step : List ℕ → Step} → step_in r m.depth Braces (peek_at xs 0) ≡ step → munched r m xs ≡ step xs
  unfolding munched
  braces_by i e = rw (i, e)

  brackets_by_tables : (i : InBrackets m) {step : List ℕ → Step} → step_in r m.depth (Brackets i.seen i.fresh) (peek_at xs 0) ≡ step → munched r m xs ≡ step xs
  unfolding munched
  brackets_by_tables i e = rw (i.there, e)

  -- where it is a sign
  outside_at : Outside m → {y : ℕ} → Begins y xs → munched r m xs ≡ step_in r m.depth Nothing y xs
  outside_at o b = outside_by_tables o (ap (step_in r m.depth Nothing) b)

  braces_at : InBraces m → {y : ℕ} → Begins y xs → munched r m xs ≡ step_in r m.depth Braces y xs
  braces_at i b = braces_by i (ap (step_in r m.depth Braces) b)

  brackets_at : (i : InBrackets m) {y : ℕ} → Begins y xs → munched r m xs ≡ step_in r m.depth (Brackets i.seen i.fresh) y xs
  brackets_at i b = brackets_by_tables i (ap (step_in r m.depth (Brackets i.seen i.fresh)) b)

  -- where a number begins, or a string, and where this has its fault
  number_begun : NumberBegins m xs → munched r m xs ≡ number_by (mode m.depth (past m.inside)) (numeral_of r xs)
  unfolding step_in outside_table dot_step number_step is_word_start is_quote is_alpha is_space is_within
  number_begun (inl (inl o, d)) = outside_by_tables o (digit_outside r m.depth (peek_at xs 0) d) ∙ rw o
  number_begun (inl (inr i, d)) = brackets_by_tables i (digit_in_brackets r m.depth i.seen i.fresh (peek_at xs 0) d) ∙ rw i.there
  number_begun (inr (o, b, d)) = outside_at o b ∙ rw (d, o)

  string_begun : StringBegins m xs → munched r m xs ≡ quoted_by (mode m.depth m.inside) (quoted_of r (peek_at xs 0) (drop 1 xs))
  unfolding quoted_step
  string_begun (inl o, q) = outside_by_tables o (quote_outside r m.depth (peek_at xs 0) q) ∙ rw o
  string_begun (inr i, q) = braces_by i (quote_in_braces r m.depth (peek_at xs 0) q) ∙ rw i

  string_fails : (number n : ℕ) → StringBegins m xs → quoted_of r (peek_at xs 0) (drop 1 xs) ≡ Err (fault number n) → munched r m xs ≡ Refused number (suc n)
  string_fails number n b e = string_begun b ∙ ap (quoted_by _) e

  -- where no row is for the byte
  other_outside : Outside m → named_outside (peek_at xs 0) ≡ false → munched r m xs ≡ Refused 19 0
  unfolding step_in outside_table
  other_outside o n = outside_by_tables o {step = refuse 19} (none_takes (outside_table r m.depth) 19 (peek_at xs 0) n)

  other_in_braces : InBraces m → named_in_braces (peek_at xs 0) ≡ false → munched r m xs ≡ Refused 26 0
  unfolding step_in brace_table
  other_in_braces i n = braces_by i {step = refuse 26} (none_takes (brace_table r m.depth) 26 (peek_at xs 0) n)

  other_in_brackets : InBrackets m → named_in_brackets (peek_at xs 0) ≡ false → munched r m xs ≡ Refused 31 0
  unfolding step_in bracket_table
  other_in_brackets i n = brackets_by_tables i {step = refuse 31} (none_takes (bracket_table r m.depth i.seen i.fresh) 31 (peek_at xs 0) n)

  gives : {number o : ℕ} → Row r m xs number o → munched r m xs ≡ Refused number o
  unfolding step_in outside_table brace_table bracket_table dot_step equals_step bang_step right_paren_step end_step brace_bang colon_step is_word_start is_quote is_alpha is_space is_within
  gives (row10 (o, b, d)) = outside_at o b ∙ rw (ne_eqb m.depth 0 (omega arith))
  gives (row11 (o, b, f)) = outside_at o b ∙ rw f
  gives (row12 (o, b, f, g)) = outside_at o b ∙ rw (ne_eqb (peek_at xs 1) (code "=") f, ne_eqb (peek_at xs 1) end g)
  gives (row13 (inl o, b, f)) = outside_at o b ∙ rw f
  gives (row13 (inr i, b, f)) = braces_at i b ∙ rw f
  gives (row14 (o, b, d, f)) = outside_at o b ∙ rw (d, ne_eqb (peek_at xs 1) end f)
  gives (row15 (o, b, f)) = outside_at o b ∙ rw f
  gives (row16 (o, b, d)) = outside_at o b ∙ rw d
  gives (row17 (o, b)) = outside_at o b
  gives (row18 (o, b)) = outside_at o b
  gives (row19 (o, n)) = other_outside o n
  gives (row20 n (b, e)) = number_begun b ∙ ap (number_by _) ((neither_given r xs (begun_as_number m xs b) n).1 e)
  gives (row21 n (b, h)) = string_fails unknown_escape n b ((string_given r (peek_at xs 0) b.1 (drop 1 xs) n).1.1 h)
  gives (row22 n (b, h)) = string_fails end_in_escape n b ((string_given r (peek_at xs 0) b.1 (drop 1 xs) n).2.1 h)
  gives (row23 n (b, h)) = string_fails end_in_string n b ((string_given r (peek_at xs 0) b.1 (drop 1 xs) n).3.1 h)
  gives (row24 (i, b, f, g, h)) =
      braces_at i b ∙ rw (ne_eqb (peek_at xs 1) (code "=") f, ne_eqb (peek_at xs 1) (code "~") g, ne_eqb (peek_at xs 1) end h)
  gives (row25 (i, b)) = braces_at i b
  gives (row26 (i, n)) = other_in_braces i n
  gives (row27 (i, b)) = braces_at i b
  gives (row28 (i, s, b)) = brackets_at i b ∙ rw s
  gives (row29 (i, s, f, b)) = brackets_at i b ∙ rw (s, f)
  gives (row30 (i, b)) = brackets_at i b
  gives (row31 (i, n)) = other_in_brackets i n
  gives (row32 (i, b)) = brackets_at i b

pub rows_given : RowsGiven
rows_given r m xs number o = ((λ e. subst (Told r m xs) e (told r m xs)), gives r m xs)

pub one_row : OneRow
one_row r m xs number o other p a b =
    let e = gives r m xs a in
    let f = gives r m xs b in
    (cc, cc)

row_bounds : {r : Reading} {m : Mode} {xs : List ℕ} {number o : ℕ} → Row r m xs number o → (10 ≤ number) × (number ≤ 32)
row_bounds (row10 h) = (omega arith, omega arith)
row_bounds (row11 h) = (omega arith, omega arith)
row_bounds (row12 h) = (omega arith, omega arith)
row_bounds (row13 h) = (omega arith, omega arith)
row_bounds (row14 h) = (omega arith, omega arith)
row_bounds (row15 h) = (omega arith, omega arith)
row_bounds (row16 h) = (omega arith, omega arith)
row_bounds (row17 h) = (omega arith, omega arith)
row_bounds (row18 h) = (omega arith, omega arith)
row_bounds (row19 h) = (omega arith, omega arith)
row_bounds (row20 n h) = (omega arith, omega arith)
row_bounds (row21 n h) = (omega arith, omega arith)
row_bounds (row22 n h) = (omega arith, omega arith)
row_bounds (row23 n h) = (omega arith, omega arith)
row_bounds (row24 h) = (omega arith, omega arith)
row_bounds (row25 h) = (omega arith, omega arith)
row_bounds (row26 h) = (omega arith, omega arith)
row_bounds (row27 h) = (omega arith, omega arith)
row_bounds (row28 h) = (omega arith, omega arith)
row_bounds (row29 h) = (omega arith, omega arith)
row_bounds (row30 h) = (omega arith, omega arith)
row_bounds (row31 h) = (omega arith, omega arith)
row_bounds (row32 h) = (omega arith, omega arith)

pub row_numbers : RowNumbers
row_numbers r m xs number o h = row_bounds h

-- a lexeme's kind and how many bytes it has
abbrev kind_in : Step → ℕ
kind_in (Lexeme k n m) = k
kind_in (Space m) = 0
kind_in (Comment n) = 0
kind_in (Refused number o) = 0
kind_in Finished = 0

abbrev size_in : Step → ℕ
size_in (Lexeme k n m) = n
size_in (Space m) = 0
size_in (Comment n) = 0
size_in (Refused number o) = 0
size_in Finished = 0

abbrev mode_in : Mode → Step → Mode
mode_in m (Lexeme k n m') = m'
mode_in m (Space m') = m
mode_in m (Comment n) = m
mode_in m (Refused number o) = m
mode_in m Finished = m

pub numbers_given : NumbersGiven
numbers_given r m m' xs n b = (
  ((λ e. let q = number_back (numeral_of r xs) (sym step ∙ e) in ((number_given r xs begun n).0 q.0, q.1)), λ i. given (Number n) ((number_given r xs begun n).1 i.0) i.1),
  ((λ e. let q = duration_back (numeral_of r xs) (sym step ∙ e) in ((duration_given r xs begun n).0 q.0, q.1)), λ i. given (Duration n) ((duration_given r xs begun n).1 i.0) i.1),
)
  where
    begun : Begun xs
    begun = begun_as_number m xs b

    step : munched r m xs ≡ number_by (mode m.depth (past m.inside)) (numeral_of r xs)
    step = number_begun r m xs b

    given : (v : Numeral) → numeral_of r xs ≡ v → m' ≡ mode m.depth (past m.inside) → munched r m xs ≡ number_by m' v
    given v e f = step ∙ ap₂ number_by (sym f) e

    number_back : (v : Numeral) → number_by (mode m.depth (past m.inside)) v ≡ Lexeme number n m' → (v ≡ Number n) × (m' ≡ mode m.depth (past m.inside))
    number_back (Number k) f = (ap Number (ap size_in f), sym (ap (mode_in m') f))
    number_back (Duration k) f = choice.told kind_in f refl (λ h. absurd (omega (arith, h)))
    number_back (Neither k) f = choice.told kind_in f refl (λ h. absurd (omega (arith, h)))

    duration_back : (v : Numeral) → number_by (mode m.depth (past m.inside)) v ≡ Lexeme duration n m' → (v ≡ Duration n) × (m' ≡ mode m.depth (past m.inside))
    duration_back (Number k) f = choice.told kind_in f refl (λ h. absurd (omega (arith, h)))
    duration_back (Duration k) f = (ap Duration (ap size_in f), sym (ap (mode_in m') f))
    duration_back (Neither k) f = choice.told kind_in f refl (λ h. absurd (omega (arith, h)))

-- no string begins in brackets
quote_in_brackets : (c : ℕ) → is_quote c ≡ true → named_in_brackets c ≡ false
unfolding is_space is_within
quote_in_brackets = one_quote named_in_brackets refl refl refl

pub strings_given : StringsGiven
strings_given r m m' xs n q = (λ e. to m.inside refl e, from)
  where
    there : StringBegins m xs → munched r m xs ≡ Lexeme string (suc n) m' → StringBegins m xs × IsString r (peek_at xs 0) (drop 1 xs) n × (m' ≡ mode m.depth m.inside)
    there b e = let p = back (quoted_of r (peek_at xs 0) (drop 1 xs)) (sym (string_begun r m xs b) ∙ e) in (b, (string_given r (peek_at xs 0) q (drop 1 xs) n).0.0 p.0, p.1)
      where
        back : (v : Result ℕ Fault) → quoted_by (mode m.depth m.inside) v ≡ Lexeme string (suc n) m' → (v ≡ Ok n) × (m' ≡ mode m.depth m.inside)
        back (Ok k) f = (ap Ok (omega (arith, ap size_in f)), sym (ap (mode_in m') f))
        back (Err e') f = choice.told kind_in f refl (λ h. absurd (omega (arith, h)))

    to : (i : Inside) → m.inside ≡ i → munched r m xs ≡ Lexeme string (suc n) m' → StringBegins m xs × IsString r (peek_at xs 0) (drop 1 xs) n × (m' ≡ mode m.depth m.inside)
    to Nothing i e = there (inl i, q) e
    to Braces i e = there (inr i, q) e
    to (Brackets seen fresh) i e =
        choice.told kind_in e (other_in_brackets r m xs (record { seen = seen; fresh = fresh; there = i }) (quote_in_brackets (peek_at xs 0) q)) (λ h. absurd (omega (arith, h)))

    from : StringBegins m xs × IsString r (peek_at xs 0) (drop 1 xs) n × (m' ≡ mode m.depth m.inside) → munched r m xs ≡ Lexeme string (suc n) m'
    from (b, s, e) = string_begun r m xs b ∙ ap₂ quoted_by (sym e) ((string_given r (peek_at xs 0) q (drop 1 xs) n).0.1 s)

-- where no number begins, the rows that make one are not come to, nor that of a string where none begins
none_begins : (b : Bool) → (b ≡ true → ⊥) → b ≡ false
none_begins true h = absurd (h refl)
none_begins false h = refl

dot_alone : (r s : Reading) (d : ℕ) (xs : List ℕ) → is_digit (peek_at xs 1) ≡ false → step_in r d Nothing (code ".") xs ≡ step_in s d Nothing (code ".") xs
unfolding step_in outside_table dot_step is_word_start is_quote is_alpha is_space is_within
dot_alone r s d xs h = rw h refl

outside_alone :
    (r s : Reading) (d : ℕ) (xs : List ℕ) (c : ℕ) → is_quote c ≡ false → is_digit c ≡ false → (b : Bool) → eqb c (code ".") ≡ b → (b ≡ true → is_digit (peek_at xs 1) ≡ false) →
    step_in r d Nothing c xs ≡ step_in s d Nothing c xs
unfolding step_in outside_table
outside_alone r s d xs c q h true e g =
    let p = eqb-true c (code ".") e in
    ap (λ y. step_in r d Nothing y xs) p ∙ dot_alone r s d xs (g refl) ∙ sym (ap (λ y. step_in s d Nothing y xs) p)
outside_alone r s d xs c q h false e g = rw (q, h, e) refl

brackets_alone : (r s : Reading) (d : ℕ) (seen fresh : Bool) (xs : List ℕ) (c : ℕ) → is_digit c ≡ false → step_in r d (Brackets seen fresh) c xs ≡ step_in s d (Brackets seen fresh) c xs
unfolding step_in bracket_table
brackets_alone r s d seen fresh xs c h = rw h refl

braces_alone : (r s : Reading) (d : ℕ) (xs : List ℕ) (c : ℕ) → is_quote c ≡ false → step_in r d Braces c xs ≡ step_in s d Braces c xs
unfolding step_in brace_table
braces_alone r s d xs c q = rw q refl

-- a string that another sign than a backquote opens has escapes
has_escapes : (r : Reading) (symbol : ℕ) → eqb symbol backquote ≡ false → is_raw r symbol ≡ false
unfolding is_raw
has_escapes Crate symbol h = refl
has_escapes Documented symbol h = h

pub elsewhere_alike : ElsewhereAlike
unfolding munched
elsewhere_alike r s m xs h k = go m.inside refl (is_quote (peek_at xs 0)) refl
  where
    no_digit : (Outside m ⊎ InBrackets m) → is_digit (peek_at xs 0) ≡ false
    no_digit w = none_begins (is_digit (peek_at xs 0)) (λ d. h (inl (w, d)))

    string_alike : StringBegins m xs → munched r m xs ≡ munched s m xs
    string_alike b =
        let n = none_begins (eqb (peek_at xs 0) backquote) (λ e. k (b, eqb-true (peek_at xs 0) backquote e)) in
        string_begun r m xs b ∙ rw (has_escapes r (peek_at xs 0) n, has_escapes s (peek_at xs 0) n) refl ∙ sym (string_begun s m xs b)

    go : (i : Inside) → m.inside ≡ i → (b : Bool) → is_quote (peek_at xs 0) ≡ b → munched r m xs ≡ munched s m xs
    go Nothing e true q = string_alike (inl e, q)
    go Nothing e false q =
        rw e (outside_alone r s m.depth xs (peek_at xs 0) q (no_digit (inl e)) (eqb (peek_at xs 0) (code ".")) refl (λ p. none_begins (is_digit (peek_at xs 1)) (λ d. h (inr (e, eqb-true (peek_at xs 0) (code ".") p, d)))))
    go Braces e true q = string_alike (inr e, q)
    go Braces e false q = rw e (braces_alone r s m.depth xs (peek_at xs 0) q)
    go (Brackets seen fresh) e b q =
        rw e (brackets_alone r s m.depth seen fresh xs (peek_at xs 0) (no_digit (inr (record { seen = seen; fresh = fresh; there = e }))))
