-- What a newline behind the bytes does to a step. No word or number goes on with it, a closed string is read up to its closing sign alone, and
-- each test of the byte behind the first takes a newline as it takes the end, or chooses between refusals: nothing changes. It ends a comment
-- that nothing ended before. Behind a fill word and white space up to the end, what follows the newline may be a parenthesis.
use Prim.Native.Nat.{ℕ, suc, ◌<◌, ◌≤◌}
use Prim.Native.Char.{code}
use native.Mathlib.Decide.{dec_lt}
use native.Mathlib.Nat.{le_of_eq}
use native.Mathlib.Omega.{arith}
use mathlib.Core.Bool.{Bool, true, false, cond}
use mathlib.Core.List.{List, [], ◌∷◌, ◌++◌}
use mathlib.Core.Logic.{◌⊎◌, inl, inr}
use mathlib.Core.Path.{◌≡◌, refl, sym}
use lib.Dec.{eqb}
use lib.ListN.{length, take, get_or-append, get_or-eq_default}
use lib.Seq.{take-append-le}
use Rattle.std.specs.Prelude.{None, Option, Some}
use Rattle.scan.specs.declared.byte.Class.{Class}
use Rattle.scan.specs.declared.byte.Class.TheVariants as class
use Rattle.scan.specs.Byte.{end, peek_at, is_within, is_alpha, is_digit, is_alpha_numeric, is_word, is_in}
use Rattle.scan.specs.Run.{run_end}
use Rattle.proving.proofs.Choice.{either}
use Rattle.scan.proofs.Runs.{run_within, run_append, run_inside, peek_append}
use Rattle.utf8.specs.declared.Reading.{Reading}
use Rattle.token.specs.Kinds.{identifier, lss, lte, gtr, gte}
use Rattle.token.specs.Words.{keyword_of}
use Rattle.numeral.proofs.Seam.{numeral_seam}
use Rattle.quoted.specs.declared.Fault.{Fault}
use Rattle.std.specs.Prelude.{Err, Ok, Result}
use Rattle.quoted.specs.Quoted.{quoted_of, comment_end}
use Rattle.quoted.proofs.Strings.{string_seam}
use Rattle.quoted.proofs.Comments.{comment_seam}
use Rattle.munch.specs.Word.{is_fill, is_called, rule_by, is_or, brace_rule, kind_by}
use Rattle.munch.specs.declared.Inside.{Inside}
use Rattle.munch.specs.declared.Inside.TheVariants.{Nothing, Braces, Brackets}
use Rattle.munch.specs.declared.Mode.{Mode}
use Rattle.munch.specs.declared.Step.{Step}
use Rattle.munch.specs.declared.Step.TheVariants.{Lexeme, Comment, Refused}
use Rattle.munch.specs.Munch.{mode, number_step, dot_step, quoted_by, quoted_step, comment_step, word_step, equals_step, bang_step, compare_step, brace_word, brace_equals, brace_bang, outside_table, brace_table, bracket_table, step_in, munched}
use Rattle.munch.proofs.Openings.{by_rows}
use Rattle.munch.specs.laws.Step.{Seam, same, grown, called, refused, StepSeam}

-- no word goes on with a newline, and it is no digit, as the end is none
word_line : is_in class.Word (code "\n") ≡ false
unfolding is_in is_word is_alpha_numeric is_alpha is_within
word_line = refl

brace_word_line : is_in class.AlphaNumeric (code "\n") ≡ false
unfolding is_in is_alpha_numeric is_alpha is_within
brace_word_line = refl

digit_line : is_digit (code "\n") ≡ is_digit end
unfolding is_within
digit_line = refl

abbrev lined : List ℕ → List ℕ → List ℕ
lined xs ys = xs ++ code "\n" ∷ ys

-- what follows a word of n bytes: a parenthesis behind white space that ends within the bytes stays; up to the end there is none
module _ (xs ys : List ℕ) (n : ℕ) where
  called_stays : run_end (is_in class.Space) xs n < length xs → is_called (lined xs ys) n ≡ is_called xs n
  called_stays h =
      rw (run_inside (is_in class.Space) xs (code "\n" ∷ ys) n h, get_or-append xs (code "\n" ∷ ys) end (run_end (is_in class.Space) xs n) h)

  not_called : run_end (is_in class.Space) xs n ≡ length xs → is_called xs n ≡ false
  not_called e = rw (get_or-eq_default xs end (le_of_eq (sym e)))

  or_line : n ≤ length xs → is_or (lined xs ys) n ≡ is_or xs n
  unfolding is_or
  or_line l = rw (take-append-le n xs (code "\n" ∷ ys) l, peek_append (λ c. eqb c (code " ")) (code "\n") refl xs ys n l)

-- so a word's kind stays, but for that of a fill word
module _ (m : Mode) (xs ys : List ℕ) (n : ℕ) (l : n ≤ length xs) where
  fill_seam : (k : ℕ) → keyword_of (take n xs) ≡ Some k → (b : Bool) → is_fill k ≡ b → Dec (run_end (is_in class.Space) xs n < length xs)
      → Seam xs (Lexeme (kind_by (rule_by (Some k) xs n)) n m) (Lexeme (kind_by (rule_by (Some k) (lined xs ys) n)) n m)
  unfolding rule_by kind_by
  fill_seam k e false f d = rw f (same (Lexeme k n m))
  fill_seam k e true f (yes h) = rw (f, called_stays xs ys n h) (same _)
  fill_seam k e true f (no h) =
      let g : run_end (is_in class.Space) xs n ≡ length xs = omega (arith, run_within (is_in class.Space) xs n) in
      rw (f, not_called xs ys n g)
      (either (λ r. Seam xs (Lexeme identifier n m) (Lexeme (kind_by r) n m)) (is_called (lined xs ys) n) (λ c. called k n m e f g) (λ c. same (Lexeme identifier n m)))

  rule_seam : (w : Option ℕ) → keyword_of (take n xs) ≡ w → Seam xs (Lexeme (kind_by (rule_by w xs n)) n m) (Lexeme (kind_by (rule_by w (lined xs ys) n)) n m)
  unfolding rule_by
  rule_seam (Some k) e = fill_seam k e (is_fill k) refl (dec_lt (run_end (is_in class.Space) xs n) (length xs))
  rule_seam None e = rw (take-append-le n xs (code "\n" ∷ ys) l) (same _)

module _ (x : ℕ) (xs ys : List ℕ) where
  abbrev Seamed : Step → Step → Type 0
  Seamed = Seam (x ∷ xs)

  abbrev on : List ℕ
  on = lined (x ∷ xs) ys

  -- the rule of a look-ahead: a test of the byte behind the first that takes a newline as it takes the end chooses as before
  next_seam : (p : ℕ → Bool) → p (code "\n") ≡ p end → {s t u v : Step} → Seamed s u → Seamed t v → Seamed (cond (p (peek_at (x ∷ xs) 1)) s t) (cond (p (peek_at on 1)) u v)
  next_seam p e {s} {t} {u} {v} f g = rw (peek_append p (code "\n") e (x ∷ xs) ys 1 (omega arith)) (go (p (peek_at (x ∷ xs) 1)))
    where
      go : (b : Bool) → Seamed (cond b s t) (cond b u v)
      go true = f
      go false = g

  -- and which of two refusals is chosen does not matter
  refusals_seam : (b : Bool) (r o q p : ℕ) (s : Step) → Seamed (cond b (Refused r o) (Refused q p)) s
  refusals_seam b r o q p s = either (λ t. Seamed t s) b (λ e. refused r o s) (λ e. refused q p s)

  -- a run of a class that has no newline
  run_line : (k : Class) → is_in k (code "\n") ≡ false → run_end (is_in k) on 1 ≡ run_end (is_in k) (x ∷ xs) 1
  run_line k e = run_append (is_in k) (x ∷ xs) (code "\n") ys e 1 (omega arith)

  run_bound : (k : Class) → run_end (is_in k) (x ∷ xs) 1 ≤ suc (length xs)
  run_bound k = omega (arith, run_within (is_in k) (x ∷ xs) 1)

  comment_seamed : Seamed (comment_step (x ∷ xs)) (comment_step on)
  unfolding comment_step
  comment_seamed = go (comment_seam xs ys)
    where
      go : (comment_end (lined xs ys) ≡ comment_end xs) ⊎ ((comment_end xs ≡ length xs) × (comment_end (lined xs ys) ≡ suc (length xs))) → Seamed (Comment (suc (comment_end xs))) (Comment (suc (comment_end (lined xs ys))))
      go (inl e) = rw e (same _)
      go (inr e) = rw (e.0, e.1) grown

  module _ (m : Mode) where
    word_seam : Seamed (word_step m (x ∷ xs)) (word_step m on)
    unfolding word_step
    word_seam =
        let n = run_end (is_in class.Word) (x ∷ xs) 1 in
        rw (run_line class.Word word_line, take-append-le n (x ∷ xs) (code "\n" ∷ ys) (run_bound class.Word))
        (rule_seam m (x ∷ xs) ys n (run_bound class.Word) (keyword_of (take n (x ∷ xs))) refl)

    brace_word_seam : Seamed (brace_word m (x ∷ xs)) (brace_word m on)
    unfolding brace_word brace_rule
    brace_word_seam =
        let n = run_end (is_in class.AlphaNumeric) (x ∷ xs) 1 in
        rw (run_line class.AlphaNumeric brace_word_line, or_line (x ∷ xs) ys n (run_bound class.AlphaNumeric)) (same _)

    number_seam : (r : Reading) → Seamed (number_step r m (x ∷ xs)) (number_step r m on)
    unfolding number_step
    number_seam r = rw (numeral_seam r (x ∷ xs) ys) (same _)

    dot_seam : (r : Reading) → Seamed (dot_step r m (x ∷ xs)) (dot_step r m on)
    unfolding dot_step
    dot_seam r = next_seam is_digit digit_line (number_seam r) (refusals_seam (eqb (peek_at (x ∷ xs) 1) end) 15 0 14 1 _)

    quoted_seam : (r : Reading) → Seamed (quoted_step r m (x ∷ xs)) (quoted_step r m on)
    unfolding quoted_step
    quoted_seam r = go (quoted_of r x xs) refl
      where
        go : (q : Result ℕ Fault) → quoted_of r x xs ≡ q → Seamed (quoted_by m q) (quoted_by m (quoted_of r x (lined xs ys)))
        go (Ok n) e = rw (string_seam r x xs (code "\n" ∷ ys) n e) (same _)
        go (Err e') e = refused e'.number (suc e'.at) _

    equals_seam : Seamed (equals_step m (x ∷ xs)) (equals_step m on)
    unfolding equals_step
    equals_seam = next_seam (λ c. eqb c (code "=")) refl (same _) (next_seam (λ c. eqb c (code "~")) refl (same _) (same _))

    bang_seam : Seamed (bang_step m (x ∷ xs)) (bang_step m on)
    unfolding bang_step
    bang_seam = next_seam (λ c. eqb c (code "=")) refl (same _) (refusals_seam (eqb (peek_at (x ∷ xs) 1) end) 13 1 12 1 _)

    compare_seam : (equal alone : ℕ) → Seamed (compare_step equal alone m (x ∷ xs)) (compare_step equal alone m on)
    unfolding compare_step
    compare_seam equal alone = next_seam (λ c. eqb c (code "=")) refl (same _) (same _)

    regex_seam : Seamed (brace_equals m (x ∷ xs)) (brace_equals m on)
    unfolding brace_equals
    regex_seam = next_seam (λ c. eqb c (code "~")) refl (same _) (same _)

    brace_bang_seam : Seamed (brace_bang m (x ∷ xs)) (brace_bang m on)
    unfolding brace_bang
    brace_bang_seam =
        next_seam (λ c. eqb c (code "=")) refl (same _)
        (next_seam (λ c. eqb c (code "~")) refl (same _) (refusals_seam (eqb (peek_at (x ∷ xs) 1) end) 13 1 24 1 _))

  -- of the bytes, and of those with the newline behind them
  abbrev Seaming : (List ℕ → Step) → Type 0
  Seaming step = Seamed (step (x ∷ xs)) (step on)

  module _ (r : Reading) (d : ℕ) where
    outside_seam : Seamed (step_in r d Nothing x (x ∷ xs)) (step_in r d Nothing x on)
    unfolding step_in outside_table
    outside_seam =
        let here = mode d Nothing in
        by_rows Seaming x (outside_table r d) 19
        (λ h. word_seam here)
        (λ h. same _)
        (λ h. quoted_seam here r)
        (λ h. number_seam here r)
        (λ h. same _)
        (λ h. comment_seamed)
        (λ h. dot_seam here r)
        (λ h. same _)
        (λ h. same _)
        (λ h. same _)
        (λ h. same _)
        (λ h. same _)
        (λ h. same _)
        (λ h. same _)
        (λ h. equals_seam here)
        (λ h. same _)
        (λ h. same _)
        (λ h. same _)
        (λ h. same _)
        (λ h. same _)
        (λ h. same _)
        (λ h. bang_seam here)
        (λ h. compare_seam here lte lss)
        (λ h. compare_seam here gte gtr)
        (λ h. same _)
        (λ n. same _)

    brace_seam : Seamed (step_in r d Braces x (x ∷ xs)) (step_in r d Braces x on)
    unfolding step_in brace_table
    brace_seam =
        let here = mode d Braces in
        by_rows Seaming x (brace_table r d) 26
        (λ h. brace_word_seam here)
        (λ h. same _)
        (λ h. quoted_seam here r)
        (λ h. same _)
        (λ h. comment_seamed)
        (λ h. same _)
        (λ h. same _)
        (λ h. same _)
        (λ h. regex_seam here)
        (λ h. brace_bang_seam here)
        (λ n. same _)

    bracket_seam : (seen fresh : Bool) → Seamed (step_in r d (Brackets seen fresh) x (x ∷ xs)) (step_in r d (Brackets seen fresh) x on)
    unfolding step_in bracket_table
    bracket_seam seen fresh =
        by_rows Seaming x (bracket_table r d seen fresh) 31
        (λ h. same _)
        (λ h. number_seam (mode d (Brackets seen false)) r)
        (λ h. same _)
        (λ h. same _)
        (λ h. same _)
        (λ h. same _)
        (λ n. same _)

    -- the first byte, and so the row, stays
    inside_seam : (i : Inside) → Seamed (step_in r d i x (x ∷ xs)) (step_in r d i x on)
    inside_seam Nothing = outside_seam
    inside_seam Braces = brace_seam
    inside_seam (Brackets seen fresh) = bracket_seam seen fresh

pub step_seam : StepSeam
unfolding munched
step_seam r m [] ys h = absurd (omega arith)
step_seam r m (x ∷ xs) ys h = inside_seam x xs ys r m.depth m.inside
