-- A word by the table of leads: its first letters and digits, and then what a word goes on with, are the word; it goes on behind them exactly
-- where it has a colon; and a word with a colon is none of document 01's. By induction on the bytes.
use Prim.Native.Nat.{ℕ, suc, ◌+◌}
use Prim.Native.Char.{code}
use native.Mathlib.Nat.{zero-add}
use native.Mathlib.Omega.{arith}
use mathlib.Core.Bool.{Bool, true, false, cond, ◌||◌, true≢false}
use mathlib.Core.List.{List, [], ◌∷◌}
use mathlib.Core.Logic.{◌⊎◌, inl, inr}
use mathlib.Core.Path.{◌≡◌, refl, sym, ◌∙◌}
use lib.Dec.{eqb, ltb, leb-suc-suc}
use lib.ListN.{take, drop}
use borrow.Author.Tests.{lt-ltb}
use Rattle.std.specs.Prelude.{None, Option, Some}
use Rattle.proving.proofs.Tests.{itself, tests_eq, tests_or, affirmed}
use Rattle.scan.specs.declared.byte.Class.TheVariants.{AlphaNumeric, Word}
use Rattle.scan.specs.Byte.{peek_at, is_within, is_alpha, is_digit, is_alpha_numeric, is_word, is_in}
use Rattle.scan.specs.Run.{run_length, run_end}
use Rattle.scan.specs.Text.{has}
use Rattle.scan.proofs.byte.Classes.{end_in_none}
use Rattle.scan.proofs.Runs.{run_goes_on}
use Rattle.token.specs.Kinds.{metric_identifier}
use Rattle.token.specs.Words.{keyword_of}
use Rattle.token.specs.steps.WordRows.{word_table}
use Rattle.token.proofs.Lookup.{table_finds, colon_in_none}
use Rattle.munch.specs.Word.{is_word_start, has_colon, rule_by, kind_by}
use Rattle.munch.specs.declared.Mode.{Mode}
use Rattle.munch.specs.declared.Step.TheVariants.{Lexeme}
use Rattle.munch.specs.Munch.{word_step, brace_word}
use Rattle.munch.specs.steps.Leads.{colon_lead, digit_lead, lead_table, is_from}
use Rattle.munch.specs.steps.Lent.{kind_from, word_step_by, brace_word_by}
use Rattle.munch.proofs.Classes.{label_tells, word_tells}

-- runs by two tests that agree are one
run_same : (p q : ℕ → Bool) → ((c : ℕ) → p c ≡ q c) → (xs : List ℕ) → run_length p xs ≡ run_length q xs
unfolding run_length
run_same p q h [] = refl
run_same p q h (x ∷ xs) = rw (h x, run_same p q h xs)

abbrev label : List ℕ → ℕ
label = run_length (is_in AlphaNumeric)

abbrev word : List ℕ → ℕ
word = run_length (is_in Word)

-- the word goes on behind its first letters and digits
word_behind_label : (xs : List ℕ) → label xs + word (drop (label xs) xs) ≡ word xs
unfolding run_length is_in is_word
word_behind_label [] = refl
word_behind_label (x ∷ xs) = go (is_alpha_numeric x) refl (word_behind_label xs)
  where
    go : (b : Bool) → is_alpha_numeric x ≡ b → label xs + word (drop (label xs) xs) ≡ word xs → cond b (suc (label xs)) 0 + word (drop (cond b (suc (label xs)) 0) (x ∷ xs)) ≡ cond (b || eqb x (code ":")) (suc (word xs)) 0
    go true e r = omega arith
    go false e r = rw (e, zero-add)

no_colon : (x : ℕ) → is_alpha_numeric x ≡ true → eqb x (code ":") ≡ false
unfolding is_alpha_numeric is_alpha is_within
no_colon x e = affirmed (tests_eq x (code ":")) (λ z. true≢false (sym e ∙ rw z))

-- and there stands a colon
colon_behind_label : (xs : List ℕ) → has (code ":") (take (word xs) xs) ≡ ltb (label xs) (word xs)
unfolding run_length has is_in is_word
colon_behind_label [] = refl
colon_behind_label (x ∷ xs) = go (is_alpha_numeric x) (eqb x (code ":")) refl refl (colon_behind_label xs)
  where
    go : (b o : Bool) → is_alpha_numeric x ≡ b → eqb x (code ":") ≡ o → has (code ":") (take (word xs) xs) ≡ ltb (label xs) (word xs)
        → has (code ":") (take (cond (b || o) (suc (word xs)) 0) (x ∷ xs)) ≡ ltb (cond b (suc (label xs)) 0) (cond (b || o) (suc (word xs)) 0)
    go true o e f r = rw (no_colon x e, leb-suc-suc) r
    go false true e f r = rw f (sym (lt-ltb 0 (suc (word xs)) (omega arith)))
    go false false e f r = refl

-- what begins a word goes on with it
start_goes_on : (c : ℕ) → is_word_start c ≡ true → is_in Word c ≡ true
unfolding is_word_start is_in is_word is_alpha_numeric
start_goes_on c h = go ((tests_or (itself (is_alpha c)) (itself (eqb c (code ":")))).0 h)
  where
    go : (is_alpha c ≡ true) ⊎ (eqb c (code ":") ≡ true) → (is_alpha c || is_digit c) || eqb c (code ":") ≡ true
    go (inl a) = rw a
    go (inr l) = (tests_or (itself (is_alpha c || is_digit c)) (itself (eqb c (code ":")))).1 (inr l)

letter_goes_on : (c : ℕ) → is_alpha c ≡ true → is_in AlphaNumeric c ≡ true
unfolding is_in is_alpha_numeric
letter_goes_on c a = rw a

module _ (m : Mode) (xs : List ℕ) where
  -- the kind of a word, by whether it has a colon
  kind_by_colon : (n : ℕ) (b : Bool) → has_colon xs n ≡ b → cond b (Lexeme metric_identifier n m) (Lexeme (kind_from (keyword_of (take n xs)) xs n) n m) ≡ Lexeme (kind_by (rule_by (keyword_of (take n xs)) xs n)) n m
  unfolding rule_by kind_by
  kind_by_colon n true h = rw (colon_in_none (take n xs) h, h)
  kind_by_colon n false h = go (keyword_of (take n xs))
    where
      go : (k : Option ℕ) → Lexeme (kind_from k xs n) n m ≡ Lexeme (kind_by (rule_by k xs n)) n m
      go (Some k) = refl
      go None = rw h

  pub word_by_tables : is_word_start (peek_at xs 0) ≡ true → word_step_by lead_table word_table m xs ≡ word_step m xs
  unfolding word_step_by word_step
  word_by_tables s =
      let e : run_end (is_from lead_table digit_lead) xs 0 ≡ label xs = omega (arith, run_same (is_from lead_table digit_lead) (is_in AlphaNumeric) label_tells xs) in
      let f : run_end (is_from lead_table colon_lead) xs (label xs) ≡ word xs = omega (arith, run_same (is_from lead_table colon_lead) (is_in Word) word_tells (drop (label xs) xs), word_behind_label xs) in
      let g : run_end (is_in Word) xs 1 ≡ word xs = omega (arith, run_goes_on (is_in Word) (end_in_none Word) xs 0 (start_goes_on (peek_at xs 0) s)) in
      rw (e, f, g, table_finds (take (word xs) xs)) (kind_by_colon (word xs) (ltb (label xs) (word xs)) (colon_behind_label xs))

  pub brace_word_by_table : is_alpha (peek_at xs 0) ≡ true → brace_word_by lead_table m xs ≡ brace_word m xs
  unfolding brace_word_by brace_word
  brace_word_by_table s =
      let e : run_end (is_from lead_table digit_lead) xs 0 ≡ label xs = omega (arith, run_same (is_from lead_table digit_lead) (is_in AlphaNumeric) label_tells xs) in
      let g : run_end (is_in AlphaNumeric) xs 1 ≡ label xs = omega (arith, run_goes_on (is_in AlphaNumeric) (end_in_none AlphaNumeric) xs 0 (letter_goes_on (peek_at xs 0) s)) in
      rw (e, g)
