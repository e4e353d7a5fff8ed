-- The rule that lexing takes for a word is the condition that holds of it: where a word begins, the step is the word's (the first row of each table), so that its
-- kind is the rule's, and each test of the rule tells its condition. Where none begins, no condition holds, since each asks for a word. What is open is told by the
-- mode that the lexeme's place is reached in (`mode_tells`).
use Prim.Native.Nat.{ℕ, suc, ◌+◌, ◌-◌, ◌≤◌, ◌<◌}
use Prim.Native.Char.{code}
use native.Mathlib.Decide.{dec_lt}
use native.Mathlib.Omega.{arith}
use mathlib.Core.Bool.{true, false, true≢false}
use mathlib.Core.List.{List, map}
use mathlib.Core.Logic.{inl, inr}
use mathlib.Core.Path.{◌≡◌, refl, sym, ap, subst, ◌∙◌}
use lib.ListN.{length, take, drop, get_or, get_or-map}
use lib.Seq.{get_or-take, get_or-drop}
use borrow.Author.Tests.{eqb-true, eq-eqb, le-leb, lt-leb}
use Rattle.utf8.specs.declared.Refusal.{Refusal}
use Rattle.std.specs.Prelude.{Err, None, Ok, Option, Result, Some}
use Rattle.scan.specs.declared.byte.Class.TheVariants as class
use Rattle.scan.specs.Ascii.{ascii}
use Rattle.scan.specs.Byte.{end, peek_at, is_within, is_space, is_alpha, lowered, is_in}
use Rattle.scan.specs.Text.{has}
use Rattle.scan.proofs.byte.Classes.{end_in_none}
use Rattle.scan.proofs.Runs.{run_passes, run_stopped}
use Rattle.scan.proofs.Same.{same_is_equal}
use Rattle.proving.proofs.Choice.{either, told}
use Rattle.proving.proofs.Tests.{Tests, denied, itself, tests_eq, tests_and}
use Rattle.utf8.specs.declared.Reading.{Reading}
use Rattle.utf8.specs.Answers.{text_limit}
use Rattle.token.specs.Words.{keyword_of}
use Rattle.munch.specs.declared.word.Rule.{Rule}
use Rattle.munch.specs.Word.{is_word_start, is_fill, is_called, past_white, is_or, rule_by, brace_rule, kind_by}
use Rattle.munch.specs.declared.Inside.{Inside}
use Rattle.munch.specs.declared.Inside.TheVariants.{Nothing, Braces, Brackets}
use Rattle.munch.specs.declared.Mode.{Mode}
use Rattle.munch.specs.declared.Step.{Step}
use Rattle.munch.specs.declared.Step.TheVariants as step
use Rattle.munch.specs.Munch.{mode, outside_table, brace_table, step_in, munched, word_step, brace_word}
use Rattle.lex.specs.Outcome.{Entry, entry, depth_by, step_length}
use Rattle.lex.specs.Lex.{eof, entries_of, kind_of, measured}
use Rattle.lex.specs.laws.Refusals.{Reaches}
use Rattle.lex.proofs.Given.{measured_given}
use Rattle.calls.specs.laws.Calls.{kinds_left}
use Rattle.calls.proofs.Calls.{counted, writes}
use Rattle.depths.proofs.Modes.{mode_tells}
use Rattle.reason.specs.declared.Found.{Found}
use Rattle.reason.specs.Reason.{reason_by, word_outside, word_in_braces, wording_of, no_lexeme, no_word, reason_of, reason_at, reasoned}
use Rattle.reason.specs.Conditions.{text_of, first_of, end_of, BracesOpen, NothingOpen, WordInBraces, WordOutside, IsWord, IsOr, Called, Applies, or_in_braces, word_of_braces, table_word, fill_called, fill_alone, with_colon, plain, Gives, or_is_or, name_in_braces, its_own, called_its_own, fill_is_a_name, metric_name, name}
use Rattle.reason.specs.laws.Reasons.{lexeme_of, ReasonGiven, WordsReasoned, LexingRefused, NoLexemeGiven, NoWordGiven, ReasonKind, CallKind}
use Rattle.reason.proofs.Fills.{fill_tested}
use Rattle.reason.proofs.Conditions.{no_kind, one_reason}
use Rattle.reason.proofs.Finds.{first_at, Finds, there, nowhere, finds}

-- at the end begins no word
end_no_letter : is_alpha end ≡ false
unfolding is_alpha is_within
end_no_letter = refl

end_no_start : is_word_start end ≡ false
unfolding is_word_start is_alpha is_within
end_no_start = refl

module _ (q : List ℕ) (es : List Entry) (e : Entry) where
  abbrev xs : List ℕ
  xs = drop e.start q

  -- no word is there where, by what is open, none begins
  none_there : (BracesOpen es e → is_alpha (first_of q e) ≡ false) → (NothingOpen es e → is_word_start (first_of q e) ≡ false) → ¬ (IsWord q es e)
  none_there b o (inl w) = true≢false (sym w.1 ∙ b w.0)
  none_there b o (inr w) = true≢false (sym w.1 ∙ o w.0)

  -- the tests of a rule tell its conditions
  place : (i : ℕ) → e.start ≤ i → peek_at xs (i - e.start) ≡ peek_at q i
  place i l = let z : e.start + (i - e.start) ≡ i = omega (arith, l) in rw z at (get_or-drop e.start q (i - e.start) end)

  or_tested : Tests (is_or xs e.length) (IsOr q e)
  unfolding is_or
  or_tested =
      subst (λ (c : ℕ). Tests (is_or xs e.length) ((map lowered (text_of q e) ≡ ascii "or") × (c ≡ code " "))) (get_or-drop e.start q e.length end)
      (tests_and (same_is_equal (map lowered (text_of q e)) (ascii "or")) (tests_eq (peek_at xs e.length) (code " ")))

  abbrev white : ℕ
  white = past_white xs e.length

  called_tested : Tests (is_called xs e.length) (Called q e)
  unfolding is_in is_space
  called_tested = (called, λ c. test c.0 c.1 c.2 c.3)
    where
      called : is_called xs e.length ≡ true → Called q e
      called h = (
        e.start + white,
        omega arith,
        (λ i l u. rw (place i (omega (arith, l))) at (run_passes (is_in class.Space) xs e.length (i - e.start) (omega (arith, l)) (omega (arith, l, u)))),
        sym (get_or-drop e.start q white end) ∙ eqb-true _ _ h,
      )

      test : (j : ℕ) → end_of e ≤ j → ((i : ℕ) → end_of e ≤ i → i < j → is_space (peek_at q i) ≡ true) → peek_at q j ≡ code "(" → is_called xs e.length ≡ true
      test j l w p = go (dec_lt (j - e.start) white) (dec_lt white (j - e.start))
        where
          go : Dec (j - e.start < white) → Dec (white < j - e.start) → is_called xs e.length ≡ true
          go (yes u) v = absurd (true≢false (sym (rw (place j (omega (arith, l)), p) at (run_passes (is_in class.Space) xs e.length (j - e.start) (omega (arith, l)) u))))
          go (no u) (yes v) = absurd (true≢false (sym (w (e.start + white) (omega arith) (omega (arith, v))) ∙ rw (get_or-drop e.start q white end) at (run_stopped (is_in class.Space) (end_in_none class.Space) xs e.length)))
          go (no u) (no v) =
              let z : white ≡ j - e.start = omega (arith, u, v) in
              eq-eqb (peek_at xs white) (code "(") (rw z (place j (omega (arith, l)) ∙ p))

  -- a rule that holds of a word, and gives its kind
  abbrev Judged : Rule → Type 0
  Judged rule = Applies q es e (reason_by rule) × Gives (text_of q e) (reason_by rule) (kind_by rule)

  judged_outside : WordOutside q es e → Judged (rule_by (keyword_of (text_of q e)) xs e.length)
  unfolding rule_by kind_by
  judged_outside w = go (keyword_of (text_of q e)) refl
    where
      go : (k : Option ℕ) → keyword_of (text_of q e) ≡ k → Judged (rule_by k xs e.length)
      go (Some k) f =
          either Judged (is_fill k)
          (λ h.
          either Judged (is_called xs e.length)
          (λ c. (fill_called w ((fill_tested q e k f).0 h) (called_tested.0 c), called_its_own k f))
          (λ c. (fill_alone w ((fill_tested q e k f).0 h) (denied called_tested c), fill_is_a_name)))
          (λ h. (table_word w (k, f) (denied (fill_tested q e k f) h), its_own k f))
      go None f =
          either Judged (has (code ":") (text_of q e))
          (λ c. (with_colon w c, metric_name))
          (λ c. (plain w (λ t. no_kind t.1 f) (denied (itself _) c), name))

  judged_braces : WordInBraces q es e → Judged (brace_rule xs e.length)
  unfolding brace_rule kind_by
  judged_braces w =
      either Judged (is_or xs e.length) (λ o. (or_in_braces w (or_tested.0 o), or_is_or)) (λ o. (word_of_braces w (denied or_tested o), name_in_braces))

-- so each word has a reason, and each reason is a word's
pub words_reasoned : WordsReasoned
words_reasoned q es e = (reason, λ a. word a.1)
  where
    reason : IsWord q es e → (n : ℕ) × Applies q es e n
    reason (inl w) = (_, (judged_braces q es e w).0)
    reason (inr w) = (_, (judged_outside q es e w).0)

    word : {n : ℕ} → Applies q es e n → IsWord q es e
    word (or_in_braces w o) = inl w
    word (word_of_braces w o) = inl w
    word (table_word w t n) = inr w
    word (fill_called w f c) = inr w
    word (fill_alone w f c) = inr w
    word (with_colon w c) = inr w
    word (plain w t c) = inr w

-- what is answered, and why
data Verdict (q : List ℕ) (es : List Entry) (e : Entry) : Result ℕ Refusal → Type 0 where
  given : (n : ℕ) → Applies q es e n → Gives (text_of q e) n e.kind → Verdict q es e (Ok n)
  none : (¬ (IsWord q es e)) → Verdict q es e no_word

by_rule : {q : List ℕ} {es : List Entry} {e : Entry} (rule : Rule) → Judged q es e rule → e.kind ≡ kind_by rule → Verdict q es e (reason_of (Some rule))
by_rule {q} {es} {e} rule j k = given (reason_by rule) j.0 (subst (Gives (text_of q e) (reason_by rule)) (sym k) j.1)

-- where a word begins, the step is the word's
abbrev step_kind : Step → ℕ
step_kind (step.Lexeme k n m) = k
step_kind (step.Space m) = 0
step_kind (step.Comment n) = 0
step_kind (step.Refused number o) = 0
step_kind step.Finished = 0

step_outside : (r : Reading) (m : Mode) (xs : List ℕ) → m.inside ≡ Nothing → is_word_start (peek_at xs 0) ≡ true → munched r m xs ≡ word_step (mode m.depth Nothing) xs
unfolding munched step_in outside_table
step_outside r m xs i s = rw (i, s)

step_braces : (r : Reading) (m : Mode) (xs : List ℕ) → m.inside ≡ Braces → is_alpha (peek_at xs 0) ≡ true → munched r m xs ≡ brace_word (mode m.depth Braces) xs
unfolding munched step_in brace_table
step_braces r m xs i s = rw (i, s)

-- what is open is one of three
abbrev open_in : Inside → ℕ
open_in Nothing = 0
open_in Braces = 1
open_in (Brackets seen fresh) = 2

module _ (r : Reading) (q : List ℕ) (short : length q ≤ text_limit) (at k n : ℕ) (m m' : Mode) (h : Reaches r q at m) (f : munched r m (drop at q) ≡ step.Lexeme k n m') where
  abbrev es : List Entry
  es = entries_of r q

  abbrev e : Entry
  e = entry k at n (depth_by k m')

  abbrev ys : List ℕ
  ys = drop at q

  -- by what is open there
  open_is : {i : Inside} → m.inside ≡ i → BracesOpen es e → open_in i ≡ 1
  open_is o b = sym (ap open_in o) ∙ ap open_in ((mode_tells r q at m short h).braces.1 b)

  not_open : {i : Inside} → m.inside ≡ i → NothingOpen es e → open_in i ≡ 0
  not_open {i = Nothing} o b = refl
  not_open {i = Braces} o b = absurd (b.0 ((mode_tells r q at m short h).braces.0 o))
  not_open {i = Brackets seen fresh} o b = absurd (b.1 ((mode_tells r q at m short h).brackets.0 (record { seen = seen; fresh = fresh; there = o })))

  outside_there : m.inside ≡ Nothing → NothingOpen es e
  outside_there o =
      ((λ b. absurd (omega (arith, open_is o b))), λ b. told open_in o ((mode_tells r q at m short h).brackets.1 b).there (λ z. omega (arith, z)))

  verdict_outside : m.inside ≡ Nothing → Verdict q es e (reason_of (word_outside ys))
  unfolding word_outside word_step
  verdict_outside o =
      either (λ w. Verdict q es e (reason_of w)) (is_word_start (peek_at ys 0))
      (λ s.
      let g = sym f ∙ step_outside r m ys o s in
      by_rule _ (subst (λ (z : ℕ). Judged q es e (rule_by (keyword_of (take z ys)) ys z)) (ap step_length g) (judged_outside q es e (outside_there o, rw first_at at s))) (ap step_kind g))
      (λ s. none (none_there q es e (λ b. absurd (omega (arith, open_is o b))) (λ b. rw first_at at s)))

  verdict_braces : m.inside ≡ Braces → Verdict q es e (reason_of (word_in_braces ys))
  unfolding word_in_braces brace_word
  verdict_braces o =
      either (λ w. Verdict q es e (reason_of w)) (is_alpha (peek_at ys 0))
      (λ s.
      let g = sym f ∙ step_braces r m ys o s in
      by_rule _ (subst (λ (z : ℕ). Judged q es e (brace_rule ys z)) (ap step_length g) (judged_braces q es e ((mode_tells r q at m short h).braces.0 o, rw first_at at s))) (ap step_kind g))
      (λ s. none (none_there q es e (λ b. rw first_at at s) (λ b. absurd (omega (arith, not_open o b)))))

  verdict_there : Verdict q es e (reason_of (wording_of m.inside ys))
  unfolding wording_of
  verdict_there = go m.inside refl
    where
      go : (i : Inside) → m.inside ≡ i → Verdict q es e (reason_of (wording_of i ys))
      go Nothing o = verdict_outside o
      go Braces o = verdict_braces o
      go (Brackets seen fresh) o = none (none_there q es e (λ b. absurd (omega (arith, open_is o b))) (λ b. absurd (omega (arith, not_open o b))))

-- of what the search finds
verdict_found : (r : Reading) (q : List ℕ) → length q ≤ text_limit → {x : Option Found} {e : Entry} → Finds r q x e → Verdict q (entries_of r q) e (reason_at q x)
verdict_found r q l (there at k n m m' h f) = verdict_there r q l at k n m m' h f
verdict_found r q l (nowhere at z) = none (none_there q (entries_of r q) (eof at) (λ b. rw z end_no_letter) (λ b. rw z end_no_start))

-- of the lexeme of a number, where the query is accepted and has it
verdict : (r : Reading) (q : List ℕ) (number n : ℕ) → measured r q ≡ Ok n → number < n → Verdict q (entries_of r q) (lexeme_of r q number) (reasoned r number q)
unfolding reasoned
verdict r q number n e l =
    let g = (measured_given r q n).0 e in
    rw (e, lt-leb n number l) (verdict_found r q (omega (arith, g.0.0)) (finds r q number (omega (arith, g.2, l))))

-- the number of a reason, and that of a refusal
abbrev reason_in : Result ℕ Refusal → ℕ
reason_in (Ok n) = suc n
reason_in (Err refusal) = 0

abbrev refused_in : Result ℕ Refusal → ℕ
refused_in (Ok n) = 0
refused_in (Err refusal) = refusal.number

-- what an answer says, and what gives it
module _ (q : List ℕ) (es : List Entry) (e : Entry) where
  reason_is : {x : Result ℕ Refusal} (n : ℕ) → Verdict q es e x → x ≡ Ok n → Applies q es e n × Gives (text_of q e) n e.kind
  reason_is n (given i a g) z = let y : i ≡ n = omega (arith, ap reason_in z) in (rw y at a, rw y at g)
  reason_is n (none a) z = absurd (omega (arith, ap reason_in z))

  is_reason : {x : Result ℕ Refusal} (n : ℕ) → Verdict q es e x → Applies q es e n → x ≡ Ok n
  is_reason n (given i a g) b = ap Ok (one_reason q es e i n a b)
  is_reason n (none a) b = absurd (a ((words_reasoned q es e).1 (n, b)))

  none_is : {x : Result ℕ Refusal} → Verdict q es e x → x ≡ no_word → ¬ (IsWord q es e)
  none_is (given i a g) z = absurd (omega (arith, ap reason_in z))
  none_is (none a) z = a

  is_none : {x : Result ℕ Refusal} → Verdict q es e x → (¬ (IsWord q es e)) → x ≡ no_word
  is_none (given i a g) n = absurd (n ((words_reasoned q es e).1 (i, a)))
  is_none (none a) n = refl

  never_72 : {x : Result ℕ Refusal} → Verdict q es e x → ¬ (x ≡ no_lexeme)
  never_72 (given i a g) z = omega (arith, ap refused_in z)
  never_72 (none a) z = omega (arith, ap refused_in z)

-- so each answer is given exactly where it is to be
pub reason_given : ReasonGiven
reason_given r q number n count e l =
    let v = verdict r q number count e l in
    ((λ z. (reason_is q _ _ n v z).0), is_reason q _ _ n v)

pub no_word_given : NoWordGiven
no_word_given r q number n e l = let v = verdict r q number n e l in (none_is q _ _ v, is_none q _ _ v)

pub no_lexeme_given : NoLexemeGiven
unfolding reasoned
no_lexeme_given r q number n e = (past, λ l. rw (e, le-leb n number l))
  where
    past : reasoned r number q ≡ no_lexeme → n ≤ number
    past z = go (dec_lt number n)
      where
        go : Dec (number < n) → n ≤ number
        go (yes l) = absurd (never_72 q _ _ (verdict r q number n e l) z)
        go (no l) = omega (arith, l)

pub lexing_refused : LexingRefused
unfolding reasoned
lexing_refused r q number refusal e = rw e

-- a reason is given of a lexeme that there is, in an accepted query
reason_counted : (r : Reading) (q : List ℕ) (number n : ℕ) → reasoned r number q ≡ Ok n → (count : ℕ) × (measured r q ≡ Ok count) × (number < count)
reason_counted r q number n z = go (measured r q) refl
  where
    go : (x : Result ℕ Refusal) → measured r q ≡ x → (count : ℕ) × (measured r q ≡ Ok count) × (number < count)
    go (Ok count) e = within (dec_lt number count)
      where
        within : Dec (number < count) → (c : ℕ) × (measured r q ≡ Ok c) × (number < c)
        within (yes l) = (count, e, l)
        within (no l) = told reason_in z ((no_lexeme_given r q number count e).1 (omega (arith, l))) (λ y. omega (arith, y))
    go (Err refusal) e = told reason_in z (lexing_refused r q number refusal e) (λ y. omega (arith, y))

-- and its kind is the reason's
pub reason_kind : ReasonKind
reason_kind r q number n z = let c = reason_counted r q number n z in (reason_is q _ _ n (verdict r q number c.0 c.1 c.2) z).1

pub call_kind : CallKind
call_kind r q number reason n c a z =
    let w = reason_counted r q number reason z in
    let y = counted r q c n a in
    let l : number < n = omega (arith, w.2, y.1, ((measured_given r q w.0).0 w.1).2) in
    let k = sym (get_or-take n (kinds_left c) number 0 l) ∙ ap (λ (ks : List ℕ). get_or ks number 0) (writes r q c n a).0 ∙ get_or-map kind_of (entries_of r q) number (eof 0) in
    subst (Gives (text_of q (lexeme_of r q number)) reason) (sym k) (reason_kind r q number reason z)
