-- A step takes one byte at least and ends within the bytes, and cuts no character of a text: a lexeme ends behind an ASCII byte, be it the
-- first, the second, the last of a run, or the one that a number or a string ends with; a comment ends behind one, or at the end. A refusal is
-- given at the start, behind a first byte that is ASCII, or where a number or a string has its fault. By the mode, then by the rows
-- of its table.
use Prim.Native.Nat.{ℕ, suc, ◌<◌, ◌≤◌, suc-le-suc}
use Prim.Native.Char.{code}
use native.Mathlib.Omega.{arith}
use mathlib.Core.Bool.{Bool, true, false, ◌||◌}
use mathlib.Core.List.{List, [], ◌∷◌}
use mathlib.Core.Path.{◌≡◌, refl, ap}
use lib.Dec.{eqb}
use lib.ListN.{drop, length-drop}
use borrow.Author.Tests.{eqb-true}
use Rattle.scan.specs.declared.byte.Class.{Class}
use Rattle.scan.specs.declared.byte.Class.TheVariants.{Space, Alpha, AlphaNumeric, Word}
use Rattle.scan.specs.Byte.{end, peek_at, is_within, is_space, is_alpha, is_digit, is_in}
use Rattle.scan.specs.laws.Edge.{Bytes, Edge, first, last, behind, AsciiAlone}
use Rattle.scan.specs.Run.{run_end}
use Rattle.proving.proofs.Choice.{either}
use Rattle.scan.proofs.Edges.{ascii_inside, edge_within, edge_run, class_ascii, one_ascii}
use Rattle.token.specs.Kinds.{eqlc, neq, lte, lss, gte, gtr, eql_regex, neq_regex}
use Rattle.utf8.specs.declared.Reading.{Reading}
use Rattle.numeral.specs.declared.Numeral.{Numeral}
use Rattle.numeral.specs.declared.Numeral.TheVariants.{Number, Duration, Neither}
use Rattle.numeral.specs.Numeral.{numeral_of}
use Rattle.numeral.specs.Numeral.{taken}
use Rattle.numeral.proofs.Within.{numeral_within}
use Rattle.quoted.specs.declared.Fault.{Fault}
use Rattle.std.specs.Prelude.{Err, Ok, Result}
use Rattle.quoted.specs.Quoted.{quoted_of, comment_end}
use Rattle.quoted.specs.laws.Quoted.{Lies}
use Rattle.quoted.proofs.Strings.{string_within}
use Rattle.quoted.proofs.Comments.{comment_within}
use Rattle.munch.specs.declared.Inside.{Inside}
use Rattle.munch.specs.declared.Inside.TheVariants.{Nothing, Braces, Brackets}
use Rattle.munch.specs.declared.Mode.{Mode}
use Rattle.munch.specs.declared.Step.{Step}
use Rattle.munch.specs.declared.Step.TheVariants.{Lexeme, Refused}
use Rattle.munch.specs.Munch.{mode, if_next, number_by, number_step, dot_step, quoted_by, quoted_step, comment_step, word_step, equals_step, bang_step, compare_step, right_paren_step, end_step, brace_word, brace_equals, brace_bang, colon_step, outside_table, brace_table, bracket_table, step_in, munched}
use Rattle.munch.specs.laws.Step.{Past, Goes, StepGoes}
use Rattle.munch.proofs.Openings.{by_rows}
use Rattle.munch.proofs.Starts.{start_ascii, quote_ascii}

-- white space and letters are ASCII
space_ascii : AsciiAlone is_space
unfolding is_in
space_ascii = class_ascii Space refl

alpha_ascii : AsciiAlone is_alpha
unfolding is_in
alpha_ascii = class_ascii Alpha refl

-- behind the first byte, an edge of the others is one of all
edge_next : (xs : List ℕ) {n : ℕ} → peek_at xs 0 < 0x80 → Edge (drop 1 xs) n → Edge xs (suc n)
edge_next [] h e = absurd (omega arith)
edge_next (x ∷ xs) h first = behind 0 h
edge_next (x ∷ xs) h last = last
edge_next (x ∷ xs) h (behind n g) = behind (suc n) g

bytes_next : (xs : List ℕ) → peek_at xs 0 < 0x80 → Bytes xs → Bytes (drop 1 xs)
bytes_next [] h b i l = absurd (omega arith)
bytes_next (x ∷ xs) h b i l = b (suc i) (suc-le-suc l)

-- some bytes up to an edge
past_edge : (xs : List ℕ) (n : ℕ) → 1 ≤ n → Edge xs n → Past xs n
past_edge xs n h e = record { some = h; within = edge_within _ _ e; edge = λ b. e }

-- from a first byte that is ASCII: it alone, with a run, with a comment
module _ (xs : List ℕ) (h : peek_at xs 0 < 0x80) where
  past_one : Past xs 1
  past_one = past_edge xs 1 (omega arith) (behind 0 h)

  past_run : (k : Class) → AsciiAlone (is_in k) → Past xs (run_end (is_in k) xs 1)
  past_run k a = past_edge xs (run_end (is_in k) xs 1) (omega arith) (edge_run (is_in k) a xs 1 (behind 0 h))

  past_comment : Past xs (suc (comment_end (drop 1 xs)))
  past_comment =
      record {
        some = omega arith;
        within = omega (arith, (comment_within (drop 1 xs)).0, length-drop 1 xs, ascii_inside xs 0 h);
        edge = λ b. edge_next xs h ((comment_within (drop 1 xs)).1 (bytes_next xs h b));
      }

module _ (m : Mode) (xs : List ℕ) where
  -- a number, whatever mode it leaves
  number_goes : (r : Reading) (m' : Mode) → is_digit (peek_at xs 0) || eqb (peek_at xs 0) (code ".") ≡ true → Goes m xs (number_step r m' xs)
  unfolding number_step
  number_goes r m' e = go (numeral_of r xs) (numeral_within r xs e)
    where
      go : (n : Numeral) → (1 ≤ taken n) × Edge xs (taken n) → Goes m xs (number_by m' n)
      go (Number n) w = past_edge xs n w.0 w.1
      go (Duration n) w = past_edge xs n w.0 w.1
      go (Neither n) w = w.1

  dot_goes : (r : Reading) → peek_at xs 0 ≡ code "." → Goes m xs (dot_step r m xs)
  unfolding dot_step is_within
  dot_goes r e =
      either (Goes m xs) (is_digit (peek_at xs 1)) (λ f. number_goes r m (rw e))
      (λ f. either (Goes m xs) (eqb (peek_at xs 1) end) (λ g. first) (λ g. behind 0 (omega arith)))

  module _ (h : peek_at xs 0 < 0x80) where
    string_goes : (r : Reading) → Goes m xs (quoted_step r m xs)
    unfolding quoted_step
    string_goes r = go (quoted_of r (peek_at xs 0) (drop 1 xs)) (string_within r (peek_at xs 0) (drop 1 xs) h)
      where
        go : (q : Result ℕ Fault) → Lies (drop 1 xs) q → Goes m xs (quoted_by m q)
        go (Ok n) l = past_edge xs (suc n) (omega arith) (edge_next xs h l.1)
        go (Err e') l = edge_next xs h l

    -- two bytes, the second of them ASCII, or another step
    two_goes : (c k : ℕ) (s : Step) → c < 0x80 → Goes m xs s → Goes m xs (if_next xs c (Lexeme k 2 m) s)
    two_goes c k s a g =
        either (Goes m xs) (eqb (peek_at xs 1) c) (λ e. past_edge xs 2 (omega arith) (behind 1 (one_ascii c a (peek_at xs 1) e))) (λ e. g)

    equals_goes : Goes m xs (equals_step m xs)
    unfolding equals_step
    equals_goes =
        two_goes (code "=") eqlc _ (omega arith) (either (Goes m xs) (eqb (peek_at xs 1) (code "~")) (λ e. behind 0 h) (λ e. past_one xs h))

    compare_goes : (equal alone : ℕ) → Goes m xs (compare_step equal alone m xs)
    unfolding compare_step
    compare_goes equal alone = two_goes (code "=") equal _ (omega arith) (past_one xs h)

    regex_goes : Goes m xs (brace_equals m xs)
    unfolding brace_equals
    regex_goes = two_goes (code "~") eql_regex _ (omega arith) (past_one xs h)

    -- behind a `!`, the end or another byte
    after_bang : (r : ℕ) → Goes m xs (if_next xs end (Refused 13 1) (Refused r 1))
    after_bang r = either (Goes m xs) (eqb (peek_at xs 1) end) (λ e. behind 0 h) (λ e. behind 0 h)

    bang_goes : Goes m xs (bang_step m xs)
    unfolding bang_step
    bang_goes = two_goes (code "=") neq _ (omega arith) (after_bang 12)

    brace_bang_goes : Goes m xs (brace_bang m xs)
    unfolding brace_bang
    brace_bang_goes = two_goes (code "=") neq _ (omega arith) (two_goes (code "~") neq_regex _ (omega arith) (after_bang 24))

module _ (r : Reading) (d : ℕ) (xs : List ℕ) where
  paren_goes : peek_at xs 0 < 0x80 → Goes (mode d Nothing) xs (right_paren_step d)
  unfolding right_paren_step
  paren_goes h = either (Goes (mode d Nothing) xs) (eqb d 0) (λ e. first) (λ e. past_one xs h)

  end_goes : peek_at xs 0 ≡ end → Goes (mode d Nothing) xs (end_step d)
  unfolding end_step
  end_goes h = either (Goes (mode d Nothing) xs) (eqb d 0) (λ e. (h, ap (λ (n : ℕ). mode n Nothing) (eqb-true d 0 e))) (λ e. first)

  colon_goes : (seen fresh : Bool) → peek_at xs 0 < 0x80 → Goes (mode d (Brackets seen fresh)) xs (colon_step d seen fresh)
  unfolding colon_step
  colon_goes seen fresh h =
      let m = mode d (Brackets seen fresh) in
      either (Goes m xs) seen (λ e. first) (λ e. either (Goes m xs) fresh (λ f. first) (λ f. past_one xs h))

  -- of the bytes that are left, in a mode
  abbrev Going : Inside → (List ℕ → Step) → Type 0
  Going i step = Goes (mode d i) xs (step xs)

  -- the first byte is a sign
  ascii_sign : (y : ℕ) → y < 0x80 → eqb (peek_at xs 0) y ≡ true → peek_at xs 0 < 0x80
  ascii_sign y l h = one_ascii y l (peek_at xs 0) h

  one_sign : (y : ℕ) → y < 0x80 → eqb (peek_at xs 0) y ≡ true → Past xs 1
  one_sign y l h = past_one xs (ascii_sign y l h)

  outside_goes : Goes (mode d Nothing) xs (step_in r d Nothing (peek_at xs 0) xs)
  unfolding step_in outside_table word_step comment_step
  outside_goes =
      let here = mode d Nothing in
      by_rows (Going Nothing) (peek_at xs 0) (outside_table r d) 19
      (λ h. past_run xs (start_ascii (peek_at xs 0) h) Word (class_ascii Word refl))
      (λ h. past_one xs (space_ascii (peek_at xs 0) h))
      (λ h. string_goes here xs (quote_ascii (peek_at xs 0) h) r)
      (λ h. number_goes here xs r here (rw h))
      (λ h. end_goes (eqb-true (peek_at xs 0) end h))
      (λ h. past_comment xs (ascii_sign (code "#") (omega arith) h))
      (λ h. dot_goes here xs r (eqb-true (peek_at xs 0) (code ".") h))
      (one_sign (code "(") (omega arith))
      (λ h. paren_goes (ascii_sign (code ")") (omega arith) h))
      (one_sign (code "{") (omega arith))
      (λ h. first)
      (one_sign (code "[") (omega arith))
      (λ h. first)
      (one_sign (code ",") (omega arith))
      (λ h. equals_goes here xs (ascii_sign (code "=") (omega arith) h))
      (one_sign (code "+") (omega arith))
      (one_sign (code "-") (omega arith))
      (one_sign (code "*") (omega arith))
      (one_sign (code "/") (omega arith))
      (one_sign (code "%") (omega arith))
      (one_sign (code "^") (omega arith))
      (λ h. bang_goes here xs (ascii_sign (code "!") (omega arith) h))
      (λ h. compare_goes here xs (ascii_sign (code "<") (omega arith) h) lte lss)
      (λ h. compare_goes here xs (ascii_sign (code ">") (omega arith) h) gte gtr)
      (one_sign (code "@") (omega arith))
      (λ n. first)

  brace_goes : Goes (mode d Braces) xs (step_in r d Braces (peek_at xs 0) xs)
  unfolding step_in brace_table brace_word comment_step
  brace_goes =
      let here = mode d Braces in
      by_rows (Going Braces) (peek_at xs 0) (brace_table r d) 26
      (λ h. past_run xs (alpha_ascii (peek_at xs 0) h) AlphaNumeric (class_ascii AlphaNumeric refl))
      (λ h. past_one xs (space_ascii (peek_at xs 0) h))
      (λ h. string_goes here xs (quote_ascii (peek_at xs 0) h) r)
      (λ h. first)
      (λ h. past_comment xs (ascii_sign (code "#") (omega arith) h))
      (λ h. first)
      (one_sign (code "}") (omega arith))
      (one_sign (code ",") (omega arith))
      (λ h. regex_goes here xs (ascii_sign (code "=") (omega arith) h))
      (λ h. brace_bang_goes here xs (ascii_sign (code "!") (omega arith) h))
      (λ n. first)

  bracket_goes : (seen fresh : Bool) → Goes (mode d (Brackets seen fresh)) xs (step_in r d (Brackets seen fresh) (peek_at xs 0) xs)
  unfolding step_in bracket_table
  bracket_goes seen fresh =
      by_rows (Going (Brackets seen fresh)) (peek_at xs 0) (bracket_table r d seen fresh) 31
      (λ h. past_one xs (space_ascii (peek_at xs 0) h))
      (λ h. number_goes (mode d (Brackets seen fresh)) xs r (mode d (Brackets seen false)) (rw h))
      (λ h. first)
      (λ h. first)
      (one_sign (code "]") (omega arith))
      (λ h. colon_goes seen fresh (ascii_sign (code ":") (omega arith) h))
      (λ n. first)

  inside_goes : (i : Inside) → Goes (mode d i) xs (step_in r d i (peek_at xs 0) xs)
  inside_goes Nothing = outside_goes
  inside_goes Braces = brace_goes
  inside_goes (Brackets seen fresh) = bracket_goes seen fresh

pub step_goes : StepGoes
unfolding munched
step_goes r m xs = inside_goes r m.depth xs m.inside
