-- Every row holds of the functions too: of whatever the promises allow, since what they promise is what the definitions say.
use Prim.Native.Nat.{ℕ, ◌≤◌, ◌<◌}
use mathlib.Core.Bool.{true}
use native.Mathlib.Omega.{arith}
use mathlib.Core.List.{List, ◌++◌}
use mathlib.Core.Path.{◌≡◌, refl, ap, ap₂, ◌∙◌}
use lib.Dec.{leb}
use lib.ListN.{length, take, drop}
use lib.Seq.{take_at}
use contract.Lifetimes.{Lfts}
use borrow.Fn.Kinds.{Dens, res_t, ended_of}
use denote.Triple.Clauses.{AtExit}
use borrow.Author.Tests.{leb-true, le-leb}
use Rattle.utf8.specs.declared.Refusal.{Refusal}
use Rattle.std.specs.Prelude.{Err, Ok, Result}
use Rattle.proving.proofs.One.{Answers, Leaves, Shows}
use Rattle.utf8.specs.declared.Reading.{Reading}
use Rattle.utf8.specs.declared.Reading.TheVariants.{Crate}
use Rattle.utf8.specs.Writing.{left_by}
use Rattle.utf8.specs.Answers.{text_limit, refused_at}
use Rattle.utf8.specs.laws.Ascii.{is_ascii}
use Rattle.utf8.proofs.Ascii.{ascii_text}
use Rattle.string.specs.laws.ReadBack.{is_read}
use Rattle.string.specs.declared.Unquoted.{Unquoted}
use Rattle.string.specs.Literal.{unquoted, unquoting_of, text_by}
use Rattle.string.proofs.Readings.{part_is_text, good_read}
use Rattle.string.proofs.unquote_string.Kinds as unquote
use Rattle.string.proofs.unquote_string.Reads as unquote_reads
use Rattle.string.proofs.part.Kinds as part
use Rattle.string.proofs.part.Reads as part_reads
use Rattle.duration.specs.declared.span.Duration.{Duration}
use Rattle.duration.specs.Unit.{nanos_a_second}
use Rattle.duration.specs.Duration.{timing_of}
use Rattle.duration.proofs.parse_duration.Kinds as parse
use Rattle.duration.proofs.parse_duration.Reads as parse_reads
use Rattle.duration.specs.Display.{duration_text, displaying_of}
use Rattle.duration.proofs.display.Given.{displaying_given}
use Rattle.duration.proofs.display.display_duration.Kinds as display
use Rattle.duration.proofs.display.display_duration.Reads as display_reads
use Rattle.lex.specs.Lex.{roomed, lexed}
use Rattle.calls.specs.laws.Calls.{LexCall, room_in, kinds_left}
use Rattle.calls.proofs.Calls.{answered, writes}
use Rattle.cases.specs.laws.Cases.{Case, lexes, refuses, literal, timed, written, queries, texts, cases, Shown, Each}
use Rattle.cases.proofs.Shown.{queries_shown, texts_shown, each_both}

-- a call of `parse_duration` on a text, and one of `display_duration` on a duration with a buffer of so many bytes, that keep their promises
pub record Timed (xs : List ℕ) : Type 0 where
  pub κs : Lfts 1
  pub args : Dens κs parse.ps
  pub result : (res_t parse.r κs).Denot
  pub exit : AtExit (ended_of 1 parse.ps parse.r) κs
  pub post : parse_reads.Post κs args result exit
  pub of_text : args.0.now ≡ xs

pub record Displayed (d : Duration) (room : ℕ) : Type 0 where
  pub κs : Lfts 1
  pub args : Dens κs display.ps
  pub result : (res_t display.r κs).Denot
  pub exit : AtExit (ended_of 1 display.ps display.r) κs
  pub post : display_reads.Post κs args result exit
  pub of_duration : args.0 ≡ d
  pub in_room : length args.1.0.now ≡ room

-- calls of `unquote_string` on a literal, with a buffer of a content, are accepted with one answer and leave one text there, of which calls of
-- `part` hand ys back
abbrev Lent : Reading → List ℕ → List ℕ → (κs : Lfts 2) → Dens κs unquote.ps → Type 0
Lent r xs d κs a = (a.0.now ≡ xs) × (a.1.0 ≡ r) × (a.1.1.0.now ≡ d)

pub record Handed (r : Reading) (xs ys d : List ℕ) : Type 0 where
  pub answer : Result Unquoted Refusal
  pub left : List ℕ
  pub accepted : is_read answer ≡ true
  pub answers : Answers unquote.ps unquote.r unquote_reads.Post (Lent r xs d) (λ κs. answer)
  pub leaves : Leaves unquote.ps unquote.r unquote_reads.Post (Lent r xs d) (λ κs e. e.1.1.0.now) left
  pub hands : Shows part.ps part.r part_reads.Post (λ κs a. (a.0.now ≡ xs) × (a.1.0.now ≡ left) × (a.1.1.0 ≡ answer)) (λ κs x. x.now) ys

-- calls of `lexer` on the query in the crate reading are accepted in any lists that its lexemes fit, and leave their kinds there, or are refused;
-- those on the literal hand its text back, with any buffer that it fits
abbrev pub Called : Case → Type 0
Called (lexes q ks) = (c : LexCall Crate q) → length ks ≤ room_in c → (c.result ≡ Ok (length ks)) × (take (length ks) (kinds_left c) ≡ ks)
Called (refuses q r p) = (c : LexCall Crate q) → c.result ≡ Err (refused_at q r p)
Called (literal r xs ys) = (d : List ℕ) → length ys ≤ length d → Handed r xs ys d
Called (timed xs t) = (c : Timed xs) → c.result ≡ t
Called (written d ys) = (room : ℕ) (c : Displayed d room) → length ys ≤ room → d.nanos < nanos_a_second → (c.result ≡ Ok (length ys)) × (take (length ys) c.exit.1.0.now ≡ ys)

lexes_called : (q ks : List ℕ) → Shown (lexes q ks) → Called (lexes q ks)
unfolding lexed
lexes_called q ks s c h =
    let e : c.result ≡ Ok (length ks) = answered Crate q c ∙ rw (s.0, le-leb (length ks) (room_in c) h) in
    (e, (writes Crate q c (length ks) e).0 ∙ s.1)

refuses_called : (q : List ℕ) (r p : ℕ) → Shown (refuses q r p) → Called (refuses q r p)
unfolding lexed
refuses_called q r p s c = answered Crate q c ∙ ap (roomed (room_in c)) s

literal_called : (r : Reading) (xs ys : List ℕ) → Shown (literal r xs ys) → is_ascii xs ≡ true → leb (length xs) text_limit ≡ true → Called (literal r xs ys)
literal_called r xs ys s a l d h =
    let u = unquoting_of r (length d) xs in
    let t = text_by u (unquoted r xs) d in
    let k = leb-true (length xs) text_limit l in
    let e = good_read r (length d) xs ((λ n. omega arith), (ascii_text xs a).0) s.0 (omega (arith, ap length s.1)) in
    record {
      answer = u;
      left = t;
      accepted = e;
      answers = λ κs a x f p g. cc (p.0, g.0, g.1, g.2);
      leaves = λ κs a x f p g. cc (p.0, p.1, g.0, g.1, g.2);
      hands = λ κs a x f p g. p ∙ cc (g.0, g.1, g.2) ∙ part_is_text r xs d e ∙ s.1;
    }

timed_called : (xs : List ℕ) (t : Result Duration Refusal) → Shown (timed xs t) → Called (timed xs t)
timed_called xs t s c = c.post ∙ ap timing_of c.of_text ∙ s

written_called : (d : Duration) (ys : List ℕ) → Shown (written d ys) → Called (written d ys)
written_called d ys s room c h few = (answer, ap (take (length ys)) content ∙ take_at ys (drop (length ys) c.args.1.0.now) (length ys) refl)
  where
    answer : c.result ≡ Ok (length ys)
    answer = c.post.0 ∙ ap₂ displaying_of c.in_room c.of_duration ∙ (displaying_given room d).2.1 ((λ n. omega arith), λ n. omega (arith, ap length s)) ∙ ap (λ (zs : List ℕ). Ok (length zs)) s

    content : c.exit.1.0.now ≡ ys ++ drop (length ys) c.args.1.0.now
    content = c.post.1 ∙ ap₂ (λ (e : Result ℕ Refusal) (zs : List ℕ). left_by e zs c.args.1.0.now) answer (ap duration_text c.of_duration ∙ s)

queries_called : Each Called queries
queries_called = let s = queries_shown in (lexes_called _ _ s.0, (lexes_called _ _ s.1.0, (lexes_called _ _ s.1.1.0, (refuses_called _ _ _ s.1.1.1.0, (lexes_called _ _ s.1.1.1.1.0, (lexes_called _ _ s.1.1.1.1.1.0, (lexes_called _ _ s.1.1.1.1.1.1.0, (refuses_called _ _ _ s.1.1.1.1.1.1.1.0, tt))))))))

texts_called : Each Called texts
texts_called = let s = texts_shown in (literal_called _ _ _ s.0 refl refl, (literal_called _ _ _ s.1.0 refl refl, (timed_called _ _ s.1.1.0, (timed_called _ _ s.1.1.1.0, (timed_called _ _ s.1.1.1.1.0, (timed_called _ _ s.1.1.1.1.1.0, (written_called _ _ s.1.1.1.1.1.1.0, (written_called _ _ s.1.1.1.1.1.1.1.0, tt))))))))

pub all_called : Each Called cases
all_called = each_both Called queries texts queries_called texts_called
