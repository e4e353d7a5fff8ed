-- The join and the reading back, said of the calls: of whatever answers and contents their promises allow. What an accepted call wrote is
-- the escape (`wrote`), so the laws of the definitions carry over.
use Prim.Native.Nat.{ℕ, ◌≤◌}
use native.Mathlib.Omega.{arith}
use mathlib.Core.Bool.{true, false}
use mathlib.Core.List.{List, ◌++◌}
use mathlib.Core.Path.{◌≡◌, sym, ap, ap₂, subst, ◌∙◌}
use contract.Lifetimes.{Lfts}
use borrow.Fn.Kinds.{Dens, res_t, ended_of}
use denote.Triple.Clauses.{AtExit}
use lib.ListN.{length, take, drop}
use lib.Seq.{take-append_seam}
use Rattle.utf8.specs.declared.Refusal.{Refusal}
use Rattle.std.specs.Prelude.{Ok, Result}
use Rattle.utf8.specs.declared.Reading.{Reading}
use Rattle.utf8.specs.Text.{WellFormed}
use Rattle.utf8.specs.Answers.{text_limit}
use Rattle.utf8.specs.laws.Refusals.{Taken}
use Rattle.utf8.proofs.Laws.{text_join}
use Rattle.utf8.specs.Writing.{left_by}
use Rattle.string.specs.Escape.{escaped, escaping_of}
use Rattle.string.specs.Literal.{is_bad_literal, unquoted, unquoting_of, text_by, part_of}
use Rattle.string.specs.laws.Escape.{EscapeTells}
use Rattle.string.specs.laws.ReadBack.{quoted, is_read}
use Rattle.string.proofs.escape.Escapes.{escape_join, escaped_text}
use Rattle.string.proofs.escape.Answers.{escape_answers}
use Rattle.string.proofs.Readings.{part_is_text, good_read}
use Rattle.string.proofs.Back.{quoted_text, read_back, read_back_join}
use Rattle.string.proofs.escape.Given.{escaping_given}
use Rattle.string.proofs.escape.escape_string.Kinds as escape
use Rattle.string.proofs.escape.escape_string.Reads as escape_reads
use Rattle.string.proofs.unquote_string.Kinds as unquote
use Rattle.string.proofs.unquote_string.Reads as unquote_reads
use Rattle.string.proofs.part.Kinds as part
use Rattle.string.proofs.part.Reads as part_reads
use Rattle.string.specs.declared.Unquoted.{Unquoted}

-- a call of `escape_string` that keeps its promise, on a text, with a buffer of so many bytes
pub record EscapeCall (x : List ℕ) (room : ℕ) : Type 0 where
  pub κs : Lfts 2
  pub args : Dens κs escape.ps
  pub result : (res_t escape.r κs).Denot
  pub exit : AtExit (ended_of 2 escape.ps escape.r) κs
  pub post : escape_reads.Post κs args result exit
  pub of_text : args.0.now ≡ x
  pub in_room : length args.1.0.now ≡ room

-- it is accepted where the text is within the limit and the escape has room
pub escape_accepted : (x : List ℕ) (room : ℕ) → Taken text_limit x → length (escaped x) ≤ room → (c : EscapeCall x room) → c.result ≡ Ok (length (escaped x))
escape_accepted x room t h c = c.post.0 ∙ ap₂ escaping_of c.in_room c.of_text ∙ (escaping_given room x).3.1 (t, λ n. omega arith)

-- one that was accepted: ys stand at the front of its buffer then
pub record Escaped (x ys : List ℕ) : Type 0 where
  pub room : ℕ
  pub call : EscapeCall x room
  pub size : ℕ
  pub accepted : call.result ≡ Ok size
  pub front : take size call.exit.1.0.now ≡ ys

-- calls of `unquote_string` and of `part`, with what the first left and answered: of a literal, in a buffer of so many bytes, ys
pub record Read (r : Reading) (literal : List ℕ) (room : ℕ) (ys : List ℕ) : Type 0 where
  pub κs : Lfts 2
  pub args : Dens κs unquote.ps
  pub result : (res_t unquote.r κs).Denot
  pub exit : AtExit (ended_of 2 unquote.ps unquote.r) κs
  pub post : unquote_reads.Post κs args result exit
  pub of_literal : args.0.now ≡ literal
  pub by_reading : args.1.0 ≡ r
  pub in_room : length args.1.1.0.now ≡ room
  pub λs : Lfts 1
  pub part_args : Dens λs part.ps
  pub part_result : (res_t part.r λs).Denot
  pub part_exit : AtExit (ended_of 1 part.ps part.r) λs
  pub part_post : part_reads.Post λs part_args part_result part_exit
  pub same_literal : part_args.0.now ≡ args.0.now
  pub same_text_read : part_args.1.0.now ≡ exit.1.1.0.now
  pub same_answer : part_args.1.1.0 ≡ result
  pub text : part_result.now ≡ ys

-- what was written is the escape
wrote : {x ys : List ℕ} → Escaped x ys → WellFormed x × (ys ≡ escaped x)
wrote {x = x} {ys = ys} c =
    let out = c.call.args.1.0.now in
    let a : escaping_of (length out) x ≡ Ok c.size = rw c.call.of_text at (sym c.call.post.0 ∙ c.accepted) in
    let w = subst (EscapeTells x) a (escape_answers (length out) x) in
    let l : c.call.exit.1.0.now ≡ escaped x ++ drop c.size out = c.call.post.1 ∙ ap₂ (λ (e : Result ℕ Refusal) (zs : List ℕ). left_by e (escaped zs) out) c.accepted c.call.of_text in
    let f : take c.size (escaped x ++ drop c.size out) ≡ escaped x = rw w.1 (take-append_seam (escaped x) (drop (length (escaped x)) out)) in
    (w.0.1, sym c.front ∙ ap (take c.size) l ∙ f)

-- and what is handed back is the text of the literal, where the call was accepted
handed : {r : Reading} {literal ys : List ℕ} {room : ℕ} (c : Read r literal room ys) → is_read c.result ≡ true → ys ≡ unquoted r literal
handed c h =
    let xs = c.args.0.now in
    let d = c.args.1.1.0.now in
    let v = c.args.1.0 in
    sym c.text
    ∙ c.part_post
    ∙ ap (λ (u : Result Unquoted Refusal). part_of u c.part_args.0.now c.part_args.1.0.now) c.same_answer
    ∙ ap₂ (λ (s t : List ℕ). part_of c.result s t) c.same_literal (c.same_text_read ∙ c.post.1)
    ∙ ap (λ (u : Result Unquoted Refusal). part_of u xs (text_by u (unquoted v xs) d)) c.post.0
    ∙ part_is_text v xs d (sym (ap is_read c.post.0) ∙ h)
    ∙ ap₂ unquoted c.by_reading c.of_literal

-- demand 3 of the calls: escaping joined texts joins their escapes
pub escape_calls_join : (x y es fs gs : List ℕ) → Escaped x es → Escaped y fs → Escaped (x ++ y) gs → gs ≡ es ++ fs
escape_calls_join x y es fs gs a b c =
    let w = wrote a in
    let v = wrote b in
    (wrote c).1 ∙ escape_join x y w.0 v.0 ∙ sym (ap₂ (λ (s t : List ℕ). s ++ t) w.1 v.1)

-- calls on a literal that stands for x are accepted where the limit and the room are kept, and hand x back
module _ {r : Reading} {literal ys : List ℕ} {room : ℕ} (c : Read r literal room ys) (x : List ℕ) (b : (is_bad_literal literal ≡ false) × (unquoted r literal ≡ x)) (w : WellFormed literal) (l : length literal ≤ text_limit) (h : length x ≤ room) where
  accepted : is_read c.result ≡ true
  accepted =
      ap is_read (c.post.0 ∙ ap₂ (λ (v : Reading) (n : ℕ). unquoting_of v n c.args.0.now) c.by_reading c.in_room ∙ ap (unquoting_of r room) c.of_literal)
      ∙ good_read r room literal ((λ n. omega arith), w) b.0 (omega (arith, ap length b.1))

  pub read_calls : (is_read c.result ≡ true) × (ys ≡ x)
  read_calls = (accepted, handed c accepted ∙ b.1)

-- the escape of a text, between double quotes, reads back
module _ (r : Reading) (x es ys : List ℕ) (room : ℕ) (e : Escaped x es) (c : Read r (quoted es) room ys) (l : length (quoted es) ≤ text_limit) (h : length x ≤ room) where
  pub read_back_calls : (is_read c.result ≡ true) × (ys ≡ x)
  read_back_calls =
      let w = wrote e in
      let b : (is_bad_literal (quoted es) ≡ false) × (unquoted r (quoted es) ≡ x) = rw w.1 (read_back r x w.0) in
      let t : WellFormed (quoted es) = rw w.1 (quoted_text (escaped x) (escaped_text x w.0)) in
      read_calls c x b t l h

-- and so do two escapes, joined
module _ (r : Reading) (x y es fs ys : List ℕ) (room : ℕ) (e : Escaped x es) (f : Escaped y fs) (c : Read r (quoted (es ++ fs)) room ys) (l : length (quoted (es ++ fs)) ≤ text_limit) (h : length (x ++ y) ≤ room) where
  pub read_back_calls_join : (is_read c.result ≡ true) × (ys ≡ x ++ y)
  read_back_calls_join =
      let w = wrote e in
      let v = wrote f in
      let b : (is_bad_literal (quoted (es ++ fs)) ≡ false) × (unquoted r (quoted (es ++ fs)) ≡ x ++ y) = rw (w.1, v.1) (read_back_join r x y w.0 v.0) in
      let t : WellFormed (es ++ fs) = rw (w.1, v.1) (text_join (escaped x) (escaped y) (escaped_text x w.0) (escaped_text y v.0)) in
      let u = quoted_text (es ++ fs) t in
      read_calls c (x ++ y) b u l h
