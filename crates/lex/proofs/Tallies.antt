-- The loop's count is the number of lexemes, so that what it answers is what the reading does: by induction on the outcome.
use Prim.Native.Nat.{ℕ, ◌+◌}
use native.Mathlib.Nat.{zero-add}
use native.Mathlib.Omega.{arith}
use mathlib.Core.List.{List}
use mathlib.Core.Path.{◌≡◌, refl, sym, ap, ◌∙◌}
use lib.ListN.{length}
use Rattle.std.specs.Prelude.{Err, Ok, Result}
use Rattle.quoted.specs.declared.Fault.{Fault}
use Rattle.utf8.specs.declared.Reading.{Reading}
use Rattle.utf8.specs.declared.CharNumber.{CharNumber}
use Rattle.utf8.specs.Answers.{text_limit, admitted}
use Rattle.lex.specs.declared.query.Run.{Run}
use Rattle.lex.specs.Outcome.{Outcome, reads, ends, refuses, outcome_of}
use Rattle.lex.specs.Lex.{entries, entries_of, answer_by, measured}
use Rattle.lex.specs.steps.Tally.{tallied, tally_of, answer_in}

tally_answers : (q : List ℕ) (r : Outcome) (n : ℕ) → answer_in q (tallied n r) ≡ answer_by q (n + length (entries r)) r
unfolding tallied answer_by
tally_answers q (reads e r) n = tally_answers q r (n + 1) ∙ ap (λ (k : ℕ). answer_by q k r) (omega arith)
tally_answers q (ends at) n = refl
tally_answers q (refuses r o) n = refl

pub tally_answer : (r : Reading) (q : List ℕ) → answer_in q (tally_of r q) ≡ answer_by q (length (entries_of r q)) (outcome_of r q)
tally_answer r q = tally_answers q (outcome_of r q) 0 ∙ ap (λ (k : ℕ). answer_by q k (outcome_of r q)) (zero-add (length (entries_of r q)))

-- a count is that of the lexemes
counts : (r : Outcome) (k : ℕ) (run : Run) → tallied k r ≡ Ok run → run.count ≡ k + length (entries r)
unfolding tallied
counts (reads e r) k run h = counts r (k + 1) run h ∙ omega arith
counts (ends o) k run h = let z : record { at = o; count = k + 1 } ≡ run = cc in sym (ap (λ (t : Run). t.count) z)
counts (refuses r o) k run h = let z : ◌≡◌ {A = ℕ} 0 1 = cc in absurd (omega arith)

pub tally_counts : (r : Reading) (q : List ℕ) (run : Run) → tally_of r q ≡ Ok run → run.count ≡ length (entries_of r q)
tally_counts r q run h = counts (outcome_of r q) 0 run h ∙ zero-add (length (entries_of r q))

-- and so is what is answered by it
pub answer_counts : (r : Reading) (q : List ℕ) {n : ℕ} (t : Result Run Fault) → t ≡ tally_of r q → answer_in q t ≡ Ok n → n ≡ length (entries_of r q)
answer_counts r q {n = n} (Ok run) e h = let z : run.count ≡ n = cc in sym z ∙ tally_counts r q run (sym e)
answer_counts r q (Err f) e h = absurd (cc)

-- so a text that is admitted is measured by its tally
pub tally_measured : (r : Reading) (q : List ℕ) {k : CharNumber} → admitted text_limit q ≡ Ok k → answer_in q (tally_of r q) ≡ measured r q
unfolding measured
tally_measured r q e = rw e (tally_answer r q)
