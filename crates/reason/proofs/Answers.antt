-- What the search answers is the reason by definition: it counts the lexemes that the outcome has, and comes to the same refusal.
use Prim.Native.Nat.{ℕ, suc, ◌+◌}
use native.Mathlib.Omega.{arith}
use mathlib.Core.List.{List}
use mathlib.Core.Path.{◌≡◌, refl, ap, ◌∙◌}
use lib.ListN.{length}
use Rattle.std.specs.Prelude.{Ok}
use Rattle.utf8.specs.declared.CharNumber.{CharNumber}
use Rattle.utf8.specs.declared.Reading.{Reading}
use Rattle.utf8.specs.Answers.{text_limit, admitted}
use Rattle.lex.specs.Outcome.{Outcome, reads, ends, refuses, outcome_of}
use Rattle.lex.specs.Lex.{entries, answer_by, measured}
use Rattle.reason.specs.Reason.{lexeme_at, reason_as, reasoned}
use Rattle.reason.specs.steps.Search.{search_by, searched, answer_of}

module _ (r : Reading) (q : List ℕ) (number : ℕ) where
  -- n lexemes stand before
  counted : (o : Outcome) (n : ℕ) → answer_of q number (search_by (lexeme_at r q number) n o) ≡ reason_as r number q (answer_by q (n + length (entries o)) o)
  unfolding search_by answer_by
  counted (reads e o) n =
      let z : n + 1 + length (entries o) ≡ n + suc (length (entries o)) = omega arith in
      counted o (n + 1) ∙ ap (λ (k : ℕ). reason_as r number q (answer_by q k o)) z
  counted (ends at) n = refl
  counted (refuses row o) n = refl

  pub search_answers : (n : CharNumber) → admitted text_limit q ≡ Ok n → answer_of q number (searched r number q) ≡ reasoned r number q
  unfolding reasoned measured
  search_answers n e =
      let z : 0 + length (entries (outcome_of r q)) ≡ length (entries (outcome_of r q)) = omega arith in
      counted (outcome_of r q) 0 ∙ ap (λ (k : ℕ). reason_as r number q (answer_by q k (outcome_of r q))) z ∙ rw e
