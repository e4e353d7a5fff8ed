-- The count as a pass makes it, which goes up with each lexeme, and whose refusals have a byte offset alone.
use Rattle.std.specs.Prelude.{ℕ, ◌+◌, List, Err, Ok, Result}
use Rattle.utf8.specs.declared.Reading.{Reading}
use Rattle.utf8.specs.declared.Refusal.{Refusal}
use Rattle.utf8.specs.Answers.{refused_at}
use Rattle.quoted.specs.declared.Fault.{Fault}
use Rattle.quoted.specs.Quoted.{fault}
use Rattle.lex.specs.declared.query.Run.{Run}
use Rattle.lex.specs.Outcome.{Outcome, reads, ends, refuses, outcome_of}

-- a text is read to a place, or is refused at an offset
abbrev pub read_to : ℕ → ℕ → Result Run Fault
read_to at n = Ok (record { at = at; count = n })

abbrev pub refused_by : ℕ → ℕ → Result Run Fault
refused_by r at = Err (fault r at)

-- n lexemes stand before
unfoldable pub tallied : ℕ → Outcome → Result Run Fault
tallied n (reads e r) = tallied (n + 1) r
tallied n (ends at) = read_to at (n + 1)
tallied n (refuses r o) = refused_by r o

abbrev pub tally_of : Reading → List ℕ → Result Run Fault
tally_of r q = tallied 0 (outcome_of r q)

-- what is answered to a text, by its count
abbrev pub answer_in : List ℕ → Result Run Fault → Result ℕ Refusal
answer_in q (Ok run) = Ok run.count
answer_in q (Err f) = Err (refused_at q f.number f.at)
