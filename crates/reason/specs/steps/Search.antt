-- The search as the code makes it: a count that goes up with each lexeme, and the lexeme that was found. A refusal has its byte offset; its character is counted when
-- it is given.
use Rattle.std.specs.Prelude.{ℕ, ◌+◌, ◌≤◌, cond, List, leb, length, Err, None, Ok, Option, Result, Some}
use Rattle.utf8.specs.declared.Reading.{Reading}
use Rattle.utf8.specs.declared.Refusal.{Refusal}
use Rattle.utf8.specs.Answers.{refused_at}
use Rattle.quoted.specs.declared.Fault.{Fault}
use Rattle.quoted.specs.Quoted.{fault}
use Rattle.lex.specs.Outcome.{Outcome, reads, ends, refuses, outcome_of}
use Rattle.reason.specs.declared.Found.{Found}
use Rattle.reason.specs.declared.Sought.{Sought}
use Rattle.reason.specs.Reason.{lexeme_at, no_lexeme, reason_at}

-- so many lexemes, and the one that was found
abbrev pub ended : ℕ → Option Found → Result Sought Fault
ended n f = Ok (record { count = n; found = f })

-- n lexemes stand before
unfoldable pub search_by : Option Found → ℕ → Outcome → Result Sought Fault
search_by f n (reads e o) = search_by f (n + 1) o
search_by f n (ends at) = ended (n + 1) f
search_by f n (refuses number o) = Err (fault number o)

abbrev pub searched : Reading → ℕ → List ℕ → Result Sought Fault
searched r number q = search_by (lexeme_at r q number) 0 (outcome_of r q)

-- what was found before, else what is found from here on
abbrev pub or_else : Option Found → Option Found → Option Found
or_else (Some g) f = Some g
or_else None f = f

-- a lexeme that is found begins in the query
abbrev pub FoundWithin : List ℕ → Option Found → Type 0
FoundWithin q (Some f) = f.at ≤ length q
FoundWithin q None = Unit {0}

abbrev pub Within : List ℕ → Result Sought Fault → Type 0
Within q (Ok s) = FoundWithin q s.found
Within q (Err f) = Unit {0}

-- what a search answers, of the lexeme's number
abbrev pub answer_of : List ℕ → ℕ → Result Sought Fault → Result ℕ Refusal
answer_of q number (Ok s) = cond (leb s.count number) no_lexeme (reason_at q s.found)
answer_of q number (Err f) = Err (refused_at q f.number f.at)
