-- What lexing a query in a reading answers, and what it leaves in the lent lists: document 01, "Refusal numbers", "Limits".
use Rattle.utf8.specs.declared.CharNumber.{CharNumber}
use Rattle.std.specs.Prelude.{ℕ, min, cond, List, [], ◌∷◌, ◌++◌, map, leb, length, drop, Err, Ok, Result}
use Rattle.utf8.specs.declared.Reading.{Reading}
use Rattle.utf8.specs.declared.Refusal.{Refusal}
use Rattle.token.specs.Kinds.{eof_kind}
use Rattle.utf8.specs.Answers.{text_limit, refused_at, no_room, admitted}
use Rattle.lex.specs.Outcome.{Entry, entry, Outcome, reads, ends, refuses, outcome_of}

-- the lexemes that were read; "EOF: start at the query's length, length 0", and nothing is open there
abbrev pub eof : ℕ → Entry
eof at = entry eof_kind at 0 0

abbrev pub entries : Outcome → List Entry
entries (reads e r) = e ∷ entries r
entries (ends at) = eof at ∷ []
entries (refuses number o) = []

abbrev pub entries_of : Reading → List ℕ → List Entry
entries_of r q = entries (outcome_of r q)

-- the refusal that the reading came to, else so many lexemes
unfoldable pub answer_by : List ℕ → ℕ → Outcome → Result ℕ Refusal
answer_by q n (reads e r) = answer_by q n r
answer_by q n (ends at) = Ok n
answer_by q n (refuses number o) = Err (refused_at q number o)

-- "Order: 1, 2, the reading left to right (first refusal wins),
abbrev pub read_as : Reading → List ℕ → Result CharNumber Refusal → Result ℕ Refusal
read_as r q (Ok n) = answer_by q (length (entries_of r q)) (outcome_of r q)
read_as r q (Err refusal) = Err refusal

unfoldable pub measured : Reading → List ℕ → Result ℕ Refusal
measured r q = read_as r q (admitted text_limit q)

-- 3." "Room is the shortest list."
abbrev pub roomed : ℕ → Result ℕ Refusal → Result ℕ Refusal
roomed room (Ok n) = cond (leb n room) (Ok n) (Err no_room)
roomed room (Err refusal) = Err refusal

unfoldable pub lexed : Reading → ℕ → List ℕ → Result ℕ Refusal
lexed r room q = roomed room (measured r q)

-- "the first count entries of the three lent lists .. are written, no other", and of a fourth since document 02's L7
abbrev pub listed : Reading → (Entry → ℕ) → List ℕ → List ℕ → List ℕ
listed r f q d = map f (entries_of r q) ++ drop (length (entries_of r q)) d

abbrev pub left_after : Result ℕ Refusal → List ℕ → List ℕ → List ℕ
left_after (Ok n) new old = new
left_after (Err refusal) new old = old

abbrev pub kind_of : Entry → ℕ
kind_of e = e.kind

abbrev pub starts_at : Entry → ℕ
starts_at e = e.start

abbrev pub length_of : Entry → ℕ
length_of e = e.length

abbrev pub depth_of : Entry → ℕ
depth_of e = e.depth

-- 02, L7: "Room is the shortest of four lists."
abbrev pub shortest : ℕ → ℕ → ℕ → ℕ → ℕ
shortest a b c d = min a (min b (min c d))
