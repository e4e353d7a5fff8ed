-- A call of `lexer` that keeps its promise, and what it answers and leaves, as statements; `proofs/Calls` has their proofs.
use Rattle.std.specs.Prelude.{ℕ, List, [], ◌∷◌, map, ◌≡◌, length, take, drop, get_or, Err, Ok}
use contract.Lifetimes.{Lfts}
use borrow.Fn.Kinds.{Dens, res_t, ended_of}
use denote.Triple.Clauses.{AtExit}
use Rattle.utf8.specs.declared.Reading.{Reading}
use Rattle.utf8.specs.declared.Refusal.{Refusal}
use Rattle.lex.specs.Outcome.{Entry, entry}
use Rattle.lex.specs.Lex.{entries_of, measured, lexed, kind_of, starts_at, length_of, depth_of, shortest}
use Rattle.lex.proofs.lexer.Kinds as lexer
use Rattle.lex.proofs.lexer.Reads as lexer_reads

-- on a query in a reading
pub record LexCall (r : Reading) (q : List ℕ) : Type 0 where
  pub κs : Lfts 5
  pub args : Dens κs lexer.ps
  pub result : (res_t lexer.r κs).Denot
  pub exit : AtExit (ended_of 5 lexer.ps lexer.r) κs
  pub post : lexer_reads.Post κs args result exit
  pub of_query : args.0.now ≡ q
  pub in_reading : args.1.0 ≡ r

-- the room that it was lent, and what it left in the lists
abbrev pub room_in : {r : Reading} {q : List ℕ} → LexCall r q → ℕ
room_in c =
    shortest (length c.args.1.1.0.now) (length c.args.1.1.1.0.now) (length c.args.1.1.1.1.0.now) (length c.args.1.1.1.1.1.0.now)

abbrev pub kinds_left : {r : Reading} {q : List ℕ} → LexCall r q → List ℕ
kinds_left c = c.exit.1.1.0.now

abbrev pub starts_left : {r : Reading} {q : List ℕ} → LexCall r q → List ℕ
starts_left c = c.exit.1.1.1.0.now

abbrev pub lengths_left : {r : Reading} {q : List ℕ} → LexCall r q → List ℕ
lengths_left c = c.exit.1.1.1.1.0.now

abbrev pub depths_left : {r : Reading} {q : List ℕ} → LexCall r q → List ℕ
depths_left c = c.exit.1.1.1.1.1.0.now

-- what it answered; a count is the query's, whatever the room
abbrev pub CallAnswers : Type 0
CallAnswers = (r : Reading) (q : List ℕ) (c : LexCall r q) → c.result ≡ lexed r (room_in c) q

abbrev pub CallCounts : Type 0
CallCounts = (r : Reading) (q : List ℕ) (c : LexCall r q) (n : ℕ) → c.result ≡ Ok n → (measured r q ≡ Ok n) × (n ≡ length (entries_of r q))

-- what it wrote where it was accepted
abbrev pub CallWrites : Type 0
CallWrites =
    (r : Reading) (q : List ℕ) (c : LexCall r q) (n : ℕ) →
    c.result ≡ Ok n →
    (take n (kinds_left c) ≡ map kind_of (entries_of r q))
    × (take n (starts_left c) ≡ map starts_at (entries_of r q))
    × (take n (lengths_left c) ≡ map length_of (entries_of r q))
    × (take n (depths_left c) ≡ map depth_of (entries_of r q))

-- the lexemes that lists hold: of each its kind, and with it what the other lists have there
abbrev pub held : List ℕ → List ℕ → List ℕ → List ℕ → List Entry
held [] starts lengths depths = []
held (k ∷ kinds) starts lengths depths =
    entry k (get_or starts 0 0) (get_or lengths 0 0) (get_or depths 0 0) ∷ held kinds (drop 1 starts) (drop 1 lengths) (drop 1 depths)

-- so what it left at their fronts is the query's lexemes
abbrev pub lexemes_left : {r : Reading} {q : List ℕ} → LexCall r q → ℕ → List Entry
lexemes_left c n = held (take n (kinds_left c)) (take n (starts_left c)) (take n (lengths_left c)) (take n (depths_left c))

abbrev pub CallLeaves : Type 0
CallLeaves = (r : Reading) (q : List ℕ) (c : LexCall r q) (n : ℕ) → c.result ≡ Ok n → lexemes_left c n ≡ entries_of r q

-- where it refused, nothing that it was lent is changed
abbrev pub Untouched : {r : Reading} {q : List ℕ} → LexCall r q → Type 0
Untouched c =
    (kinds_left c ≡ c.args.1.1.0.now)
    × (starts_left c ≡ c.args.1.1.1.0.now)
    × (lengths_left c ≡ c.args.1.1.1.1.0.now)
    × (depths_left c ≡ c.args.1.1.1.1.1.0.now)

abbrev pub CallKeeps : Type 0
CallKeeps = (r : Reading) (q : List ℕ) (c : LexCall r q) (refusal : Refusal) → c.result ≡ Err refusal → Untouched c
