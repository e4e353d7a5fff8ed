-- Nothing in an accepted query is unaccounted for, as statements; `proofs/` has the proofs. Document 02, L12: "starts ascend, lexemes don't overlap, and each
-- byte belongs to exactly one lexeme, run of white space or comment; EOF alone is empty", "for every accepted query, in each reading".
use Rattle.std.specs.Prelude.{ℕ, suc, ◌+◌, ◌≤◌, ◌<◌, false, List, [], ◌∷◌, ◌++◌, map, ◌↔◌, ◌≡◌, length, get_or, Ok}
use Rattle.scan.specs.Text.{has}
use Rattle.utf8.specs.declared.Reading.{Reading}
use Rattle.token.specs.Kinds.{eof_kind}
use Rattle.lex.specs.Outcome.{Entry}
use Rattle.lex.specs.Lex.{eof, entries_of, measured, kind_of}
use Rattle.calls.specs.laws.Calls.{LexCall, lexemes_left}
use Rattle.pieces.specs.Pieces.{lexeme, Piece, piece, Pieces, lexemes_in, gaps_in, OfOne}

-- lexeme by lexeme: starts ascend, none overlaps another, the last one alone is empty and alone has EOF's kind, and it starts at the query's length
abbrev pub at : List Entry → ℕ → Entry
at es i = get_or es i (eof 0)

pub record InOrder (q : List ℕ) (es : List Entry) : Type 0 where
  pub some : 0 < length es
  pub ascend : (i j : ℕ) → i < j → j < length es → (at es i).start < (at es j).start
  pub apart : (i j : ℕ) → i < j → j < length es → (at es i).start + (at es i).length ≤ (at es j).start
  pub empty : (i : ℕ) → i < length es → (at es i).length ≡ 0 ↔ suc i ≡ length es
  pub named : (i : ℕ) → i < length es → (at es i).kind ≡ eof_kind ↔ suc i ≡ length es
  pub last : (i : ℕ) → suc i ≡ length es → (at es i).start ≡ length q

-- where a lexeme stands
abbrev pub stands_at : Entry → Piece
stands_at e = piece (lexeme e.kind) e.start (e.start + e.length)

-- a query is made of these lexemes, with white space and comments between them, and behind them EOF, alone of its kind
pub record MadeOf (r : Reading) (q : List ℕ) (es : List Entry) (ps : List Piece) : Type 0 where
  pub lexemes : List Entry
  pub all : es ≡ lexemes ++ eof (length q) ∷ []
  pub others : has eof_kind (map kind_of lexemes) ≡ false
  pub pieces : Pieces r q ps
  pub same : lexemes_in ps ≡ map stands_at lexemes

-- so nothing in it is unaccounted for
pub record Accounted (r : Reading) (q : List ℕ) (es : List Entry) : Type 0 where
  pub pieces : List Piece
  pub made : MadeOf r q es pieces
  pub order : InOrder q es
  pub each : (i : ℕ) → i < length q → OfOne pieces i

-- that is every accepted query, in each reading, and of every call of `lexer` what an accepted one leaves in its lists
abbrev pub QueryAccounted : Type 0
QueryAccounted = (r : Reading) (q : List ℕ) (n : ℕ) → measured r q ≡ Ok n → Accounted r q (entries_of r q)

abbrev pub CallAccounted : Type 0
CallAccounted = (r : Reading) (q : List ℕ) (c : LexCall r q) (n : ℕ) → c.result ≡ Ok n → Accounted r q (lexemes_left c n)

-- the bytes and the reading alone tell what a highlighter paints grey: whatever pieces a query is made of, the gaps are the same
abbrev pub SameGaps : Type 0
SameGaps = (r : Reading) (q : List ℕ) (ps rs : List Piece) → Pieces r q ps → Pieces r q rs → gaps_in ps ≡ gaps_in rs

-- and the lexemes with them tell all pieces
abbrev pub SamePieces : Type 0
SamePieces = (r : Reading) (q : List ℕ) (ps rs : List Piece) → Pieces r q ps → Pieces r q rs → lexemes_in ps ≡ lexemes_in rs → ps ≡ rs
