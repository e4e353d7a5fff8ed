-- The pieces that a query is made of: lexemes, runs of white space, comments. What each may be is said of the query's bytes; of a string, as a set of texts
-- (`quoted/specs/Texts`). No reader has a part in it. Document 02, L12.
use Rattle.std.specs.Prelude.{ℕ, suc, ◌+◌, ◌≤◌, ◌<◌, Bool, true, false, cond, List, [], ◌∷◌, ◌⊎◌, ◌≡◌, eqb, length, drop, get_or}
use Prim.Native.Char.{code}
use Rattle.scan.specs.Byte.{peek_at, is_space, is_line}
use Rattle.utf8.specs.declared.Reading.{Reading}
use Rattle.munch.specs.laws.Text.{TextOf}

-- each byte from an offset up to another passes a test
abbrev pub All : (ℕ → Bool) → List ℕ → ℕ → ℕ → Type 0
All p q from to = (i : ℕ) → from ≤ i → i < to → p (peek_at q i) ≡ true

-- document 01: "White space is bytes 9, 10, 12, 13, 32": some, up to where no more follow
pub record White (q : List ℕ) (from to : ℕ) : Type 0 where
  pub some : from < to
  pub all : All is_space q from to
  pub whole : is_space (peek_at q to) ≡ false

-- 01: "A comment runs from `#` through the first CR or LF, or to the end": where its line stops, and where it ends
abbrev pub EndsAt : List ℕ → ℕ → ℕ → Type 0
EndsAt q stop to = (((peek_at q stop ≡ code "\r") ⊎ (peek_at q stop ≡ code "\n")) × (to ≡ suc stop)) ⊎ ((stop ≡ length q) × (to ≡ stop))

pub record Comment (q : List ℕ) (from to : ℕ) : Type 0 where
  pub stop : ℕ
  pub begins : peek_at q from ≡ code "#"
  pub some : from < stop
  pub line : All is_line q (suc from) stop
  pub ends : EndsAt q stop to

-- what a piece is, a lexeme with its kind; where it begins, and where it ends
pub data Sort : Type 0 where
  lexeme : ℕ → Sort
  white : Sort
  comment : Sort

pub record Piece : Type 0 where
  pub sort : Sort
  pub from : ℕ
  pub to : ℕ

abbrev pub piece : Sort → ℕ → ℕ → Piece
piece s from to = record { sort = s; from = from; to = to }

-- whether brackets are open behind a lexeme, by its first byte and whether they are before it
abbrev pub brackets_by : Bool → ℕ → Bool
brackets_by before c = cond (eqb c (code "[")) true (cond (eqb c (code "]")) false before)

-- pieces side by side, from an offset to the end of the query, given whether brackets are open there. A lexeme is a string, a bracket, or bytes of which none is
-- white space, a quote sign, a `#` or a bracket (`TextOf`); of comments "none exist inside `[ ]`"
pub data Tiled (r : Reading) (q : List ℕ) : Bool → ℕ → List Piece → Type 0 where
  none : (b : Bool) → Tiled r q b (length q) []
  then_lexeme : (b : Bool) (k from n : ℕ) (ps : List Piece) → 0 < n → TextOf r (drop from q) k n
      → Tiled r q (brackets_by b (peek_at q from)) (from + n) ps → Tiled r q b from (piece (lexeme k) from (from + n) ∷ ps)
  then_white : (b : Bool) (from to : ℕ) (ps : List Piece) → White q from to → Tiled r q b to ps → Tiled r q b from (piece white from to ∷ ps)
  then_comment : (from to : ℕ) (ps : List Piece) → Comment q from to → Tiled r q false to ps → Tiled r q false from (piece comment from to ∷ ps)

-- the pieces of a whole query
abbrev pub Pieces : Reading → List ℕ → List Piece → Type 0
Pieces r q = Tiled r q false 0

-- the lexemes among them, and the gaps, which are the others
abbrev pub if_lexeme : Sort → List Piece → List Piece → List Piece
if_lexeme (lexeme k) ps others = ps
if_lexeme white ps others = others
if_lexeme comment ps others = others

abbrev pub lexemes_in : List Piece → List Piece
lexemes_in [] = []
lexemes_in (p ∷ ps) = if_lexeme p.sort (p ∷ lexemes_in ps) (lexemes_in ps)

abbrev pub gaps_in : List Piece → List Piece
gaps_in [] = []
gaps_in (p ∷ ps) = if_lexeme p.sort (gaps_in ps) (p ∷ gaps_in ps)

-- a byte is of exactly one piece
abbrev pub nth : List Piece → ℕ → Piece
nth ps k = get_or ps k (piece white 0 0)

abbrev pub Holds : ℕ → Piece → Type 0
Holds i p = (p.from ≤ i) × (i < p.to)

abbrev pub OfOne : List Piece → ℕ → Type 0
OfOne ps i = (k : ℕ) × (k < length ps) × Holds i (nth ps k) × ((j : ℕ) → j < length ps → Holds i (nth ps j) → j ≡ k)
