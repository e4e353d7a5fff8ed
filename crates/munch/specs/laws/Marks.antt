-- What a lexeme does to what is open, by its kind, and what white space, comments and the lexemes in brackets are, as statements; `proofs/Marks`,
-- `proofs/White` and `proofs/Held` have the proofs.
use Rattle.std.specs.Prelude.{ℕ, suc, true, false, List, [], ◌∷◌, ◌⊎◌, ◌≡◌, eqb, drop}
use Prim.Native.Char.{code}
use Rattle.scan.specs.Byte.{peek_at, is_space}
use Rattle.scan.specs.Text.{has}
use Rattle.utf8.specs.declared.Reading.{Reading}
use Rattle.token.specs.Kinds.{eof_kind, number, duration, left_paren, right_paren, left_brace, right_brace, left_bracket, right_bracket, colon}
use Rattle.quoted.specs.Quoted.{comment_end}
use Rattle.numeral.specs.laws.Texts.{IsNumber, IsDuration}
use Rattle.munch.specs.declared.Inside.TheVariants.{Nothing, Braces, Brackets}
use Rattle.munch.specs.declared.Mode.{Mode}
use Rattle.munch.specs.declared.Step.TheVariants.{Lexeme, Space, Comment}
use Rattle.munch.specs.Munch.{mode, deeper, munched}
use Rattle.munch.specs.laws.Modes.{past}
use Rattle.munch.specs.laws.Rows.{Outside, InBraces, InBrackets, Begins}

-- the kinds that open or close something, and the colon of brackets
abbrev pub marks : List ℕ
marks = left_paren ∷ right_paren ∷ left_brace ∷ right_brace ∷ left_bracket ∷ right_bracket ∷ colon ∷ []

-- by its kind and its length: each mark is its one byte and does what it is for; no other lexeme does anything, but that behind it brackets are no longer
-- just opened
pub data Does (xs : List ℕ) (m : Mode) : ℕ → ℕ → Mode → Type 0 where
  opens_paren : Outside m → Begins (code "(") xs → Does xs m left_paren 1 (mode (deeper m.depth) Nothing)
  closes_paren : (d : ℕ) → Outside m → Begins (code ")") xs → m.depth ≡ suc d → Does xs m right_paren 1 (mode d Nothing)
  opens_brace : Outside m → Begins (code "{") xs → Does xs m left_brace 1 (mode m.depth Braces)
  closes_brace : InBraces m → Begins (code "}") xs → Does xs m right_brace 1 (mode m.depth Nothing)
  opens_bracket : Outside m → Begins (code "[") xs → Does xs m left_bracket 1 (mode m.depth (Brackets false true))
  closes_bracket : InBrackets m → Begins (code "]") xs → Does xs m right_bracket 1 (mode m.depth Nothing)
  first_colon : m.inside ≡ Brackets false false → Begins (code ":") xs → Does xs m colon 1 (mode m.depth (Brackets true false))
  other : (k n : ℕ) → has k marks ≡ false → Does xs m k n (mode m.depth (past m.inside))

abbrev pub StepDoes : Type 0
StepDoes = (r : Reading) (m m' : Mode) (xs : List ℕ) (k n : ℕ) → munched r m xs ≡ Lexeme k n m' → Does xs m k n m'

-- no step's lexeme is the end
abbrev pub NoneEnds : Type 0
NoneEnds = (r : Reading) (m m' : Mode) (xs : List ℕ) (k n : ℕ) → munched r m xs ≡ Lexeme k n m' → eqb k eof_kind ≡ false

-- white space is a white byte, and each white byte is white space, in every mode
abbrev pub SpaceWhite : Type 0
SpaceWhite = (r : Reading) (m m' : Mode) (xs : List ℕ) → munched r m xs ≡ Space m' → is_space (peek_at xs 0) ≡ true

abbrev pub WhiteSpace : Type 0
WhiteSpace = (r : Reading) (m : Mode) (xs : List ℕ) → is_space (peek_at xs 0) ≡ true → munched r m xs ≡ Space (mode m.depth (past m.inside))

-- a comment is its sign and what is behind it up to where a comment ends
abbrev pub CommentIs : Type 0
CommentIs =
    (r : Reading) (m : Mode) (xs : List ℕ) (n : ℕ) → munched r m xs ≡ Comment n → Begins (code "#") xs × (n ≡ suc (comment_end (drop 1 xs)))

-- "Brackets hold white space, numbers, durations and at most one colon": so a lexeme there is one of these or closes them
abbrev pub Held : Reading → List ℕ → ℕ → ℕ → Type 0
Held r xs k n = ((k ≡ colon) ⊎ (k ≡ right_bracket)) ⊎ (((k ≡ number) × IsNumber r xs n) ⊎ ((k ≡ duration) × IsDuration r xs n))

abbrev pub BracketsHold : Type 0
BracketsHold =
    (r : Reading) (m m' : Mode) (xs : List ℕ) (k n : ℕ) → InBrackets m → munched r m xs ≡ Lexeme k n m' → Held r xs k n
