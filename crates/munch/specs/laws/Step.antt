-- What the crates above may know of a step, as statements; `proofs/Goes`, `proofs/Fits`, `proofs/Seam` and `proofs/Known`
-- have their proofs.
use Rattle.std.specs.Prelude.{ℕ, suc, ◌^◌, ◌≤◌, ◌<◌, true, List, ◌∷◌, ◌++◌, ◌≡◌, length, take, Some}
use Prim.Native.Char.{code}
use Rattle.scan.specs.declared.byte.Class.TheVariants as class
use Rattle.scan.specs.Byte.{end, peek_at, is_in}
use Rattle.scan.specs.laws.Edge.{Edge, Bytes}
use Rattle.scan.specs.Run.{run_end}
use Rattle.utf8.specs.declared.Reading.{Reading}
use Rattle.token.specs.Kinds.{identifier}
use Rattle.token.specs.Words.{keyword_of}
use Rattle.token.specs.steps.WordRows.{word_table}
use Rattle.munch.specs.Word.{is_fill}
use Rattle.munch.specs.declared.Mode.{Mode}
use Rattle.munch.specs.declared.Step.{Step}
use Rattle.munch.specs.declared.Step.TheVariants.{Lexeme, Space, Comment, Refused, Finished}
use Rattle.munch.specs.declared.Inside.TheVariants.{Nothing, Braces}
use Rattle.munch.specs.Munch.{mode, outside, munched}
use Rattle.munch.specs.steps.Leads.{lead_table}
use Rattle.munch.specs.steps.Lent.{outside_by, brace_by}

-- so many of the bytes, one at least; where they are a text, no character is cut behind them
pub record Past (xs : List ℕ) (n : ℕ) : Type 0 where
  pub some : 1 ≤ n
  pub within : n ≤ length xs
  pub edge : Bytes xs → Edge xs n

-- a step takes some, or is refused at a place among them; it is finished at the end alone, and outside all
abbrev pub Goes : Mode → List ℕ → Step → Type 0
Goes m xs (Lexeme k n m') = Past xs n
Goes m xs (Space m') = Past xs 1
Goes m xs (Comment n) = Past xs n
Goes m xs (Refused r o) = Edge xs o
Goes m xs Finished = (peek_at xs 0 ≡ end) × (m ≡ outside)

abbrev pub StepGoes : Type 0
StepGoes = (r : Reading) (m : Mode) (xs : List ℕ) → Goes m xs (munched r m xs)

-- a fact of a lexeme, by its kind and its length, where the step makes one
abbrev pub OfLexeme : (ℕ → ℕ → Type 0) → Step → Type 0
OfLexeme P (Lexeme k n m) = P k n
OfLexeme P (Space m) = Unit {0}
OfLexeme P (Comment n) = Unit {0}
OfLexeme P (Refused r o) = Unit {0}
OfLexeme P Finished = Unit {0}

-- the kind of a lexeme has 16 bits
abbrev pub Fits : Step → Type 0
Fits (Lexeme k n m) = k < 2 ^ 16
Fits (Space m) = Unit {0}
Fits (Comment n) = Unit {0}
Fits (Refused r o) = Unit {0}
Fits Finished = Unit {0}

abbrev pub StepFits : Type 0
StepFits = (r : Reading) (m : Mode) (xs : List ℕ) → Fits (munched r m xs)

-- what a newline behind the bytes does to a step on them: nothing; but a comment that runs to the end takes it in, and a fill word with
-- nothing but white space behind it may become one that a parenthesis follows. Of a refused step nothing is said.
pub data Seam (xs : List ℕ) : Step → Step → Type 0 where
  same : (s : Step) → Seam xs s s
  grown : Seam xs (Comment (length xs)) (Comment (suc (length xs)))
  called : (k n : ℕ) (m : Mode) → keyword_of (take n xs) ≡ Some k → is_fill k ≡ true → run_end (is_in class.Space) xs n ≡ length xs → Seam xs (Lexeme identifier n m) (Lexeme k n m)
  refused : (r o : ℕ) (s : Step) → Seam xs (Refused r o) s

abbrev pub StepSeam : Type 0
StepSeam =
    (r : Reading) (m : Mode) (xs ys : List ℕ) → 0 < length xs → Seam xs (munched r m xs) (munched r m (xs ++ code "\n" ∷ ys))

-- a step by the tables of leads and of document 01's words, as the code makes it, is the step
abbrev pub OutsideByTables : Type 0
OutsideByTables = (r : Reading) (d : ℕ) (xs : List ℕ) → outside_by r lead_table word_table d xs ≡ munched r (mode d Nothing) xs

abbrev pub BracesByTable : Type 0
BracesByTable = (r : Reading) (d : ℕ) (xs : List ℕ) → brace_by r lead_table d xs ≡ munched r (mode d Braces) xs
