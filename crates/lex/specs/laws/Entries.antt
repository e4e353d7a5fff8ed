-- Where the lexemes of a query come from, and where the refusals of a string stand in it, as statements; `proofs/Comes` and `proofs/Ends` have their
-- proofs.
use Rattle.std.specs.Prelude.{ℕ, List, [], ◌∷◌, ◌⊎◌, ◌≡◌, length, drop}
use Rattle.scan.specs.Byte.{peek_at, backquote}
use Rattle.utf8.specs.declared.Reading.{Reading}
use Rattle.utf8.specs.declared.Reading.TheVariants.{Documented}
use Rattle.token.specs.Kinds.{eof_kind}
use Rattle.quoted.specs.Quoted.{unknown_escape, end_in_escape, end_in_string}
use Rattle.munch.specs.declared.Mode.{Mode}
use Rattle.munch.specs.declared.Step.TheVariants.{Lexeme}
use Rattle.munch.specs.Munch.{munched}
use Rattle.lex.specs.Outcome.{Entry, depth_by}
use Rattle.lex.specs.Lex.{entries_of}
use Rattle.lex.specs.laws.Refusals.{Reaches, RowAt}

-- one of a list of lexemes
abbrev pub Among : Entry → List Entry → Type 0
Among e [] = ⊥
Among e (x ∷ xs) = (e ≡ x) ⊎ Among e xs

-- a step of the reading, at the lexeme's start, is that lexeme
pub record StepThere (r : Reading) (q : List ℕ) (e : Entry) : Type 0 where
  pub mode : Mode
  pub next : Mode
  pub reached : Reaches r q e.start mode
  pub step : munched r mode (drop e.start q) ≡ Lexeme e.kind e.length next
  pub deep : e.depth ≡ depth_by e.kind next

-- each lexeme is the end or such a step; also those before a refusal
abbrev pub EntryIsStep : Type 0
EntryIsStep = (r : Reading) (q : List ℕ) (e : Entry) → Among e (entries_of r q) → (e.kind ≡ eof_kind) ⊎ StepThere r q e

-- 22 "end after a backslash" and 23 "end in a string" stand at the end of the query
abbrev pub EndsAtEnd : Type 0
EndsAtEnd =
    (r : Reading) (q : List ℕ) (number p : ℕ) → (number ≡ end_in_escape) ⊎ (number ≡ end_in_string) → RowAt r q number p → p ≡ length q

-- document 02, L5: "21 and 22 no longer occur there inside backquotes."
abbrev pub NoneInBackquotes : Type 0
NoneInBackquotes =
    (q : List ℕ) (number p : ℕ) → (number ≡ unknown_escape) ⊎ (number ≡ end_in_escape) → (a : RowAt Documented q number p) →
    ¬ (peek_at q a.step ≡ backquote)
