-- What a string in a query is behind the sign that opens it, as sets of texts: document 01, "Lexing rules", and document 02, L5. Nothing here scans;
-- `laws/Texts` says that reading finds these.
use Rattle.std.specs.Prelude.{ℕ, true, List, [], ◌∷◌, ◌++◌, ◌≡◌, eqb}
use Rattle.scan.specs.Byte.{backslash, backquote}
use Rattle.scan.specs.Language.{One, Then}
use Rattle.utf8.specs.declared.Reading.{Reading}
use Rattle.utf8.specs.declared.Reading.TheVariants.{Crate, Documented}
use Rattle.quoted.specs.Quoted.{is_escape}

-- where a backslash begins an escape: "This holds for backquotes too", but "in the documented reading the lexer .. treats a backslash as itself" there
abbrev pub HasEscapes : Reading → ℕ → Type 0
HasEscapes Crate symbol = Unit {0}
HasEscapes Documented symbol = ¬ (symbol ≡ backquote)

-- a piece is any byte but the sign and what begins an escape; or an escape: "A backslash must be followed by that sign or one of
-- `abfnrtv\01234567xuU`"
pub data Piece (r : Reading) (symbol : ℕ) : List ℕ → Type 0 where
  plain : (x : ℕ) → ¬ (x ≡ symbol) → (HasEscapes r symbol → ¬ (x ≡ backslash)) → Piece r symbol (x ∷ [])
  escape : (x : ℕ) → HasEscapes r symbol → is_escape symbol x ≡ true → Piece r symbol (backslash ∷ x ∷ [])

pub data Content (r : Reading) (symbol : ℕ) : List ℕ → Type 0 where
  none : Content r symbol []
  more : (u v : List ℕ) → Piece r symbol u → Content r symbol v → Content r symbol (u ++ v)

-- "Strings .. end at the same sign."
abbrev pub StringText : Reading → ℕ → List ℕ → Type 0
StringText r symbol = Then (Content r symbol) (One (λ c. eqb c symbol))
