-- Document 01, "Values on both sides": the values marked P, as one table: of queries, and of texts. What a row says of the definitions is `Shown`.
use Rattle.utf8.specs.declared.Refusal.{Refusal}
use Rattle.std.specs.Prelude.{ℕ, ◌*◌, false, List, [], ◌∷◌, ◌++◌, map, ◌≡◌, length, Err, Ok, Result}
use Rattle.scan.specs.Ascii.{ascii}
use Rattle.utf8.specs.declared.Reading.{Reading}
use Rattle.utf8.specs.declared.Reading.TheVariants.{Crate, Documented}
use Rattle.utf8.specs.Answers.{at_start, refused_at}
use Rattle.duration.specs.declared.span.Duration.{Duration}
use Rattle.duration.specs.Duration.{timing_of}
use Rattle.duration.specs.Display.{duration_text}
use Rattle.string.specs.Literal.{is_bad_literal, unquoted}
use Rattle.lex.specs.Lex.{entries_of, measured, kind_of}

pub data Case : Type 0 where
  -- a query's lexemes are of these kinds, in the crate reading
  lexes : List ℕ → List ℕ → Case
  -- there a query is refused with a number at a byte
  refuses : List ℕ → ℕ → ℕ → Case
  -- in a reading a literal stands for a text
  literal : Reading → List ℕ → List ℕ → Case
  -- a text is read as a duration, or refused
  timed : List ℕ → Result Duration Refusal → Case
  -- a duration is written as a text
  written : Duration → List ℕ → Case

abbrev pub elapsed : ℕ → ℕ → Duration
elapsed s n = record { secs = s; nanos = n }

abbrev pub days : ℕ → Duration
days n = elapsed (n * 86400) 0

abbrev pub queries : List Case
queries =
    lexes [] (0 ∷ [])
    ∷ lexes (ascii "{or }") (8 ∷ 36 ∷ 9 ∷ 0 ∷ [])
    ∷ lexes (ascii "{order}") (8 ∷ 1 ∷ 9 ∷ 0 ∷ [])
    ∷ refuses (ascii "[:5m]") 29 1
    ∷ lexes (ascii "[ :5m]") (10 ∷ 13 ∷ 5 ∷ 11 ∷ 0 ∷ [])
    ∷ lexes (ascii "fill ()") (70 ∷ 6 ∷ 7 ∷ 0 ∷ [])
    ∷ lexes (ascii "fill #") (1 ∷ 0 ∷ [])
    ∷ refuses (ascii "5m3") 20 3
    ∷ []

abbrev pub texts : List Case
texts =
    literal Crate (ascii "\"\\303\\251\"") (0xc3 ∷ 0x83 ∷ 0xc2 ∷ 0xa9 ∷ [])
    ∷ literal Documented (ascii "\"\\303\\251\"") (0xc3 ∷ 0xa9 ∷ [])
    ∷ timed (ascii "0") (Err (at_start 51))
    ∷ timed (ascii "00") (Ok (elapsed 0 0))
    ∷ timed (ascii "0.0009765625") (Ok (elapsed 0 976562))
    ∷ timed (ascii "1d5000000000ms") (Ok (days 1))
    ∷ written (days 90) (ascii "90d")
    ∷ written (days 14) (ascii "2w")
    ∷ []

abbrev pub cases : List Case
cases = queries ++ texts

abbrev pub Shown : Case → Type 0
Shown (lexes q ks) = (measured Crate q ≡ Ok (length ks)) × (map kind_of (entries_of Crate q) ≡ ks)
Shown (refuses q r p) = measured Crate q ≡ Err (refused_at q r p)
Shown (literal r xs ys) = (is_bad_literal xs ≡ false) × (unquoted r xs ≡ ys)
Shown (timed xs t) = timing_of xs ≡ t
Shown (written d ys) = duration_text d ≡ ys

abbrev pub Each : (Case → Type 0) → List Case → Type 0
Each P [] = Unit {0}
Each P (c ∷ cs) = P c × Each P cs

abbrev pub AllShown : Type 0
AllShown = Each Shown cases
