-- What is read of a string is what the documents' sentences say of texts, and where it is refused, as statements; `proofs/Texts` has their proofs. They
-- are said of the bytes behind the sign that opens it.
use Rattle.std.specs.Prelude.{ℕ, suc, ◌≤◌, true, false, List, [], ◌∷◌, ◌++◌, ◌↔◌, ◌≡◌, length, take, Ok, Err}
use Rattle.scan.specs.Byte.{backslash, backquote, is_quote}
use Rattle.utf8.specs.declared.Reading.{Reading}
use Rattle.utf8.specs.declared.Reading.TheVariants.{Documented}
use Rattle.quoted.specs.Quoted.{unknown_escape, end_in_escape, end_in_string, fault, is_escape, quoted_of}
use Rattle.quoted.specs.Texts.{HasEscapes, Content, StringText}

-- the bytes begin with a string, content and sign, of n bytes
abbrev pub IsString : Reading → ℕ → List ℕ → ℕ → Type 0
IsString r symbol xs n = (n ≤ length xs) × StringText r symbol (take n xs)

-- 21 "unknown escape", at the "character after the backslash": what stands before it is content, so that it is the first
pub record UnknownEscape (r : Reading) (symbol : ℕ) (xs : List ℕ) (n : ℕ) : Type 0 where
  pub content : List ℕ
  pub character : ℕ
  pub rest : List ℕ
  pub before : Content r symbol content
  pub escapes : HasEscapes r symbol
  pub unknown : is_escape symbol character ≡ false
  pub whole : xs ≡ content ++ (backslash ∷ character ∷ rest)
  pub place : n ≡ suc (length content)

-- 22 "end after a backslash", at the end
pub record EndInEscape (r : Reading) (symbol : ℕ) (xs : List ℕ) (n : ℕ) : Type 0 where
  pub content : List ℕ
  pub before : Content r symbol content
  pub escapes : HasEscapes r symbol
  pub whole : xs ≡ content ++ (backslash ∷ [])
  pub place : n ≡ length xs

-- 23 "end in a string", at the end
abbrev pub EndInString : Reading → ℕ → List ℕ → ℕ → Type 0
EndInString r symbol xs n = Content r symbol xs × (n ≡ length xs)

abbrev pub StringGiven : Type 0
StringGiven =
    (r : Reading) (symbol : ℕ) → is_quote symbol ≡ true → (xs : List ℕ) (n : ℕ) →
    (quoted_of r symbol xs ≡ Ok n ↔ IsString r symbol xs n)
    × (quoted_of r symbol xs ≡ Err (fault unknown_escape n) ↔ UnknownEscape r symbol xs n)
    × (quoted_of r symbol xs ≡ Err (fault end_in_escape n) ↔ EndInEscape r symbol xs n)
    × (quoted_of r symbol xs ≡ Err (fault end_in_string n) ↔ EndInString r symbol xs n)

-- L5: "21 and 22 no longer occur there inside backquotes."
abbrev pub NoEscapes : Type 0
NoEscapes =
    (xs : List ℕ) (n : ℕ) →
    (¬ (quoted_of Documented backquote xs ≡ Err (fault unknown_escape n))) × (¬ (quoted_of Documented backquote xs ≡ Err (fault end_in_escape n)))
