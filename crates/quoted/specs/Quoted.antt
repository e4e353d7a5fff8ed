-- Strings and comments by the bytes behind the sign that opens them: document 01, "Lexing rules", and its rows 21 to 23, and document 02, L5.
use Rattle.std.specs.Prelude.{ℕ, suc, ◌+◌, Bool, true, false, cond, ◌||◌, List, [], ◌∷◌, eqb, ltb, length, Result, Ok, Err}
use Rattle.scan.specs.declared.byte.Class.TheVariants.{Line}
use Rattle.scan.specs.Ascii.{ascii}
use Rattle.scan.specs.Byte.{backslash, backquote, is_in}
use Rattle.scan.specs.Run.{run_end}
use Rattle.scan.specs.Text.{has}
use Rattle.utf8.specs.declared.Reading.{Reading}
use Rattle.utf8.specs.declared.Reading.TheVariants.{Crate, Documented}
use Rattle.quoted.specs.declared.Fault.{Fault}

-- 21 "unknown escape", at the "character after the backslash"; 22 "end after a backslash", 23 "end in a string", at the end
abbrev pub unknown_escape : ℕ
unknown_escape = 21

abbrev pub end_in_escape : ℕ
end_in_escape = 22

abbrev pub end_in_string : ℕ
end_in_string = 23

-- what is told of a refusal
abbrev pub fault : ℕ → ℕ → Fault
fault number at = record { number = number; at = at }

-- "A backslash must be followed by that sign or one of `abfnrtv\01234567xuU`. This holds for backquotes too."
unfoldable pub is_escape : ℕ → ℕ → Bool
is_escape symbol c = eqb c symbol || has c (ascii "abfnrtv\\01234567xuU")

-- "end at the same sign": the bytes of a string from its n-th on; whether the one before is a backslash that begins an escape
unfoldable pub quoted_from : ℕ → Bool → ℕ → List ℕ → Result ℕ Fault
quoted_from symbol true n [] = Err (fault end_in_escape n)
quoted_from symbol true n (x ∷ xs) = cond (is_escape symbol x) (quoted_from symbol false (n + 1) xs) (Err (fault unknown_escape n))
quoted_from symbol false n [] = Err (fault end_in_string n)
quoted_from symbol false n (x ∷ xs) = cond (eqb x symbol) (Ok (n + 1)) (quoted_from symbol (eqb x backslash) (n + 1) xs)

-- L5: "In the documented reading the lexer ends a backquoted string at the next backquote and treats a backslash as itself."
unfoldable pub is_raw : Reading → ℕ → Bool
is_raw Crate symbol = false
is_raw Documented symbol = eqb symbol backquote

unfoldable pub raw_from : ℕ → ℕ → List ℕ → Result ℕ Fault
raw_from symbol n [] = Err (fault end_in_string n)
raw_from symbol n (x ∷ xs) = cond (eqb x symbol) (Ok (n + 1)) (raw_from symbol (n + 1) xs)

abbrev pub escaped_of : ℕ → List ℕ → Result ℕ Fault
escaped_of symbol xs = quoted_from symbol false 0 xs

abbrev pub quoted_of : Reading → ℕ → List ℕ → Result ℕ Fault
quoted_of r symbol xs = cond (is_raw r symbol) (raw_from symbol 0 xs) (escaped_of symbol xs)

-- "A comment runs from `#` through the first CR or LF, or to the end"
unfoldable pub comment_end : List ℕ → ℕ
comment_end xs = let n = run_end (is_in Line) xs 0 in cond (ltb n (length xs)) (suc n) n
