-- What the program prints of a query, which it lexes in the crate reading: document 01, "Order of the port" and "Values on both sides".
use Rattle.std.specs.Prelude.{ℕ, ◌+◌, ◌*◌, cond, List, [], ◌∷◌, ◌++◌, ltb, length, flat_map, Err, Ok, Result}
use Rattle.scan.specs.Ascii.{ascii}
use Rattle.utf8.specs.declared.Reading.TheVariants.{Crate}
use Rattle.utf8.specs.declared.Refusal.{Refusal}
use Rattle.utf8.specs.Answers.{too_long}
use Rattle.writing.specs.Decimal.{most_digits, decimal_text}
use Rattle.lex.specs.Outcome.{Entry, entry}
use Rattle.lex.specs.Lex.{entries_of, lexed}

-- "Order of the port" 6: "for at most 4,096 bytes"
abbrev pub input_limit : ℕ
input_limit = 4096

-- no input has more lexemes: one for each byte, and its end
abbrev pub most_lexemes : ℕ
most_lexemes = input_limit + 1

-- no lexeme takes more bytes: a number of 16 bits, three of 32 bits, and four signs
abbrev pub longest_lexeme : ℕ
longest_lexeme = 39

-- no text that is printed is longer
abbrev pub most_text : ℕ
most_text = most_lexemes * longest_lexeme

-- a number, and what follows it
abbrev pub number_then : ℕ → List ℕ → List ℕ
number_then n after = decimal_text n ++ after

-- three numbers, with a space between them and LF behind
abbrev pub numbers : ℕ → ℕ → ℕ → List ℕ
numbers a b c = number_then a (ascii " ") ++ number_then b (ascii " ") ++ number_then c (ascii "\n")

-- the most bytes that they take, and a line
abbrev pub most_numbers : ℕ
most_numbers = 3 * (most_digits + 1)

abbrev pub longest_line : ℕ
longest_line = length (ascii "refused ") + most_numbers

-- "Values on both sides": "a refusal as `refused`, number, byte, character"
unfoldable pub refusal : Refusal → List ℕ
refusal r = ascii "refused " ++ numbers r.number r.place.byte.0 r.place.character.0

-- "Values on both sides": "each lexeme as kind, start, length", on a line; document 02, L7: the depth "as a fourth field"
abbrev pub lexeme_text : Entry → List ℕ
lexeme_text e = number_then e.kind (ascii " ") ++ numbers e.start e.length e.depth

unfoldable pub lexemes_text : List Entry → List ℕ
lexemes_text es = flat_map lexeme_text es

-- the lexemes that four lists hold
abbrev pub zipped : List ℕ → List ℕ → List ℕ → List ℕ → List Entry
zipped [] ss ls ds = []
zipped (k ∷ ks) [] ls ds = []
zipped (k ∷ ks) (s ∷ ss) [] ds = []
zipped (k ∷ ks) (s ∷ ss) (l ∷ ls) [] = []
zipped (k ∷ ks) (s ∷ ss) (l ∷ ls) (d ∷ ds) = entry k s l d ∷ zipped ks ss ls ds

-- "The program prints each lexeme ..; a refusal ..": its one line and no lexeme
unfoldable pub printed_by : List ℕ → Result ℕ Refusal → List ℕ
printed_by q (Ok n) = lexemes_text (entries_of Crate q)
printed_by q (Err r) = refusal r

-- "Order of the port" 6: "longer input is refusal 1"
unfoldable pub printed : List ℕ → List ℕ
printed q = cond (ltb input_limit (length q)) (refusal too_long) (printed_by q (lexed Crate most_lexemes q))
