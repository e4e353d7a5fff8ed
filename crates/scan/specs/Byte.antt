-- What stands at a place of a list of bytes, and the classes of bytes that document 01's "Lexing rules" speak of.
-- Past the last byte stands `end`, which is no byte and in no class, so that reading past the last byte needs no case of its own.
use Rattle.std.specs.Prelude.{ℕ, ◌+◌, ◌-◌, Bool, cond, ◌&&◌, ◌||◌, not, List, get_or, leb, ltb, eqb}
use Prim.Native.Char.{code}
use Rattle.scan.specs.declared.byte.Class.{Class}
use Rattle.scan.specs.declared.byte.Class.TheVariants.{Space, Alpha, Digit, HexDigit, AlphaNumeric, Word, Line}

abbrev pub end : ℕ
end = 256

abbrev pub peek_at : List ℕ → ℕ → ℕ
peek_at s i = get_or s i end

-- what begins an escape
abbrev pub backslash : ℕ
backslash = code "\\"

-- "Strings open with `"`, `'` or a backquote"
abbrev pub double_quote : ℕ
double_quote = code "\""

abbrev pub single_quote : ℕ
single_quote = code "'"

abbrev pub backquote : ℕ
backquote = code "`"

unfoldable pub is_quote : ℕ → Bool
is_quote c = eqb c double_quote || (eqb c single_quote || eqb c backquote)

unfoldable pub is_within : ℕ → ℕ → ℕ → Bool
is_within lo hi c = leb lo c && leb c hi

-- "White space is bytes 9, 10, 12, 13, 32."
unfoldable pub is_space : ℕ → Bool
is_space c = eqb c 9 || (eqb c 10 || (eqb c 12 || (eqb c 13 || eqb c 32)))

-- "Letters are ASCII letters and `_`."
unfoldable pub is_alpha : ℕ → Bool
is_alpha c =
    is_within (code "a") (code "z") c || (is_within (code "A") (code "Z") c || eqb c (code "_"))

abbrev pub is_digit : ℕ → Bool
is_digit c = is_within (code "0") (code "9") c

unfoldable pub is_hex_digit : ℕ → Bool
is_hex_digit c =
    is_digit c || (is_within (code "a") (code "f") c || is_within (code "A") (code "F") c)

abbrev pub value_of_a : ℕ
value_of_a = 10

-- what a hexadecimal digit stands for, in either case; 0 where it is none
unfoldable pub digit_of : ℕ → ℕ
digit_of c =
    cond (is_digit c) (c - code "0")
    (cond (is_within (code "a") (code "f") c) (c - code "a" + value_of_a)
    (cond (is_within (code "A") (code "F") c) (c - code "A" + value_of_a)
    0))

-- a digit of a radix, in either case
unfoldable pub is_digit_in : ℕ → ℕ → Bool
is_digit_in radix c = is_hex_digit c && ltb (digit_of c) radix

-- a letter in lower case, and all others as they are
unfoldable pub lowered : ℕ → ℕ
lowered c = cond (is_within (code "A") (code "Z") c) (c + (code "a" - code "A")) c

-- "Inside braces every word (no colon)": letters and digits
unfoldable pub is_alpha_numeric : ℕ → Bool
is_alpha_numeric c = is_alpha c || is_digit c

-- "Outside braces a word .. goes on with letters, digits, `:`."
unfoldable pub is_word : ℕ → Bool
is_word c = is_alpha_numeric c || eqb c (code ":")

-- "A comment runs from `#` through the first CR or LF, or to the end": it goes on with the bytes of its line
unfoldable pub is_line : ℕ → Bool
is_line c = not (eqb c 13) && (not (eqb c 10) && not (eqb c end))

unfoldable pub is_in : Class → ℕ → Bool
is_in Space c = is_space c
is_in Alpha c = is_alpha c
is_in Digit c = is_digit c
is_in HexDigit c = is_hex_digit c
is_in AlphaNumeric c = is_alpha_numeric c
is_in Word c = is_word c
is_in Line c = is_line c
