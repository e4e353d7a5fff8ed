-- The table of words as the code has it, to be lent: rows of the padded word, its length and its kind, one after the other, and behind them slots, in
-- which each word finds the number of its row. It is compared with that row alone. That by the table of `words` the search finds what
-- `keyword_of` says is a law (`specs/laws/Words`).
use Rattle.std.specs.Prelude.{ℕ, zero, suc, ◌+◌, ◌-◌, ◌*◌, ◌%◌, Bool, cond, ◌&&◌, ◌||◌, List, [], ◌∷◌, ◌++◌, map, eqb, ltb, length, get_or, take, drop, None, Option, Some}
use Rattle.scan.specs.Ascii.{ascii}
use Rattle.scan.specs.Byte.{lowered}
use Rattle.scan.specs.Text.{same_text}
use Rattle.token.specs.steps.Padded.{padded}
use Rattle.token.specs.Words.{KindText, words}

-- how many words there are, the bytes of the longest, and those of a row
abbrev pub word_count : ℕ
word_count = 35

abbrev pub widest_word : ℕ
widest_word = 12

abbrev pub word_row : ℕ
word_row = 14

-- where the slots begin, how many there are, and where they end
abbrev pub slots_from : ℕ
slots_from = word_count * word_row

abbrev pub slot_count : ℕ
slot_count = 128

abbrev pub table_size : ℕ
table_size = slots_from + slot_count

-- no two of its neighbours are alike
abbrev pub word_filler : List ℕ
word_filler = ascii "0123456789ab"

abbrev pub row_of_word : KindText → List ℕ
row_of_word e = padded word_filler e.text ++ (length e.text ∷ e.kind ∷ [])

unfoldable pub table_of : List KindText → List ℕ
table_of [] = []
table_of (e ∷ es) = row_of_word e ++ table_of es

-- the slot of a word in lower case: by its first letter, which counts so many times, its last and its length
abbrev pub first_weight : ℕ
first_weight = 4

unfoldable pub slot_of : List ℕ → ℕ
slot_of w = (get_or w 0 0 * first_weight + get_or w (length w - 1) 0 + length w) % slot_count

-- the number of the row whose word has a slot, the first being k; any row's where none has, since no word of the slot is in it
unfoldable pub row_for : ℕ → ℕ → List KindText → ℕ
row_for s k [] = s % word_count
row_for s k (e ∷ es) = cond (eqb (slot_of e.text) s) k (row_for s (suc k) es)

-- what n slots hold, the first being s
unfoldable pub slots_of : ℕ → ℕ → List KindText → List ℕ
slots_of zero s es = []
slots_of (suc n) s es = row_for s 0 es ∷ slots_of n (suc s) es

unfoldable pub word_table : List ℕ
word_table = table_of words ++ slots_of slot_count 0 words

-- whether a row holds a word
unfoldable pub is_row : List ℕ → List ℕ → Bool
is_row r w = eqb (get_or r widest_word 0) (length w) && same_text w (take (length w) r)

-- a row of a table, and the number that a word's slot holds
abbrev pub row_in : List ℕ → ℕ → List ℕ
row_in t i = take word_row (drop (i * word_row) t)

abbrev pub number_in : List ℕ → List ℕ → ℕ
number_in t w = get_or t (slots_from + slot_of w) 0

-- what the row of a number says of a word
unfoldable pub found_at : ℕ → List ℕ → List ℕ → Option ℕ
found_at i t w = cond (ltb i word_count && is_row (row_in t i) w) (Some (get_or (row_in t i) (suc widest_word) 0)) None

-- no word is empty, or longer than the longest; and a table that is too short has none
abbrev pub is_out_of_table : List ℕ → List ℕ → Bool
is_out_of_table t xs = eqb (length xs) 0 || (ltb widest_word (length xs) || ltb (length t) table_size)

-- the search of a table for a word, letters lowered
unfoldable pub keyword_in : List ℕ → List ℕ → Option ℕ
keyword_in t xs = let w = map lowered xs in cond (is_out_of_table t xs) None (found_at (number_in t w) t w)
