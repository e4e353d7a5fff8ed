-- One step of reading a query: what the bytes that are left begin with, in a mode and in a reading, by which numbers and backquoted strings alone
-- differ. Document 01, "Lexing rules", and document 02, L2 and L5; 01's refusals 10 to 32, of which "11, 12 and 14 to 18 are given only outside braces
-- and brackets, 13 also in braces". The three tables say what each first byte does.
-- A refusal's place is its offset in the bytes that are left: "it" is 0, or 1 behind a `!`; "end" is where they end, which is 1 behind a `!`.
use Rattle.std.specs.Prelude.{ℕ, suc, ◌-◌, Bool, true, false, cond, List, [], ◌∷◌, eqb, ltb, take, drop, Err, Ok, Result}
use Prim.Native.Char.{Char, code}
use Rattle.scan.specs.declared.byte.Class.TheVariants.{AlphaNumeric, Word}
use Rattle.scan.specs.Byte.{end, peek_at, is_space, is_alpha, is_digit, is_quote, is_in}
use Rattle.scan.specs.Run.{run_end}
use Rattle.utf8.specs.declared.Reading.{Reading}
use Rattle.token.specs.Words.{keyword_of}
use Rattle.token.specs.Kinds.{string, number, duration, left_paren, right_paren, left_brace, right_brace, left_bracket, right_bracket, comma, colon, eql, add, sub, mul, div, modulo, pow, eqlc, neq, lte, lss, gte, gtr, eql_regex, neq_regex, at_sign}
use Rattle.numeral.specs.declared.Numeral.{Numeral}
use Rattle.numeral.specs.declared.Numeral.TheVariants.{Number, Duration, Neither}
use Rattle.numeral.specs.Numeral.{numeral_of}
use Rattle.quoted.specs.declared.Fault.{Fault}
use Rattle.quoted.specs.Quoted.{quoted_of, comment_end}
use Rattle.munch.specs.Word.{is_word_start, rule_by, brace_rule, kind_by}
use Rattle.munch.specs.declared.Inside.{Inside}
use Rattle.munch.specs.declared.Inside.TheVariants.{Nothing, Braces, Brackets}
use Rattle.munch.specs.declared.Mode.{Mode}
use Rattle.munch.specs.declared.Step.{Step}
use Rattle.munch.specs.declared.Step.TheVariants.{Lexeme, Space, Comment, Refused, Finished}

-- so many parentheses open, and what is open in them: nothing, braces, or brackets with or without their colon, just opened or not
abbrev pub mode : ℕ → Inside → Mode
mode depth inside = record { depth = depth; inside = inside }

-- where a query begins
abbrev pub outside : Mode
outside = mode 0 Nothing

-- one parenthesis more, up to the greatest count, which no query of 65,535 bytes reaches (`depths`, `BoundNotMet`): "Never given by the Rust here: .. 'too many left
-- parentheses'"
abbrev pub most_depth : ℕ
most_depth = 0xffffffffffffffff

unfoldable pub deeper : ℕ → ℕ
deeper depth = cond (ltb depth most_depth) (suc depth) depth

-- the steps that a first byte can begin, each of the bytes from it on: one whatever follows; so a sign that is whole with its one byte, a byte
-- of white space, and what is refused as it stands
abbrev pub always : Step → List ℕ → Step
always s xs = s

abbrev pub sign : ℕ → Mode → List ℕ → Step
sign kind m = always (Lexeme kind 1 m)

abbrev pub white : Mode → List ℕ → Step
white m = always (Space m)

abbrev pub refuse : ℕ → List ℕ → Step
refuse n = always (Refused n 0)

-- one step where a byte, or the end, follows the first, else another
abbrev pub if_next : List ℕ → ℕ → Step → Step → Step
if_next xs c two one = cond (eqb (peek_at xs 1) c) two one

-- "It is a NUMBER if .. Else .. a DURATION if .."; 20 "neither number nor duration", at the "first character not taken, or end"
abbrev pub number_by : Mode → Numeral → Step
number_by m (Number n) = Lexeme number n m
number_by m (Duration n) = Lexeme duration n m
number_by m (Neither n) = Refused 20 n

unfoldable pub number_step : Reading → Mode → List ℕ → Step
number_step r m xs = number_by m (numeral_of r xs)

-- "by `.` and a digit"; 14 "`.` before a non-digit", at "that one"; 15 "`.` at the end", at "the dot"
unfoldable pub dot_step : Reading → Mode → List ℕ → Step
dot_step r m xs = cond (is_digit (peek_at xs 1)) (number_step r m xs) (if_next xs end (Refused 15 0) (Refused 14 1))

-- "The lexeme includes both signs." 21 to 23 are given where `quoted` says, one byte on for the opening sign
abbrev pub quoted_by : Mode → Result ℕ Fault → Step
quoted_by m (Ok n) = Lexeme string (suc n) m
quoted_by m (Err fault) = Refused fault.number (suc fault.at)

unfoldable pub quoted_step : Reading → Mode → List ℕ → Step
quoted_step r m xs = quoted_by m (quoted_of r (peek_at xs 0) (drop 1 xs))

unfoldable pub comment_step : List ℕ → Step
comment_step xs = Comment (suc (comment_end (drop 1 xs)))

-- "Outside braces a word .. goes on with letters, digits, `:`"
unfoldable pub word_step : Mode → List ℕ → Step
word_step m xs = let n = run_end (is_in Word) xs 1 in Lexeme (kind_by (rule_by (keyword_of (take n xs)) xs n)) n m

-- "Inside braces every word (no colon) is .."
unfoldable pub brace_word : Mode → List ℕ → Step
brace_word m xs = let n = run_end (is_in AlphaNumeric) xs 1 in Lexeme (kind_by (brace_rule xs n)) n m

-- `==`; 11 "`=~` outside braces", at "the `~`"; `=`
unfoldable pub equals_step : Mode → List ℕ → Step
equals_step m xs = if_next xs (code "=") (Lexeme eqlc 2 m) (if_next xs (code "~") (Refused 11 1) (Lexeme eql 1 m))

-- `!=`; 13 "`!` at the end"; 12 "other character after `!` outside"
unfoldable pub bang_step : Mode → List ℕ → Step
bang_step m xs = if_next xs (code "=") (Lexeme neq 2 m) (if_next xs end (Refused 13 1) (Refused 12 1))

-- `<=` and `<`, `>=` and `>`
unfoldable pub compare_step : ℕ → ℕ → Mode → List ℕ → Step
compare_step equal alone m xs = if_next xs (code "=") (Lexeme equal 2 m) (Lexeme alone 1 m)

-- 16 "unmatched `)`"
unfoldable pub right_paren_step : ℕ → Step
right_paren_step d = cond (eqb d 0) (Refused 16 0) (Lexeme right_paren 1 (mode (d - 1) Nothing))

-- 10 "end with `(` open, no other refusal there": what is open inside, a string, a number, a `.` and a `!` have refusals of their own
unfoldable pub end_step : ℕ → Step
end_step d = cond (eqb d 0) Finished (Refused 10 0)

-- in braces: `=~`, `=`
unfoldable pub brace_equals : Mode → List ℕ → Step
brace_equals m xs = if_next xs (code "~") (Lexeme eql_regex 2 m) (Lexeme eql 1 m)

-- `!=`, `!~`; 13 "`!` at the end", "also in braces"; 24 "other character after `!` .. inside braces"
unfoldable pub brace_bang : Mode → List ℕ → Step
brace_bang m xs =
    if_next xs (code "=") (Lexeme neq 2 m) (if_next xs (code "~") (Lexeme neq_regex 2 m) (if_next xs end (Refused 13 1) (Refused 24 1)))

-- 28 "second colon"; 29 "colon directly after `[`"
unfoldable pub colon_step : ℕ → Bool → Bool → Step
colon_step d seen fresh = cond seen (Refused 28 0) (cond fresh (Refused 29 0) (Lexeme colon 1 (mode d (Brackets true false))))

-- a row of a table: the first bytes that it is for, and the step that they begin
pub record Opening : Type 0 where
  pub takes : ℕ → Bool
  pub step : List ℕ → Step

abbrev pub row : (ℕ → Bool) → (List ℕ → Step) → Opening
row takes step = record { takes = takes; step = step }

-- a sign, and the end
abbrev pub is : Char → ℕ → Bool
is x c = eqb c (code x)

abbrev pub is_end : ℕ → Bool
is_end c = eqb c end

-- the step of the first row that is for the byte; where none is, it is refused with a number
abbrev pub step_for : List Opening → ℕ → ℕ → List ℕ → Step
step_for [] n c = refuse n
step_for (o ∷ t) n c = cond (o.takes c) o.step (step_for t n c)

-- outside braces and brackets; 17, 18 "unmatched .. `}`, `]`"
unfoldable pub outside_table : Reading → ℕ → List Opening
outside_table r d =
    let here = mode d Nothing in
    row is_word_start (word_step here)
    ∷ row is_space (white here)
    ∷ row is_quote (quoted_step r here)
    ∷ row is_digit (number_step r here)
    ∷ row is_end (always (end_step d))
    ∷ row (is "#") comment_step
    ∷ row (is ".") (dot_step r here)
    ∷ row (is "(") (sign left_paren (mode (deeper d) Nothing))
    ∷ row (is ")") (always (right_paren_step d))
    ∷ row (is "{") (sign left_brace (mode d Braces))
    ∷ row (is "}") (refuse 17)
    ∷ row (is "[") (sign left_bracket (mode d (Brackets false true)))
    ∷ row (is "]") (refuse 18)
    ∷ row (is ",") (sign comma here)
    ∷ row (is "=") (equals_step here)
    ∷ row (is "+") (sign add here)
    ∷ row (is "-") (sign sub here)
    ∷ row (is "*") (sign mul here)
    ∷ row (is "/") (sign div here)
    ∷ row (is "%") (sign modulo here)
    ∷ row (is "^") (sign pow here)
    ∷ row (is "!") (bang_step here)
    ∷ row (is "<") (compare_step lte lss here)
    ∷ row (is ">") (compare_step gte gtr here)
    ∷ row (is "@") (sign at_sign here)
    ∷ []

-- in braces, which "also hold white space, comments, strings, `, = =~ != !~`, nothing else"; 25 "`{` in braces"; 27 "end in braces"
unfoldable pub brace_table : Reading → ℕ → List Opening
brace_table r d =
    let here = mode d Braces in
    row is_alpha (brace_word here)
    ∷ row is_space (white here)
    ∷ row is_quote (quoted_step r here)
    ∷ row is_end (refuse 27)
    ∷ row (is "#") comment_step
    ∷ row (is "{") (refuse 25)
    ∷ row (is "}") (sign right_brace (mode d Nothing))
    ∷ row (is ",") (sign comma here)
    ∷ row (is "=") (brace_equals here)
    ∷ row (is "!") (brace_bang here)
    ∷ []

-- in brackets, which "hold white space, numbers, durations and at most one colon, not directly after `[`": whether their colon was seen, and
-- whether the byte before is their `[`. White space ends that, so that `[ :5m]` is accepted. A `#` begins nothing there ("none exist inside
-- `[ ]`"), nor does a point ("outside brackets, by `.` and a digit"). 30 "`[` in brackets"; 32 "end .. in brackets"
unfoldable pub bracket_table : Reading → ℕ → Bool → Bool → List Opening
bracket_table r d seen fresh =
    let here = mode d (Brackets seen false) in
    row is_space (white here)
    ∷ row is_digit (number_step r here)
    ∷ row is_end (refuse 32)
    ∷ row (is "[") (refuse 30)
    ∷ row (is "]") (sign right_bracket (mode d Nothing))
    ∷ row (is ":") (always (colon_step d seen fresh))
    ∷ []

-- 19, 26, 31 "other character outside, in braces, in brackets"
unfoldable pub step_in : Reading → ℕ → Inside → ℕ → List ℕ → Step
step_in r d Nothing = step_for (outside_table r d) 19
step_in r d Braces = step_for (brace_table r d) 26
step_in r d (Brackets seen fresh) = step_for (bracket_table r d seen fresh) 31

-- the step, by the first of the bytes that are left, or their end
unfoldable pub munched : Reading → Mode → List ℕ → Step
munched r m xs = step_in r m.depth m.inside (peek_at xs 0) xs
