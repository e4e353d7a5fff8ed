-- Document 01's rows 10 to 32 as conditions: on the reading and the mode that a step is made in, on the bytes that are left, and on the place of the
-- refusal among these. `RowsGiven` says that a step is refused with a number at a place exactly when its row holds; `proofs/Given` has the proof.
use Rattle.std.specs.Prelude.{ℕ, suc, ◌≤◌, ◌<◌, Bool, true, false, ◌||◌, List, [], ◌∷◌, ◌↔◌, ◌⊎◌, ◌≡◌, drop}
use Prim.Native.Char.{code}
use Prim.Native.String as text
use Prim.Native.String.{String}
use Rattle.scan.specs.Byte.{end, backquote, peek_at, is_space, is_alpha, is_digit, is_quote}
use Rattle.utf8.specs.declared.Reading.{Reading}
use Rattle.token.specs.Kinds.{string, number, duration}
use Rattle.numeral.specs.laws.Texts.{IsNumber, IsDuration, IsNeither}
use Rattle.quoted.specs.laws.Texts.{IsString, UnknownEscape, EndInEscape, EndInString}
use Rattle.munch.specs.declared.Inside.TheVariants.{Nothing, Braces, Brackets}
use Rattle.munch.specs.declared.Mode.{Mode}
use Rattle.munch.specs.declared.Step.TheVariants.{Lexeme, Refused}
use Rattle.munch.specs.Word.{is_word_start}
use Rattle.munch.specs.Munch.{mode, is, is_end, munched}
use Rattle.munch.specs.laws.Modes.{past}

-- where: outside braces and brackets, in braces, in brackets
abbrev pub Outside : Mode → Type 0
Outside m = m.inside ≡ Nothing

abbrev pub InBraces : Mode → Type 0
InBraces m = m.inside ≡ Braces

pub record InBrackets (m : Mode) : Type 0 where
  pub seen : Bool
  pub fresh : Bool
  pub there : m.inside ≡ Brackets seen fresh

-- what stands first, and what second; `end` where nothing does
abbrev pub Begins : ℕ → List ℕ → Type 0
Begins c xs = peek_at xs 0 ≡ c

abbrev pub Follows : ℕ → List ℕ → Type 0
Follows c xs = peek_at xs 1 ≡ c

-- "Number, begun by a digit or, outside brackets, by `.` and a digit"
abbrev pub NumberBegins : Mode → List ℕ → Type 0
NumberBegins m xs =
    ((Outside m ⊎ InBrackets m) × (is_digit (peek_at xs 0) ≡ true)) ⊎ (Outside m × Begins (code ".") xs × (is_digit (peek_at xs 1) ≡ true))

-- "Strings open with `"`, `'` or a backquote"
abbrev pub StringBegins : Mode → List ℕ → Type 0
StringBegins m xs = (Outside m ⊎ InBraces m) × (is_quote (peek_at xs 0) ≡ true)

-- whether a byte is of one of the classes, or one of the signs
abbrev pub is_one_of : List (ℕ → Bool) → String → ℕ → Bool
is_one_of [] text.[] c = false
is_one_of [] (text.◌∷◌ x signs) c = is x c || is_one_of [] signs c
is_one_of (p ∷ ps) signs c = p c || is_one_of ps signs c

-- 10 "end with `(` open, no other refusal there"
abbrev pub ParenOpenAtEnd : Mode → List ℕ → Type 0
ParenOpenAtEnd m xs = Outside m × Begins end xs × (0 < m.depth)

-- 11 "`=~` outside braces"
abbrev pub RegexOutside : Mode → List ℕ → Type 0
RegexOutside m xs = Outside m × Begins (code "=") xs × Follows (code "~") xs

-- 12 "other character after `!` outside .. braces"
abbrev pub AfterBang : Mode → List ℕ → Type 0
AfterBang m xs = Outside m × Begins (code "!") xs × (¬ (Follows (code "=") xs)) × (¬ (Follows end xs))

-- 13 "`!` at the end", "also in braces"
abbrev pub BangAtEnd : Mode → List ℕ → Type 0
BangAtEnd m xs = (Outside m ⊎ InBraces m) × Begins (code "!") xs × Follows end xs

-- 14 "`.` before a non-digit"
abbrev pub AfterDot : Mode → List ℕ → Type 0
AfterDot m xs = Outside m × Begins (code ".") xs × (is_digit (peek_at xs 1) ≡ false) × (¬ (Follows end xs))

-- 15 "`.` at the end"
abbrev pub DotAtEnd : Mode → List ℕ → Type 0
DotAtEnd m xs = Outside m × Begins (code ".") xs × Follows end xs

-- 16, 17, 18 "unmatched `)`, `}`, `]`"
abbrev pub UnmatchedParen : Mode → List ℕ → Type 0
UnmatchedParen m xs = Outside m × Begins (code ")") xs × (m.depth ≡ 0)

abbrev pub UnmatchedBrace : Mode → List ℕ → Type 0
UnmatchedBrace m xs = Outside m × Begins (code "}") xs

abbrev pub UnmatchedBracket : Mode → List ℕ → Type 0
UnmatchedBracket m xs = Outside m × Begins (code "]") xs

-- 19 "other character outside": than a word, white space, a string and a number begin with, the `#` of a comment, the point, and the signs
abbrev pub named_outside : ℕ → Bool
named_outside c = is_one_of (is_word_start ∷ is_space ∷ is_quote ∷ is_digit ∷ is_end ∷ []) "#.(){}[],=+-*/%^!<>@" c

abbrev pub OtherOutside : Mode → List ℕ → Type 0
OtherOutside m xs = Outside m × (named_outside (peek_at xs 0) ≡ false)

-- 20 "neither number nor duration", as `numeral` says of the texts that the bytes begin with
abbrev pub NeitherThere : Reading → ℕ → Mode → List ℕ → Type 0
NeitherThere r n m xs = NumberBegins m xs × IsNeither r xs n

-- 21 "unknown escape", 22 "end after a backslash", 23 "end in a string", n bytes behind its opening sign, as `quoted` says of the texts there
abbrev pub EscapeUnknown : Reading → ℕ → Mode → List ℕ → Type 0
EscapeUnknown r n m xs = StringBegins m xs × UnknownEscape r (peek_at xs 0) (drop 1 xs) n

abbrev pub EscapeCut : Reading → ℕ → Mode → List ℕ → Type 0
EscapeCut r n m xs = StringBegins m xs × EndInEscape r (peek_at xs 0) (drop 1 xs) n

abbrev pub StringCut : Reading → ℕ → Mode → List ℕ → Type 0
StringCut r n m xs = StringBegins m xs × EndInString r (peek_at xs 0) (drop 1 xs) n

-- 24 "other character after `!` .. inside braces"
abbrev pub AfterBangInBraces : Mode → List ℕ → Type 0
AfterBangInBraces m xs =
    InBraces m × Begins (code "!") xs × (¬ (Follows (code "=") xs)) × (¬ (Follows (code "~") xs)) × (¬ (Follows end xs))

-- 25 "`{` in braces"
abbrev pub BraceInBraces : Mode → List ℕ → Type 0
BraceInBraces m xs = InBraces m × Begins (code "{") xs

-- 26 "other character .. in braces": "Braces also hold white space, comments, strings, `, = =~ != !~`, nothing else"
abbrev pub named_in_braces : ℕ → Bool
named_in_braces c = is_one_of (is_alpha ∷ is_space ∷ is_quote ∷ is_end ∷ []) "#{},=!" c

abbrev pub OtherInBraces : Mode → List ℕ → Type 0
OtherInBraces m xs = InBraces m × (named_in_braces (peek_at xs 0) ≡ false)

-- 27 "end in braces"
abbrev pub EndInBraces : Mode → List ℕ → Type 0
EndInBraces m xs = InBraces m × Begins end xs

-- 28 "second colon"
abbrev pub SecondColon : Mode → List ℕ → Type 0
SecondColon m xs = (b : InBrackets m) × (b.seen ≡ true) × Begins (code ":") xs

-- 29 "colon directly after `[`"
abbrev pub ColonFirst : Mode → List ℕ → Type 0
ColonFirst m xs = (b : InBrackets m) × (b.seen ≡ false) × (b.fresh ≡ true) × Begins (code ":") xs

-- 30 "`[` in brackets"
abbrev pub BracketInBrackets : Mode → List ℕ → Type 0
BracketInBrackets m xs = InBrackets m × Begins (code "[") xs

-- 31 "other character .. in brackets": "Brackets hold white space, numbers, durations and at most one colon"
abbrev pub named_in_brackets : ℕ → Bool
named_in_brackets c = is_one_of (is_space ∷ is_digit ∷ is_end ∷ []) "[]:" c

abbrev pub OtherInBrackets : Mode → List ℕ → Type 0
OtherInBrackets m xs = InBrackets m × (named_in_brackets (peek_at xs 0) ≡ false)

-- 32 "end .. in brackets"
abbrev pub EndInBrackets : Mode → List ℕ → Type 0
EndInBrackets m xs = InBrackets m × Begins end xs

-- the rows, by their numbers and places
pub data Row (r : Reading) (m : Mode) (xs : List ℕ) : ℕ → ℕ → Type 0 where
  row10 : ParenOpenAtEnd m xs → Row r m xs 10 0
  row11 : RegexOutside m xs → Row r m xs 11 1
  row12 : AfterBang m xs → Row r m xs 12 1
  row13 : BangAtEnd m xs → Row r m xs 13 1
  row14 : AfterDot m xs → Row r m xs 14 1
  row15 : DotAtEnd m xs → Row r m xs 15 0
  row16 : UnmatchedParen m xs → Row r m xs 16 0
  row17 : UnmatchedBrace m xs → Row r m xs 17 0
  row18 : UnmatchedBracket m xs → Row r m xs 18 0
  row19 : OtherOutside m xs → Row r m xs 19 0
  row20 : (n : ℕ) → NeitherThere r n m xs → Row r m xs 20 n
  row21 : (n : ℕ) → EscapeUnknown r n m xs → Row r m xs 21 (suc n)
  row22 : (n : ℕ) → EscapeCut r n m xs → Row r m xs 22 (suc n)
  row23 : (n : ℕ) → StringCut r n m xs → Row r m xs 23 (suc n)
  row24 : AfterBangInBraces m xs → Row r m xs 24 1
  row25 : BraceInBraces m xs → Row r m xs 25 0
  row26 : OtherInBraces m xs → Row r m xs 26 0
  row27 : EndInBraces m xs → Row r m xs 27 0
  row28 : SecondColon m xs → Row r m xs 28 0
  row29 : ColonFirst m xs → Row r m xs 29 0
  row30 : BracketInBrackets m xs → Row r m xs 30 0
  row31 : OtherInBrackets m xs → Row r m xs 31 0
  row32 : EndInBrackets m xs → Row r m xs 32 0

abbrev pub RowsGiven : Type 0
RowsGiven = (r : Reading) (m : Mode) (xs : List ℕ) (number o : ℕ) → munched r m xs ≡ Refused number o ↔ Row r m xs number o

-- where a number begins, a step is a NUMBER or a DURATION of so many bytes exactly when `numeral` says so of the texts there; what is open stays so
abbrev pub NumbersGiven : Type 0
NumbersGiven =
    (r : Reading) (m m' : Mode) (xs : List ℕ) (n : ℕ) → NumberBegins m xs →
    (munched r m xs ≡ Lexeme number n m' ↔ IsNumber r xs n × (m' ≡ mode m.depth (past m.inside)))
    × (munched r m xs ≡ Lexeme duration n m' ↔ IsDuration r xs n × (m' ≡ mode m.depth (past m.inside)))

-- where neither a number nor a backquoted string begins, the readings are one
abbrev pub ElsewhereAlike : Type 0
ElsewhereAlike =
    (r s : Reading) (m : Mode) (xs : List ℕ) → (¬ (NumberBegins m xs)) → (¬ (StringBegins m xs × Begins backquote xs)) →
    munched r m xs ≡ munched s m xs

-- where a quote sign stands, a step is a STRING exactly when a string begins there and `quoted` says so of the texts behind the sign; it "includes both signs"
abbrev pub StringsGiven : Type 0
StringsGiven =
    (r : Reading) (m m' : Mode) (xs : List ℕ) (n : ℕ) → is_quote (peek_at xs 0) ≡ true →
    munched r m xs ≡ Lexeme string (suc n) m' ↔ StringBegins m xs × IsString r (peek_at xs 0) (drop 1 xs) n × (m' ≡ mode m.depth m.inside)

-- the first and the last of their numbers
abbrev pub RowNumbers : Type 0
RowNumbers = (r : Reading) (m : Mode) (xs : List ℕ) (number o : ℕ) → Row r m xs number o → (10 ≤ number) × (number ≤ 32)

-- no two of them hold together
abbrev pub OneRow : Type 0
OneRow =
    (r : Reading) (m : Mode) (xs : List ℕ) (number o other p : ℕ) → Row r m xs number o → Row r m xs other p → (number ≡ other) × (o ≡ p)
