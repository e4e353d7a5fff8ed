-- Document 01's table of refusals for a whole query, and where a refusal points, as statements; `proofs/Given` and `proofs/Places` have their
-- proofs. The rows 10 to 32 stand in `munch`, as conditions on a step.
use Rattle.utf8.specs.declared.Refusal.{Refusal}
use Rattle.std.specs.Prelude.{ℕ, ◌+◌, ◌≤◌, ◌<◌, List, ◌↔◌, ◌⊎◌, ◌≡◌, length, drop, Err, Ok, Result}
use Rattle.utf8.specs.declared.Reading.{Reading}
use Rattle.utf8.specs.Text.{prefix_end, WellFormed, start_of, char_number}
use Rattle.utf8.specs.Answers.{text_limit, place_at, refused_at, too_long, not_utf8, no_room}
use Rattle.utf8.specs.laws.Refusals.{TooLong, NotUtf8, Taken}
use Rattle.munch.specs.declared.Mode.{Mode}
use Rattle.munch.specs.declared.Step.TheVariants.{Lexeme, Space, Comment, Finished}
use Rattle.munch.specs.Munch.{outside, munched}
use Rattle.munch.specs.laws.Rows.{Row}
use Rattle.lex.specs.Lex.{entries_of, measured, lexed}

-- the reading reaches an offset, in a mode, with nothing refused before it
pub data Reaches (r : Reading) (q : List ℕ) : ℕ → Mode → Type 0 where
  start : Reaches r q 0 outside
  lexeme : (i k n : ℕ) (m m' : Mode) → Reaches r q i m → munched r m (drop i q) ≡ Lexeme k n m' → Reaches r q (i + n) m'
  space : (i : ℕ) (m m' : Mode) → Reaches r q i m → munched r m (drop i q) ≡ Space m' → Reaches r q (i + 1) m'
  comment : (i n : ℕ) (m : Mode) → Reaches r q i m → munched r m (drop i q) ≡ Comment n → Reaches r q (i + n) m

-- a row holds where the reading has come to, and its place is p
pub record RowAt (r : Reading) (q : List ℕ) (number p : ℕ) : Type 0 where
  pub step : ℕ
  pub mode : Mode
  pub offset : ℕ
  pub reached : Reaches r q step mode
  pub row : Row r mode (drop step q) number offset
  pub place : p ≡ step + offset

-- the reading comes to the end
pub record Ends (r : Reading) (q : List ℕ) : Type 0 where
  pub step : ℕ
  pub mode : Mode
  pub reached : Reaches r q step mode
  pub finished : munched r mode (drop step q) ≡ Finished

-- the first number of a row
abbrev pub first_row : ℕ
first_row = 10

-- "Order: 1, 2, the reading left to right (first refusal wins), 3."
abbrev pub LexingGiven : Type 0
LexingGiven =
    (r : Reading) (room : ℕ) (q : List ℕ) →
    let x = lexed r room q in
    (x ≡ Err too_long ↔ TooLong text_limit q)
    × (x ≡ Err (not_utf8 (place_at q (prefix_end q))) ↔ (¬ (TooLong text_limit q)) × NotUtf8 q)
    × ((number p : ℕ) → first_row ≤ number → x ≡ Err (refused_at q number p) ↔ Taken text_limit q × RowAt r q number p)
    × (x ≡ Err no_room ↔ Taken text_limit q × Ends r q × (room < length (entries_of r q)))
    × ((n : ℕ) → x ≡ Ok n ↔ Taken text_limit q × Ends r q × (n ≡ length (entries_of r q)) × (n ≤ room))

-- and it is accepted without regard to room
abbrev pub MeasuredGiven : Type 0
MeasuredGiven = (r : Reading) (q : List ℕ) (n : ℕ) → measured r q ≡ Ok n ↔ Taken text_limit q × Ends r q × (n ≡ length (entries_of r q))

-- of any bytes, the reading comes to a row at a place, or to the end; no two rows hold, and none where it comes to the end
abbrev pub RowOrEnd : Type 0
RowOrEnd = (r : Reading) (q : List ℕ) → ((number : ℕ) × (p : ℕ) × RowAt r q number p) ⊎ Ends r q

abbrev pub OneRowAt : Type 0
OneRowAt =
    (r : Reading) (q : List ℕ) (number p other o : ℕ) → RowAt r q number p → RowAt r q other o → (number ≡ other) × (p ≡ o)

abbrev pub NoRowAtEnd : Type 0
NoRowAtEnd = (r : Reading) (q : List ℕ) (number p : ℕ) → RowAt r q number p → ¬ (Ends r q)

-- so there is no other answer: a query is too long, or else not UTF-8, or else refused by exactly one row at one place, or else it ends, and there is room or not
pub data Answer (r : Reading) (room : ℕ) (q : List ℕ) : Result ℕ Refusal → Type 0 where
  long : TooLong text_limit q → Answer r room q (Err too_long)
  broken : (¬ (TooLong text_limit q)) → NotUtf8 q → Answer r room q (Err (not_utf8 (place_at q (prefix_end q))))
  row : (number p : ℕ) → Taken text_limit q → RowAt r q number p → ((other o : ℕ) → RowAt r q other o → (other ≡ number) × (o ≡ p)) → Answer r room q (Err (refused_at q number p))
  short : Taken text_limit q → Ends r q → ((number p : ℕ) → ¬ (RowAt r q number p)) → room < length (entries_of r q) → Answer r room q (Err no_room)
  whole : Taken text_limit q → Ends r q → ((number p : ℕ) → ¬ (RowAt r q number p)) → length (entries_of r q) ≤ room → Answer r room q (Ok (length (entries_of r q)))

abbrev pub AllAnswers : Type 0
AllAnswers = (r : Reading) (room : ℕ) (q : List ℕ) → Answer r room q (lexed r room q)

-- a refusal points at where a character starts, or at the end
abbrev pub PlaceStarts : Type 0
PlaceStarts = (r : Reading) (q : List ℕ) (number p : ℕ) → WellFormed q → RowAt r q number p → start_of q (char_number q p) ≡ p
