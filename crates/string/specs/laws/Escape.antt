-- What holds of escaping, as statements: document 01's rows 1, 2 and 3 for it, each given exactly when, and the join.
-- Their proofs stand in `proofs/escape`: `Given`, `Answers` and `Escapes`.
use Rattle.utf8.specs.declared.Refusal.{Refusal}
use Rattle.std.specs.Prelude.{ℕ, ◌*◌, ◌≤◌, List, ◌++◌, ◌↔◌, ◌⊎◌, ◌≡◌, length, Err, Ok, Result}
use Rattle.utf8.specs.Text.{prefix_end, WellFormed}
use Rattle.utf8.specs.Answers.{text_limit, place_at, too_long, not_utf8, no_room, admitted}
use Rattle.utf8.specs.laws.Refusals.{TooLong, NotUtf8, NoRoom, Taken}
use Rattle.string.specs.Escape.{escaped, escaping_of}

abbrev pub EscapingGiven : Type 0
EscapingGiven =
    (room : ℕ) (xs : List ℕ) →
    (escaping_of room xs ≡ Err too_long ↔ TooLong text_limit xs)
    × (escaping_of room xs ≡ Err (not_utf8 (place_at xs (prefix_end xs))) ↔ (¬ (TooLong text_limit xs)) × NotUtf8 xs)
    × (escaping_of room xs ≡ Err no_room ↔ Taken text_limit xs × NoRoom room (escaped xs))
    × (escaping_of room xs ≡ Ok (length (escaped xs)) ↔ Taken text_limit xs × (¬ (NoRoom room (escaped xs))))

-- what each answer tells: a text within the limit was written, to at most twice its bytes; or it is refused with 1 or 2, as it is not taken
-- up, or with 3
abbrev pub EscapeTells : List ℕ → Result ℕ Refusal → Type 0
EscapeTells xs (Ok n) = Taken text_limit xs × (n ≡ length (escaped xs)) × (n ≤ 2 * length xs)
EscapeTells xs (Err r) = (admitted text_limit xs ≡ Err r) ⊎ (r ≡ no_room)

abbrev pub EscapeAnswers : Type 0
EscapeAnswers = (room : ℕ) (xs : List ℕ) → EscapeTells xs (escaping_of room xs)

-- the escape of joined texts is their escapes, joined
abbrev pub EscapeJoin : Type 0
EscapeJoin = (xs ys : List ℕ) → WellFormed xs → WellFormed ys → escaped (xs ++ ys) ≡ escaped xs ++ escaped ys

-- the escape of a text is text
abbrev pub EscapedText : Type 0
EscapedText = (xs : List ℕ) → WellFormed xs → WellFormed (escaped xs)
