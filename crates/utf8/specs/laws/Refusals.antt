-- Document 01's rows 1 and 2 as conditions on a text, and the statement that each refusal is given exactly when its row holds.
use Rattle.std.specs.Prelude.{ℕ, ◌<◌, List, ◌↔◌, ◌≡◌, length, Err, Ok}
use Rattle.utf8.specs.declared.CharNumber.{CharNumber}
use Rattle.utf8.specs.Text.{chars_of, prefix_end, WellFormed}
use Rattle.utf8.specs.Answers.{count, place_at, too_long, not_utf8, admitted}

-- 1 "too long"
abbrev pub TooLong : ℕ → List ℕ → Type 0
TooLong limit xs = limit < length xs

-- 2 "not UTF-8"
abbrev pub NotUtf8 : List ℕ → Type 0
NotUtf8 xs = ¬ (WellFormed xs)

-- 3 "result needs more room", of a text that is to be written
abbrev pub NoRoom : ℕ → List ℕ → Type 0
NoRoom room text = room < length text

-- a text within the limit
abbrev pub Taken : ℕ → List ℕ → Type 0
Taken limit xs = (¬ (TooLong limit xs)) × WellFormed xs

-- "Order: 1, 2"
abbrev pub GivenExactly : Type 0
GivenExactly =
    (limit : ℕ) (xs : List ℕ) →
    (admitted limit xs ≡ Err too_long ↔ TooLong limit xs)
    × (admitted limit xs ≡ Err (not_utf8 (place_at xs (prefix_end xs))) ↔ (¬ (TooLong limit xs)) × NotUtf8 xs)
    × (admitted limit xs ≡ Ok (count (length (chars_of xs))) ↔ Taken limit xs)

-- so whatever is admitted is text within the limit
abbrev pub AdmittedText : Type 0
AdmittedText = (limit : ℕ) (xs : List ℕ) (n : CharNumber) → admitted limit xs ≡ Ok n → Taken limit xs
