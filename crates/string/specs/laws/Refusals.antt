-- Document 01's rows 1, 2, 40 and 3 as conditions on a literal, with the place of 40 by document 02, L1, and the statement that each answer is
-- given exactly when its row holds; `proofs/Given`, `proofs/Answers`, `proofs/There`, `proofs/Faults` and `proofs/Before` have the proofs. "Order: 1, 2,
-- the reading left to right (first refusal wins), 3."
use Rattle.std.specs.Prelude.{ℕ, suc, ◌+◌, ◌-◌, ◌<◌, ◌≤◌, List, [], ◌∷◌, ◌++◌, ◌↔◌, ◌⊎◌, ◌≡◌, length, take, drop, Option, None, Err, Ok, Result}
use Rattle.utf8.specs.declared.Refusal.{Refusal}
use Rattle.scan.specs.Byte.{peek_at, backslash, backquote, double_quote, single_quote}
use Rattle.scan.specs.Text.{Stands}
use Rattle.utf8.specs.declared.Reading.{Reading}
use Rattle.utf8.specs.Text.{prefix_end, WellFormed}
use Rattle.utf8.specs.Answers.{text_limit, place_at, too_long, not_utf8, no_room, admitted}
use Rattle.utf8.specs.laws.Refusals.{TooLong, NotUtf8, NoRoom, Taken}
use Rattle.string.specs.declared.tile.Form.{Form}
use Rattle.string.specs.declared.tile.Piece.{Piece}
use Rattle.string.specs.declared.Unquoted.{Unquoted}
use Rattle.string.specs.declared.Unquoted.TheVariants.{Inner, Written}
use Rattle.string.specs.laws.Tile.{IsEscape, EscapeBegun}
use Rattle.string.specs.Tile.{piece, tile_of}
use Rattle.string.specs.Tiles.{tiles_of}
use Rattle.string.specs.Literal.{line_feed, sign_of, inner_of, unquoted, bad_literal, unquoting_of}

-- "At least two bytes,
abbrev pub TooShort : List ℕ → Type 0
TooShort xs = length xs < 2

-- first byte equal to last
abbrev pub SignsDiffer : List ℕ → Type 0
SignsDiffer xs = ¬ (peek_at xs (length xs - 1) ≡ sign_of xs)

-- and a quote sign."
abbrev pub NoQuoteSign : List ℕ → Type 0
NoQuoteSign xs = ¬ ((sign_of xs ≡ double_quote) ⊎ (sign_of xs ≡ single_quote) ⊎ (sign_of xs ≡ backquote))

-- "Else: no LF in it,
abbrev pub Newline : List ℕ → Type 0
Newline xs = (¬ (sign_of xs ≡ backquote)) × Stands line_feed (inner_of xs)

-- no bare closing sign", and no other escape than those of the list: no tile is bad
abbrev pub BadAmong : List (Option Piece) → Type 0
BadAmong [] = ⊥
BadAmong (t ∷ ts) = (t ≡ None) ⊎ BadAmong ts

-- which in text means: reading comes to an offset, tile by tile, with nothing bad before, and there stands the sign, or a backslash that begins
-- none of 01's escapes (`laws/Tile`)
pub data ReadsTo (q : ℕ) (ys : List ℕ) : ℕ → Type 0 where
  start : ReadsTo q ys 0
  tile : (at : ℕ) (f : Form) (v n : ℕ) → ReadsTo q ys at → tile_of q (drop at ys) ≡ piece f v n → ReadsTo q ys (at + n)

abbrev pub BareSign : ℕ → List ℕ → ℕ → Type 0
BareSign q ys at = ReadsTo q ys at × (peek_at (drop at ys) 0 ≡ q)

abbrev pub BadEscape : ℕ → List ℕ → ℕ → Type 0
BadEscape q ys at = ReadsTo q ys at × EscapeBegun q (drop at ys) × (¬ (IsEscape q (drop at ys)))

abbrev pub BadThere : Type 0
BadThere =
    (q : ℕ) (ys : List ℕ) → q < 0x80 → 0 < q → WellFormed ys →
    BadAmong (tiles_of q ys) ↔ ((at : ℕ) × (at < length ys) × (BareSign q ys at ⊎ BadEscape q ys at))

-- 40 "bad literal"
abbrev pub BadLiteral : List ℕ → Type 0
BadLiteral xs = TooShort xs ⊎ (SignsDiffer xs ⊎ (NoQuoteSign xs ⊎ (Newline xs ⊎ BadAmong (tiles_of (sign_of xs) (inner_of xs)))))

-- Document 02, L1: "Every 40 shall carry an offset in the literal". Its six cases:
pub data Fault : Type 0 where
  -- fewer than two bytes
  short : Fault
  -- the last byte is not the first
  differ : Fault
  -- both are the same, and no quote sign
  no_sign : Fault
  -- a newline between `'` or `"` signs
  newline : Fault
  -- a backquote between backquotes, or a bare closing sign
  bare_sign : Fault
  -- a backslash that begins no escape
  bad_escape : Fault

abbrev pub Enclosed : List ℕ → Type 0
Enclosed xs = (¬ (TooShort xs)) × (¬ (SignsDiffer xs)) × (¬ (NoQuoteSign xs))

-- an offset of the literal lies in its content, at an offset of that of which something holds
abbrev pub Inside : List ℕ → ℕ → (ℕ → Type 0) → Type 0
Inside xs p P = (at : ℕ) × (p ≡ suc at) × (at < length (inner_of xs)) × P at

abbrev pub FirstIn : ℕ → List ℕ → ℕ → Type 0
FirstIn c ys at = (peek_at ys at ≡ c) × ((i : ℕ) → i < at → ¬ (peek_at ys i ≡ c))

-- each but the last two is for what those before it leave; of those two one holds where reading stops first.
-- "0 if it has fewer than two bytes; the last byte's offset if it differs from the first; 0 if they agree but aren't a quote sign; then the first
-- newline between `'` or `"` signs; otherwise the first inner backquote or bare closing sign, or the backslash of the first bad escape,
-- whichever reading meets first."
abbrev pub FaultAt : Fault → List ℕ → ℕ → Type 0
FaultAt short xs p = TooShort xs × (p ≡ 0)
FaultAt differ xs p = (¬ (TooShort xs)) × SignsDiffer xs × (p ≡ length xs - 1)
FaultAt no_sign xs p = (¬ (TooShort xs)) × (¬ (SignsDiffer xs)) × NoQuoteSign xs × (p ≡ 0)
FaultAt newline xs p = Enclosed xs × (¬ (sign_of xs ≡ backquote)) × Inside xs p (FirstIn line_feed (inner_of xs))
FaultAt bare_sign xs p = Enclosed xs × (¬ (Newline xs)) × Inside xs p (BareSign (sign_of xs) (inner_of xs))
FaultAt bad_escape xs p = Enclosed xs × (¬ (Newline xs)) × Inside xs p (BadEscape (sign_of xs) (inner_of xs))

-- a literal is bad exactly where one of the six holds at some offset, and no two hold, nor one at two offsets
abbrev pub FaultsBad : Type 0
FaultsBad = (xs : List ℕ) → WellFormed xs → BadLiteral xs ↔ ((f : Fault) × ((p : ℕ) × FaultAt f xs p))

abbrev pub OneFault : Type 0
OneFault = (xs : List ℕ) (f g : Fault) (p o : ℕ) → FaultAt f xs p → FaultAt g xs o → (f ≡ g) × (p ≡ o)

-- the offset lies within the literal, or is 0
abbrev pub FaultWithin : Type 0
FaultWithin = (xs : List ℕ) (f : Fault) (p : ℕ) → FaultAt f xs p → (p < length xs) ⊎ (p ≡ 0)

-- in the last two cases what was read before it is good: the bytes before the offset, and the closing sign behind them, are a good literal
abbrev pub ReadBefore : List ℕ → ℕ → Type 0
ReadBefore xs p = FaultAt bare_sign xs p ⊎ FaultAt bad_escape xs p

abbrev pub GoodBefore : Type 0
GoodBefore =
    (xs : List ℕ) (p : ℕ) → Taken text_limit xs → ReadBefore xs p →
    let closed = take p xs ++ (sign_of xs ∷ []) in Taken text_limit closed × (¬ (BadLiteral closed))

-- what "a literal with no escape" is not
abbrev pub WithEscape : List ℕ → Type 0
WithEscape xs = (¬ (sign_of xs ≡ backquote)) × Stands backslash (inner_of xs)

abbrev pub UnquotingGiven : Type 0
UnquotingGiven =
    (r : Reading) (room : ℕ) (xs : List ℕ) →
    let u = unquoting_of r room xs in
    (u ≡ Err too_long ↔ TooLong text_limit xs)
    × (u ≡ Err (not_utf8 (place_at xs (prefix_end xs))) ↔ (¬ (TooLong text_limit xs)) × NotUtf8 xs)
    × ((p : ℕ) → u ≡ Err (bad_literal xs p) ↔ Taken text_limit xs × ((f : Fault) × FaultAt f xs p))
    × (u ≡ Err no_room ↔ Taken text_limit xs × (¬ (BadLiteral xs)) × WithEscape xs × NoRoom room (unquoted r xs))
    × (u ≡ Ok (Inner (length (inner_of xs))) ↔ Taken text_limit xs × (¬ (BadLiteral xs)) × (¬ (WithEscape xs)))
    × (u ≡ Ok (Written (length (unquoted r xs))) ↔ Taken text_limit xs × (¬ (BadLiteral xs)) × WithEscape xs × (¬ (NoRoom room (unquoted r xs))))

-- what each answer tells: so many bytes of a literal within the limit are its text, or were written, no more than it has; or it is refused
-- with 1 or 2, as it is not taken up, or with 40 at an offset of it, or 3
abbrev pub LiteralTells : Reading → List ℕ → Result Unquoted Refusal → Type 0
LiteralTells r xs (Ok (Inner n)) = Taken text_limit xs × (n ≡ length (inner_of xs)) × (n ≤ length xs)
LiteralTells r xs (Ok (Written n)) = Taken text_limit xs × (n ≡ length (unquoted r xs)) × (n ≤ length xs)
LiteralTells r xs (Err s) =
    (admitted text_limit xs ≡ Err s) ⊎ (Taken text_limit xs × ((p : ℕ) × ((p < length xs) ⊎ (p ≡ 0)) × (s ≡ bad_literal xs p))) ⊎ (s ≡ no_room)

abbrev pub LiteralAnswers : Type 0
LiteralAnswers = (r : Reading) (room : ℕ) (xs : List ℕ) → LiteralTells r xs (unquoting_of r room xs)
