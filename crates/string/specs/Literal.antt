-- Reading a string literal: document 01, "String literals (003)", and where it goes wrong, document 02, L1. The tests stand in the order in
-- which a literal is found bad.
use Rattle.utf8.specs.declared.CharNumber.{CharNumber}
use Rattle.std.specs.Prelude.{ℕ, suc, ◌-◌, Bool, true, false, cond, ◌&&◌, not, List, [], ◌∷◌, ◌++◌, eqb, leb, ltb, length, take, drop, Option, Some, None, Err, Ok, Result}
use Prim.Native.Char.{code}
use Rattle.scan.specs.Byte.{peek_at, backslash, backquote, is_quote}
use Rattle.scan.specs.Text.{has}
use Rattle.utf8.specs.declared.Reading.{Reading}
use Rattle.utf8.specs.declared.Refusal.{Refusal}
use Rattle.utf8.specs.Answers.{text_limit, refused_at, no_room, admitted}
use Rattle.string.specs.declared.Unquoted.{Unquoted}
use Rattle.string.specs.declared.Unquoted.TheVariants.{Inner, Written}
use Rattle.string.specs.Tiles.{tiles_of, has_bad, good_size, bytes_of}

abbrev pub line_feed : ℕ
line_feed = code "\n"

-- the literal's sign, and what stands between it and the last byte
abbrev pub sign_of : List ℕ → ℕ
sign_of xs = peek_at xs 0

abbrev pub inner_of : List ℕ → List ℕ
inner_of xs = take (length xs - 2) (drop 1 xs)

-- "Backquotes: content taken as it is .. Else: no LF in it"
unfoldable pub has_newline : ℕ → List ℕ → Bool
has_newline q ys = not (eqb q backquote) && has line_feed ys

-- where a byte first stands in a text; its end, where it stands nowhere
unfoldable pub first_of : ℕ → List ℕ → ℕ
first_of c [] = 0
first_of c (x ∷ xs) = cond (eqb x c) 0 (suc (first_of c xs))

-- "At least two bytes, first byte equal to last and a quote sign." Where a literal goes wrong, document 02, L1: "0 if it has fewer than two
-- bytes; the last byte's offset if it differs from the first; 0 if they agree but aren't a quote sign; then the first newline between `'` or `"`
-- signs; otherwise the first inner backquote or bare closing sign, or the backslash of the first bad escape, whichever reading meets first": there
-- the first bad tile begins
unfoldable pub fault_of : List ℕ → Option ℕ
fault_of xs =
    cond (ltb (length xs) 2) (Some 0)
    (cond (not (eqb (peek_at xs (length xs - 1)) (sign_of xs))) (Some (length xs - 1))
    (cond (not (is_quote (sign_of xs))) (Some 0)
    (cond (has_newline (sign_of xs) (inner_of xs)) (Some (suc (first_of line_feed (inner_of xs))))
    (cond (has_bad (tiles_of (sign_of xs) (inner_of xs))) (Some (suc (good_size (tiles_of (sign_of xs) (inner_of xs)))))
    None))))

-- it is bad where it goes wrong somewhere
abbrev pub is_fault : Option ℕ → Bool
is_fault (Some at) = true
is_fault None = false

abbrev pub is_bad_literal : List ℕ → Bool
is_bad_literal xs = is_fault (fault_of xs)

-- "A literal with no escape": a backquoted one, or one without a backslash
unfoldable pub has_escape : ℕ → List ℕ → Bool
has_escape q ys = not (eqb q backquote) && has backslash ys

-- the text that a literal stands for
abbrev pub unquoted : Reading → List ℕ → List ℕ
unquoted r xs = bytes_of r (tiles_of (sign_of xs) (inner_of xs))

-- "handed back as that part of the literal itself, otherwise as the first bytes of the text buffer"
abbrev pub extent_as : Reading → List ℕ → Option ℕ → Result Unquoted ℕ
extent_as r xs (Some at) = Err at
extent_as r xs None =
    cond (has_escape (sign_of xs) (inner_of xs)) (Ok (Written (length (unquoted r xs))))
    (Ok (Inner (length (inner_of xs))))

unfoldable pub extent_of : Reading → List ℕ → Result Unquoted ℕ
extent_of r xs = extent_as r xs (fault_of xs)

-- 40 "bad literal"; "Every 40 shall carry an offset in the literal"
abbrev pub bad_literal : List ℕ → ℕ → Refusal
bad_literal xs at = refused_at xs 40 at

-- "only then can 3 occur"
abbrev pub unquoting_by : ℕ → List ℕ → Result Unquoted ℕ → Result Unquoted Refusal
unquoting_by room xs (Ok (Inner n)) = Ok (Inner n)
unquoting_by room xs (Ok (Written n)) = cond (leb n room) (Ok (Written n)) (Err no_room)
unquoting_by room xs (Err at) = Err (bad_literal xs at)

abbrev pub unquoting_as : Reading → ℕ → List ℕ → Result CharNumber Refusal → Result Unquoted Refusal
unquoting_as r room xs (Ok n) = unquoting_by room xs (extent_of r xs)
unquoting_as r room xs (Err s) = Err s

-- refusals 1 and 2, 40, then 3
unfoldable pub unquoting_of : Reading → ℕ → List ℕ → Result Unquoted Refusal
unquoting_of r room xs = unquoting_as r room xs (admitted text_limit xs)

-- what the buffer holds then
abbrev pub text_by : Result Unquoted Refusal → List ℕ → List ℕ → List ℕ
text_by (Ok (Inner n)) ys d = d
text_by (Ok (Written n)) ys d = ys ++ drop n d
text_by (Err s) ys d = d

-- the part that an answer names, of a literal or of a text buffer; none where it is refused, or names more than there is
unfoldable pub part_of : Result Unquoted Refusal → List ℕ → List ℕ → List ℕ
part_of (Ok (Inner n)) xs d = cond (ltb n (length xs)) (take n (drop 1 xs)) []
part_of (Ok (Written n)) xs d = cond (leb n (length d)) (take n d) []
part_of (Err s) xs d = []
