-- The answer that each promise leaves at a telling input: a program that answers otherwise there, as the theorem's name says, cannot be
-- proved. `FUNCTION_gives` is what the promise of FUNCTION answers at arguments, which is the definition's value there.
use Prim.Native.Nat.{ℕ}
use Prim.Native.Char.{code}
use mathlib.Core.List.{List, []}
use mathlib.Core.Path.{◌≡◌, ap, ap₂, ◌∙◌}
use Rattle.scan.specs.Ascii.{ascii}
use Rattle.scan.specs.Byte.{is_line, is_in}
use Rattle.proving.proofs.One.{Answers}
use Rattle.scan.specs.Run.{run_length}
use Rattle.scan.specs.Text.{has}
use Rattle.utf8.specs.declared.Reading.{Reading}
use Rattle.utf8.specs.declared.Reading.TheVariants.{Crate, Documented}
use Rattle.std.specs.Prelude.{Result, Ok, Err}
use Rattle.quoted.specs.declared.Fault.{Fault}
use Rattle.quoted.specs.Quoted.{fault, is_escape, quoted_from, is_raw, raw_from, quoted_of, comment_end}
use Rattle.quoted.proofs.accept_string.Kinds as accept_string
use Rattle.quoted.proofs.accept_string.Reads as accept_string_reads
use Rattle.quoted.proofs.comment_end.Kinds as comment_end_kinds
use Rattle.quoted.proofs.comment_end.Reads as comment_end_reads

-- the sign that opened the string, and the bytes behind it
abbrev accept_string_gives : Reading → ℕ → List ℕ → Result ℕ Fault → Type 0
accept_string_gives r symbol s v =
    Answers accept_string.ps accept_string.r accept_string_reads.Post (λ κs a. (a.0 ≡ symbol) × (a.1.0.now ≡ s) × (a.1.1.0 ≡ r)) (λ κs. v)

accept_string_at : (r : Reading) (symbol : ℕ) (s : List ℕ) → accept_string_gives r symbol s (quoted_of r symbol s)
accept_string_at r symbol s κs a x e p h = p ∙ ap (λ q. quoted_of q a.0 a.1.0.now) h.2 ∙ ap₂ (quoted_of r) h.0 h.1

pub closing_sign_is_taken : accept_string_gives Crate (code "\"") (ascii "\"") (Ok 1)
unfolding quoted_from is_escape has is_raw raw_from
closing_sign_is_taken = accept_string_at _ _ _

pub escaped_sign_does_not_close : accept_string_gives Crate (code "\"") (ascii "\\\"\"") (Ok 3)
unfolding quoted_from is_escape has is_raw raw_from
escaped_sign_does_not_close = accept_string_at _ _ _

pub own_sign_may_be_escaped : accept_string_gives Crate (code "'") (ascii "\\''") (Ok 3)
unfolding quoted_from is_escape has is_raw raw_from
own_sign_may_be_escaped = accept_string_at _ _ _

pub sign_of_other_strings_is_no_escape : accept_string_gives Crate (code "'") (ascii "\\\"'") (Err (fault 21 1))
unfolding quoted_from is_escape has is_raw raw_from
sign_of_other_strings_is_no_escape = accept_string_at _ _ _

pub seven_is_an_escape : accept_string_gives Crate (code "\"") (ascii "\\7\"") (Ok 3)
unfolding quoted_from is_escape has is_raw raw_from
seven_is_an_escape = accept_string_at _ _ _

pub eight_is_no_escape : accept_string_gives Crate (code "\"") (ascii "\\8\"") (Err (fault 21 1))
unfolding quoted_from is_escape has is_raw raw_from
eight_is_no_escape = accept_string_at _ _ _

pub unknown_escape_is_refused_with_twenty_one : accept_string_gives Crate (code "\"") (ascii "\\q\"") (Err (fault 21 1))
unfolding quoted_from is_escape has is_raw raw_from
unknown_escape_is_refused_with_twenty_one = accept_string_at _ _ _

pub end_behind_a_backslash_is_refused_with_twenty_two : accept_string_gives Crate (code "\"") (ascii "\\") (Err (fault 22 1))
unfolding quoted_from is_escape has is_raw raw_from
end_behind_a_backslash_is_refused_with_twenty_two = accept_string_at _ _ _

pub end_in_a_string_is_refused_with_twenty_three : accept_string_gives Crate (code "\"") (ascii "a") (Err (fault 23 1))
unfolding quoted_from is_escape has is_raw raw_from
end_in_a_string_is_refused_with_twenty_three = accept_string_at _ _ _

pub backslash_between_backquotes_begins_an_escape_of_the_crate_reading : accept_string_gives Crate (code "`") (ascii "\\d`") (Err (fault 21 1))
unfolding quoted_from is_escape has is_raw raw_from
backslash_between_backquotes_begins_an_escape_of_the_crate_reading = accept_string_at _ _ _

pub backslash_between_backquotes_is_itself : accept_string_gives Documented (code "`") (ascii "\\d`") (Ok 3)
unfolding quoted_from is_escape has is_raw raw_from
backslash_between_backquotes_is_itself = accept_string_at _ _ _

pub backquote_behind_a_backslash_closes : accept_string_gives Documented (code "`") (ascii "\\``") (Ok 2)
unfolding quoted_from is_escape has is_raw raw_from
backquote_behind_a_backslash_closes = accept_string_at _ _ _

pub end_behind_a_backslash_is_in_the_string : accept_string_gives Documented (code "`") (ascii "\\") (Err (fault 23 1))
unfolding quoted_from is_escape has is_raw raw_from
end_behind_a_backslash_is_in_the_string = accept_string_at _ _ _

pub other_strings_keep_their_escapes : accept_string_gives Documented (code "'") (ascii "\\d'") (Err (fault 21 1))
unfolding quoted_from is_escape has is_raw raw_from
other_strings_keep_their_escapes = accept_string_at _ _ _

abbrev comment_end_gives : List ℕ → ℕ → Type 0
comment_end_gives s v = Answers comment_end_kinds.ps comment_end_kinds.r comment_end_reads.Post (λ κs a. a.0.now ≡ s) (λ κs. v)

comment_end_at : (s : List ℕ) → comment_end_gives s (comment_end s)
comment_end_at s κs a x e p h = p ∙ ap comment_end h

pub comment_goes_to_the_end_and_not_past_it : comment_end_gives (ascii "a") 1
unfolding comment_end run_length is_in is_line
comment_goes_to_the_end_and_not_past_it = comment_end_at _

pub comment_takes_its_line_end : comment_end_gives (ascii "a\nb") 2
unfolding comment_end run_length is_in is_line
comment_takes_its_line_end = comment_end_at _

pub comment_of_no_bytes_ends_where_it_begins : comment_end_gives [] 0
unfolding comment_end run_length is_in is_line
comment_of_no_bytes_ends_where_it_begins = comment_end_at _
