-- What it is to have put a text into a list that has room for it.
use Rattle.std.specs.Prelude.{ℕ, ◌+◌, ◌≤◌, ◌≡◌, List, length}
use Rattle.writing.specs.Put.{put_at}
use Rattle.listing.specs.Listing.{longest_line, most_text}

-- room for any line behind the longest text that is printed
abbrev pub most_room : ℕ
most_room = most_text + longest_line

-- a text that fits was put into d at an offset, which left e, and r is the offset past it
pub record Puts (text d : List ℕ) (at r : ℕ) (e : List ℕ) : Type 0 where
  pub room : at + length text ≤ length d
  pub past : r ≡ at + length text
  pub left : e ≡ put_at d at text
