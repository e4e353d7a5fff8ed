-- What writing a code point at an offset of a lent buffer answers: whether it is a character's is asked before the room is.
use Rattle.std.specs.Prelude.{ℕ, ◌-◌, cond, Err, Result}
use Rattle.utf8.specs.declared.Refusal.{Refusal}
use Rattle.utf8.specs.Code.{is_scalar, encoded}
use Rattle.utf8.specs.Answers.{at_start}
use Rattle.utf8.specs.Writing.{fitted}

-- document 01 has no row for a code point that is no character's: it has the number of a bad literal, which an escape of one makes
abbrev pub not_scalar : Refusal
not_scalar = at_start 40

-- 40, or what the room from the offset on takes of its bytes
unfoldable pub encoding_of : ℕ → ℕ → ℕ → Result ℕ Refusal
encoding_of c room at = cond (is_scalar c) (fitted (room - at) (encoded c)) (Err not_scalar)
