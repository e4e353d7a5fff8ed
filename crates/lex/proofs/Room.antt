-- What the room decides of an answer that accepts.
use Prim.Native.Nat.{ℕ, ◌≤◌, ◌<◌}
use mathlib.Core.Path.{◌≡◌}
use borrow.Author.Tests.{le-leb, lt-leb}
use Rattle.utf8.specs.declared.Refusal.{Refusal}
use Rattle.std.specs.Prelude.{Err, Ok, Result}
use Rattle.utf8.specs.Answers.{no_room}
use Rattle.lex.specs.Lex.{roomed}

module _ {t : Result ℕ Refusal} {n room : ℕ} (e : t ≡ Ok n) where
  pub fits : n ≤ room → roomed room t ≡ Ok n
  fits h = rw (e, le-leb n room h)

  pub fits_not : room < n → roomed room t ≡ Err no_room
  fits_not h = rw (e, lt-leb n room h)
