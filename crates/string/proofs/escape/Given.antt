-- When each answer of escaping is given: of any text and room one of the four rows holds, which gives its own answer, and no two rows give
-- the same (`exactly`).
use Prim.Native.Nat.{ℕ}
use native.Mathlib.Decide.{dec_lt, ℕ_discrete}
use native.Mathlib.Omega.{arith}
use mathlib.Core.Bool.{cond}
use mathlib.Core.List.{List}
use mathlib.Core.Path.{◌≡◌, refl}
use lib.Dec.{eqb}
use lib.ListN.{length}
use borrow.Author.Tests.{le-leb, lt-leb}
use Rattle.utf8.specs.declared.Refusal.{Refusal}
use Rattle.std.specs.Prelude.{Err, Ok, Result}
use Rattle.proving.proofs.Choice.{exactly}
use Rattle.utf8.specs.Text.{prefix_end, WellFormed}
use Rattle.utf8.specs.Answers.{text_limit, place_at, too_long, not_utf8, no_room}
use Rattle.utf8.specs.laws.Refusals.{TooLong, NotUtf8, NoRoom, Taken}
use Rattle.utf8.proofs.Given.{given_exactly}
use Rattle.string.specs.Escape.{escaped, escaping_of}
use Rattle.string.specs.laws.Escape.{EscapingGiven}

data Row : Type 0 where
  long : Row
  broken : Row
  short : Row
  written : Row

abbrev row_of : Result ℕ Refusal → Row
row_of (Ok n) = written
row_of (Err r) = cond (eqb r.number 1) long (cond (eqb r.number 2) broken short)

module _ (room : ℕ) (xs : List ℕ) where
  abbrev Holds : Row → Type 0
  Holds long = TooLong text_limit xs
  Holds broken = (TooLong text_limit xs → ⊥) × NotUtf8 xs
  Holds short = Taken text_limit xs × NoRoom room (escaped xs)
  Holds written = Taken text_limit xs × (NoRoom room (escaped xs) → ⊥)

  abbrev given : Row → Result ℕ Refusal
  given long = Err too_long
  given broken = Err (not_utf8 (place_at xs (prefix_end xs)))
  given short = Err no_room
  given written = Ok (length (escaped xs))

  back : (w : Row) → row_of (given w) ≡ w
  back long = refl
  back broken = refl
  back short = refl
  back written = refl

  gives : (w : Row) → Holds w → escaping_of room xs ≡ given w
  unfolding escaping_of
  gives long h = rw ((given_exactly text_limit xs).0.1 h)
  gives broken h = rw ((given_exactly text_limit xs).1.1 h)
  gives short h = rw ((given_exactly text_limit xs).2.1 h.0, lt-leb (length (escaped xs)) room h.1)
  gives written h = rw ((given_exactly text_limit xs).2.1 h.0, le-leb (length (escaped xs)) room (omega (arith, h.1)))

  some : Dec (TooLong text_limit xs) → Dec (WellFormed xs) → Dec (NoRoom room (escaped xs)) → (w : Row) × Holds w
  some (yes l) w d = (long, l)
  some (no l) (no w) d = (broken, (l, w))
  some (no l) (yes w) (yes h) = (short, ((l, w), h))
  some (no l) (yes w) (no h) = (written, ((l, w), h))

  only : (w : Row) → escaping_of room xs ≡ given w → Holds w
  only w e =
      let v = some (dec_lt text_limit (length xs)) (ℕ_discrete (prefix_end xs) (length xs)) (dec_lt room (length (escaped xs))) in
      exactly row_of given back Holds v.0 v.1 (gives v.0 v.1) w e

pub escaping_given : EscapingGiven
escaping_given room xs =
    ((only room xs long, gives room xs long), (only room xs broken, gives room xs broken), (only room xs short, gives room xs short), (only room xs written, gives room xs written))
