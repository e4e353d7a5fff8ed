-- When each answer of writing a duration is given: of any duration and room one of the three rows holds, which gives its own answer, and no
-- two rows give the same (`exactly`).
use Prim.Native.Nat.{ℕ}
use native.Mathlib.Decide.{dec_le, dec_lt}
use native.Mathlib.Omega.{arith}
use mathlib.Core.Bool.{cond}
use mathlib.Core.Path.{◌≡◌, refl}
use lib.Dec.{eqb}
use lib.ListN.{length}
use Rattle.utf8.specs.declared.Refusal.{Refusal}
use Rattle.std.specs.Prelude.{Err, Ok, Result}
use Rattle.proving.proofs.Choice.{exactly}
use Rattle.utf8.specs.Answers.{no_room}
use Rattle.utf8.specs.laws.Refusals.{NoRoom}
use Rattle.duration.specs.declared.span.Duration.{Duration}
use Rattle.duration.specs.Unit.{nanos_a_second}
use Rattle.duration.specs.Duration.{out_of_range}
use Rattle.duration.specs.Display.{duration_text, displaying_of}
use Rattle.duration.specs.laws.Display.{OverRange, DisplayingGiven}
use Rattle.duration.proofs.display.Answers as answers

data Row : Type 0 where
  over : Row
  short : Row
  written : Row

abbrev row_of : Result ℕ Refusal → Row
row_of (Ok n) = written
row_of (Err r) = cond (eqb r.number out_of_range.number) over short

module _ (room : ℕ) (d : Duration) where
  abbrev Holds : Row → Type 0
  Holds over = OverRange d
  Holds short = (OverRange d → ⊥) × NoRoom room (duration_text d)
  Holds written = (OverRange d → ⊥) × (NoRoom room (duration_text d) → ⊥)

  abbrev given : Row → Result ℕ Refusal
  given over = Err out_of_range
  given short = Err no_room
  given written = Ok (length (duration_text d))

  back : (w : Row) → row_of (given w) ≡ w
  back over = refl
  back short = refl
  back written = refl

  gives : (w : Row) → Holds w → displaying_of room d ≡ given w
  gives over h = answers.over_range room d h
  gives short h = answers.no_room_left d (omega (arith, h.0)) room h.1
  gives written h = answers.fits d (omega (arith, h.0)) room (omega (arith, h.1))

  some : Dec (OverRange d) → Dec (NoRoom room (duration_text d)) → (w : Row) × Holds w
  some (yes o) r = (over, o)
  some (no o) (yes r) = (short, (o, r))
  some (no o) (no r) = (written, (o, r))

  only : (w : Row) → displaying_of room d ≡ given w → Holds w
  only w e =
      let v = some (dec_le nanos_a_second d.nanos) (dec_lt room (length (duration_text d))) in
      exactly row_of given back Holds v.0 v.1 (gives v.0 v.1) w e

pub displaying_given : DisplayingGiven
displaying_given room d = ((only room d over, gives room d over), (only room d short, gives room d short), (only room d written, gives room d written))
