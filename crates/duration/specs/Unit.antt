-- The seven units of a duration, in document 01's order: "Unit texts: y w d h m s ms, each at most once in this order."
use Rattle.std.specs.Prelude.{ℕ, ◌*◌, List, [], ◌∷◌}
use Prim.Native.String.{String}
use Rattle.scan.specs.Ascii.{ascii}

-- how many milliseconds each has; a year has 365 days, as in the Rust
abbrev pub milli : ℕ
milli = 1

abbrev pub second : ℕ
second = 1000 * milli

abbrev pub minute : ℕ
minute = 60 * second

abbrev pub hour : ℕ
hour = 60 * minute

abbrev pub day : ℕ
day = 24 * hour

abbrev pub week : ℕ
week = 7 * day

abbrev pub year : ℕ
year = 365 * day

-- how many nanoseconds a millisecond has
abbrev pub nanos_a_milli : ℕ
nanos_a_milli = 1000000

abbrev pub nanos_a_second : ℕ
nanos_a_second = second * nanos_a_milli

-- a unit: its text, and its length in milliseconds
pub record Unit : Type 0 where
  pub text : List ℕ
  pub size : ℕ

abbrev pub unit : String → ℕ → Unit
unit s n = record { text = ascii s; size = n }

abbrev pub units : List Unit
units = unit "y" year ∷ unit "w" week ∷ unit "d" day ∷ unit "h" hour ∷ unit "m" minute ∷ unit "s" second ∷ unit "ms" milli ∷ []
