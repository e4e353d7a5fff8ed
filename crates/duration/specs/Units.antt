-- Unit texts: document 01, "Unit texts: y w d h m s ms, each at most once in this order. A part above 4,294,967,295 counts as nothing."
-- A part is a run of digits and a run of letters, which is its unit's text. For each unit in turn the text goes on with a part of it, or
-- not: the Rust's pattern, `((?P<y>[0-9]+)y)?((?P<w>[0-9]+)w)?` and so on.
use Rattle.std.specs.Prelude.{ℕ, ◌+◌, ◌-◌, ◌*◌, ◌/◌, ◌%◌, ◌^◌, Bool, false, cond, ◌&&◌, ◌||◌, List, [], ◌∷◌, eqb, leb, ltb, length, take, drop, None, Option, Some}
use Rattle.scan.specs.declared.byte.Class.TheVariants.{Digit, Alpha}
use Rattle.scan.specs.Byte.{is_in}
use Rattle.scan.specs.Run.{run_end}
use Rattle.scan.specs.Text.{same_text}
use Rattle.scan.specs.Digits.{value_of}
use Rattle.duration.specs.Unit.{Unit, units, second, nanos_a_milli}
use Rattle.decimal.specs.Grammar.{between}
use Rattle.duration.specs.declared.span.Duration.{Duration}
use Rattle.duration.specs.declared.units.Sum.{Sum}

-- where the digits that a text begins with end, and the letters behind them
abbrev pub digits_end : List ℕ → ℕ
digits_end xs = run_end (is_in Digit) xs 0

abbrev pub part_end : List ℕ → ℕ
part_end xs = run_end (is_in Alpha) xs (digits_end xs)

-- the text begins with a part of a unit
unfoldable pub is_part : List ℕ → List ℕ → Bool
is_part name xs = ltb 0 (digits_end xs) && same_text (between xs (digits_end xs) (part_end xs)) name

-- the number of that part
abbrev pub part_value : List ℕ → ℕ
part_value xs = value_of 10 (take (digits_end xs) xs)

-- what is left behind a part of a unit, where there is one
abbrev pub past_part : Unit → List ℕ → List ℕ
past_part u xs = cond (is_part u.text xs) (drop (part_end xs) xs) xs

-- what is behind the parts of units, and the milliseconds that they amount to, where a number counts for so much
unfoldable pub behind : List Unit → List ℕ → List ℕ
behind [] xs = xs
behind (u ∷ us) xs = behind us (past_part u xs)

unfoldable pub sum_by : (ℕ → ℕ) → List Unit → List ℕ → ℕ
sum_by count [] xs = 0
sum_by count (u ∷ us) xs = cond (is_part u.text xs) (count (part_value xs) * u.size) 0 + sum_by count us (past_part u xs)

-- "A part above 4,294,967,295 counts as nothing."
abbrev pub most_counted : ℕ
most_counted = 2 ^ 32 - 1

unfoldable pub counted : ℕ → ℕ
counted v = cond (leb v most_counted) v 0

-- document 02, L13: "a part above 4,294,967,295"
unfoldable pub has_oversized : List Unit → List ℕ → Bool
has_oversized [] xs = false
has_oversized (u ∷ us) xs = (is_part u.text xs && ltb most_counted (part_value xs)) || has_oversized us (past_part u xs)

-- a unit text is parts and nothing behind them
unfoldable pub is_unit_text : List ℕ → Bool
is_unit_text xs = eqb (length (behind units xs)) 0

abbrev pub unit_sum : List ℕ → ℕ
unit_sum xs = sum_by counted units xs

-- so many milliseconds as a duration
abbrev pub lasting : ℕ → Duration
lasting ms = record { secs = ms / second; nanos = ms % second * nanos_a_milli }

abbrev pub sum_of : List ℕ → Sum
sum_of xs = record { lasts = lasting (unit_sum xs); oversized = has_oversized units xs }

unfoldable pub units_of : List ℕ → Option Sum
units_of xs = cond (is_unit_text xs) (Some (sum_of xs)) None
