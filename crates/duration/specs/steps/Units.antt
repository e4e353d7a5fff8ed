-- What the code goes by in place of the definition: its units, and the part of a unit that a text begins with. Nothing that is promised outside
-- rests on it; `proofs/units/Steps` shows that a step for each unit says what the definition says.
use Rattle.std.specs.Prelude.{ℕ, min, cond, List, None, Option, Some}
use Rattle.decimal.specs.Value.{most_told}
use Rattle.duration.specs.declared.unit.Unit as code
use Rattle.duration.specs.declared.unit.Unit.TheVariants.{Year, Week, Day, Hour, Minute, Second, Milli}
use Rattle.duration.specs.declared.units.Part.{Part}
use Rattle.duration.specs.Unit.{Unit, unit, milli, second, minute, hour, day, week, year}
use Rattle.duration.specs.Units.{is_part, part_end, part_value}

abbrev pub unit_of : code.Unit → Unit
unit_of Year = unit "y" year
unit_of Week = unit "w" week
unit_of Day = unit "d" day
unit_of Hour = unit "h" hour
unit_of Minute = unit "m" minute
unit_of Second = unit "s" second
unit_of Milli = unit "ms" milli

-- the part of a unit that a text begins with; 2^63 + 1 stands for every greater number
unfoldable pub part_of : List ℕ → Unit → Option Part
part_of xs u = cond (is_part u.text xs) (Some (record { number = min most_told (part_value xs); size = part_end xs })) None
