-- The reading as a number, which is how the C functions take it.
use Rattle.std.specs.Prelude.{ℕ, cond, eqb}
use Rattle.utf8.specs.declared.Reading.{Reading}
use Rattle.utf8.specs.declared.Reading.TheVariants.{Crate, Documented}

-- the reading that a number stands for
unfoldable pub reading_of : ℕ → Reading
reading_of documented = cond (eqb documented 0) Crate Documented
