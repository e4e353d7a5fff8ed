-- The test of each name is std's (`told`).
use mathlib.Core.Path.{refl}
use Rattle.scan.specs.Ascii.{ascii}
use Rattle.decimal.proofs.Names.{told}
use Rattle.decimal.proofs.is_infinite.Goals as goal

pub returns-then-eq_ignore_ascii_case : goal.returns-then-eq_ignore_ascii_case
returns-then-eq_ignore_ascii_case c = rw (← told _ c.args.word.now (ascii "inf") refl c.eq_ignore_ascii_case.ensures.test, c.if-eq_ignore_ascii_case.true)

pub returns-else-eq_ignore_ascii_case : goal.returns-else-eq_ignore_ascii_case
returns-else-eq_ignore_ascii_case c =
    let w = c.args.word.now in
    rw (← told _ w (ascii "inf") refl c.eq_ignore_ascii_case.ensures.test, c.if-eq_ignore_ascii_case.false) (told _ w (ascii "infinity") refl c.eq_ignore_ascii_case-else-eq_ignore_ascii_case.ensures.test)
