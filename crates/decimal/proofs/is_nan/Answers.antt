-- The test of the name is std's (`told`).
use mathlib.Core.Path.{refl}
use Rattle.scan.specs.Ascii.{ascii}
use Rattle.decimal.proofs.Names.{told}
use Rattle.decimal.proofs.is_nan.Goals as goal

pub returns : goal.returns
returns c = told _ c.args.word.now (ascii "nan") refl c.eq_ignore_ascii_case.ensures.test
