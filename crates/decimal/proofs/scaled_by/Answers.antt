-- What is exact is in range.
use mathlib.Core.Path.{sym, ◌∙◌}
use Rattle.decimal.proofs.Caps.{tests_exact}
use Rattle.decimal.proofs.scaled_by.Goals as goal

pub nearest-requires : goal.nearest-requires
nearest-requires c =
    let a = c.args in
    let i = (tests_exact a.w a.raised a.reduced).0 (sym c.is_exact.ensures ∙ c.if-not-is_exact.false) in
    (i.0, i.1.0, i.1.1)
