-- That a byte stands in a text is what its test says: by the list, byte by byte. The test is std's, which goes through an append and settles at one place.
use mathlib.Core.Bool.{true≢false}
use mathlib.Core.List.{[], ◌∷◌}
use mathlib.Core.Path.{sym, ◌∙◌}
use lib.Dec.{eqb}
use Rattle.std.proofs.lemmas.Bool.{false_from_ne_true}
use Rattle.std.proofs.lemmas.List.Folds.{list_any-append, list_any_at}
use Rattle.proving.proofs.Tests.{tests_eq, tests_or}
use Rattle.scan.specs.Byte.{end}
use Rattle.scan.specs.Text.{has}
use Rattle.scan.specs.laws.Text.{HasStands, HasAppend, NoneAt}

pub tests_has : HasStands
unfolding has
tests_has c [] = ((λ e. absurd (true≢false (sym e))), λ s. absurd s)
tests_has c (y ∷ ys) = tests_or (tests_eq y c) (tests_has c ys)

pub has_append : HasAppend
unfolding has
has_append c u v = list_any-append (λ x. eqb x c) u v

pub none_at : NoneAt
unfolding has
none_at c t h i l = false_from_ne_true _ (λ e. true≢false (sym (list_any_at (λ x. eqb x c) t i end l e) ∙ h))
