-- The digits come from the back, and std's length of the zeros at their front is how many they end with (`trailing_counted`).
use Rattle.std.proofs.Common.{◌∙◌, rules, tests}
use Rattle.std.specs.Prelude.{reverse}
use Rattle.std.proofs.lemmas.Iterator.Adapters.{YieldsList-from_rev_slice}
use Rattle.std.proofs.lemmas.Iterator.Consumers.{count_from_yields_List}
use Rattle.std.proofs.lemmas.Iterator.Search.{YieldsList-from_take_while}
use Rattle.std.proofs.lemmas.List.Folds.{length-prefix_len}
use Rattle.decimal.proofs.Zeros.{is_zero, trailing_counted}
use Rattle.decimal.proofs.zeros_at_end.Goals as goal

pub returns-clause-value : goal.returns-clause-value
returns-clause-value c =
    let ds = c.args.digits.now in
    let t = c.take_while in
    count_from_yields_List t.result _ c.count.ensures.ran
    (YieldsList-from_take_while _ is_zero (YieldsList-from_rev_slice ds (cc)) t.ensures.closure t.ensures.done (λ x b q k. search (rules, tests)))
    ∙ length-prefix_len is_zero (reverse ds)
    ∙ trailing_counted ds
