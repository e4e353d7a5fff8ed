-- What the search comes to is the reason by definition (`search_answers`).
use Rattle.std.proofs.Common.{ap, sym, ◌∙◌}
use Rattle.reason.specs.steps.Search.{answer_of}
use Rattle.reason.proofs.Answers.{search_answers}
use Rattle.reason.proofs.word_reason.Goals as goal

pub returns : goal.returns
returns c =
    let a = c.args in
    c.answer_of.ensures ∙ ap (answer_of a.query.now a.number) c.search-sought.ensures.value ∙ search_answers a.reading a.query.now a.number _ (sym c.admit.ensures ∙ c.in_ok-admit.was)
