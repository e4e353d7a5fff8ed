-- What the pass has filled is copied, where it had room for all lexemes (`copied_all`).
use Rattle.std.proofs.Common.{rules, sym, ◌∙◌}
use Rattle.lex.specs.Lex.{kind_of, starts_at, length_of, depth_of}
use Rattle.lex.proofs.Lists.{copied_all}
use Rattle.lex.proofs.Tallies.{answer_counts}
use Rattle.lex.proofs.lex_text.Goals as goal

pub returns-then-n-clause-kinds_after : goal.returns-then-n-clause-kinds_after
returns-then-n-clause-kinds_after g c = let e = answer_counts _ _ _ c.pass-run.ensures.value (sym c.answer_in.ensures ∙ c.in_ok-n.was) in copied_all _ kind_of _ _ _ e _ (search rules) c.pass-run.ensures.kinds_after c.copy.ensures.kinds_after

pub returns-then-n-clause-starts_after : goal.returns-then-n-clause-starts_after
returns-then-n-clause-starts_after g c = let e = answer_counts _ _ _ c.pass-run.ensures.value (sym c.answer_in.ensures ∙ c.in_ok-n.was) in copied_all _ starts_at _ _ _ e _ (search rules) c.pass-run.ensures.starts_after c.copy.ensures.starts_after

pub returns-then-n-clause-lengths_after : goal.returns-then-n-clause-lengths_after
returns-then-n-clause-lengths_after g c = let e = answer_counts _ _ _ c.pass-run.ensures.value (sym c.answer_in.ensures ∙ c.in_ok-n.was) in copied_all _ length_of _ _ _ e _ (search rules) c.pass-run.ensures.lengths_after c.copy.ensures.lengths_after

pub returns-then-n-clause-depths_after : goal.returns-then-n-clause-depths_after
returns-then-n-clause-depths_after g c = let e = answer_counts _ _ _ c.pass-run.ensures.value (sym c.answer_in.ensures ∙ c.in_ok-n.was) in copied_all _ depth_of _ _ _ e _ (search rules) c.pass-run.ensures.depths_after c.copy.ensures.depths_after

pub write-requires-clause-counted : goal.write-requires-clause-counted
write-requires-clause-counted g c = answer_counts _ _ _ c.pass-run.ensures.value (sym c.answer_in.ensures ∙ c.in_ok-n.was)
