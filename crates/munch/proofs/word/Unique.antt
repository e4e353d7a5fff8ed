-- Any two answers that the promise of a public function allows are equal: both equal the definition.
use mathlib.Core.Path.{sym, ◌∙◌}
use Rattle.proving.proofs.One.{OneAnswer}
use Rattle.munch.proofs.word.table_rule.Kinds as table_rule
use Rattle.munch.proofs.word.table_rule.Reads as table_rule_reads
use Rattle.munch.proofs.word.rule_by.Kinds as rule_by
use Rattle.munch.proofs.word.rule_by.Reads as rule_by_reads
use Rattle.munch.proofs.word.brace_rule.Kinds as brace_rule
use Rattle.munch.proofs.word.brace_rule.Reads as brace_rule_reads
use Rattle.munch.proofs.word.kind_by.Kinds as kind_by
use Rattle.munch.proofs.word.kind_by.Reads as kind_by_reads

pub same_table_rule : OneAnswer table_rule.ps table_rule.r table_rule_reads.Post
same_table_rule κs a x y e f p q = p ∙ sym q

pub same_rule_by : OneAnswer rule_by.ps rule_by.r rule_by_reads.Post
same_rule_by κs a x y e f p q = p ∙ sym q

pub same_brace_rule : OneAnswer brace_rule.ps brace_rule.r brace_rule_reads.Post
same_brace_rule κs a x y e f p q = p ∙ sym q

pub same_kind_by : OneAnswer kind_by.ps kind_by.r kind_by_reads.Post
same_kind_by κs a x y e f p q = p ∙ sym q
