-- Any two answers that the promise of a public function allows are equal: both equal the definition.
use mathlib.Core.Path.{sym, ◌∙◌}
use Rattle.proving.proofs.One.{OneAnswer}
use Rattle.munch.proofs.outside_step.Kinds as outside_step
use Rattle.munch.proofs.outside_step.Reads as outside_step_reads
use Rattle.munch.proofs.brace_step.Kinds as brace_step
use Rattle.munch.proofs.brace_step.Reads as brace_step_reads
use Rattle.munch.proofs.bracket_step.Kinds as bracket_step
use Rattle.munch.proofs.bracket_step.Reads as bracket_step_reads
use Rattle.munch.proofs.leads.Kinds as leads
use Rattle.munch.proofs.leads.Reads as leads_reads
use Rattle.munch.proofs.munch.Kinds as munch
use Rattle.munch.proofs.munch.Reads as munch_reads

pub same_outside_step : OneAnswer outside_step.ps outside_step.r outside_step_reads.Post
same_outside_step κs a x y e f p q = p ∙ sym q

pub same_brace_step : OneAnswer brace_step.ps brace_step.r brace_step_reads.Post
same_brace_step κs a x y e f p q = p ∙ sym q

pub same_bracket_step : OneAnswer bracket_step.ps bracket_step.r bracket_step_reads.Post
same_bracket_step κs a x y e f p q = p ∙ sym q

pub same_leads : OneAnswer leads.ps leads.r leads_reads.Post
same_leads κs a x y e f p q = p ∙ sym q

pub same_munch : OneAnswer munch.ps munch.r munch_reads.Post
same_munch κs a x y e f p q = p ∙ sym q
