-- Any two answers that the promise of a public function allows are equal.
use mathlib.Core.Path.{sym, ◌∙◌}
use Rattle.proving.proofs.One.{OneAnswer}
use Rattle.munch.proofs.tables.Tables.new.Kinds as new
use Rattle.munch.proofs.tables.Tables.new.Reads as new_reads
use Rattle.munch.proofs.tables.Tables.outside.Kinds as outside
use Rattle.munch.proofs.tables.Tables.outside.Reads as outside_reads
use Rattle.munch.proofs.tables.Tables.in_braces.Kinds as in_braces
use Rattle.munch.proofs.tables.Tables.in_braces.Reads as in_braces_reads
use Rattle.munch.proofs.tables.Tables.step.Kinds as step
use Rattle.munch.proofs.tables.Tables.step.Reads as step_reads
use Rattle.munch.proofs.tables.Tables.keyword.Kinds as keyword
use Rattle.munch.proofs.tables.Tables.keyword.Reads as keyword_reads

pub same_new : OneAnswer new.ps new.r new_reads.Post
same_new κs a x y e f p q = p ∙ sym q

pub same_outside : OneAnswer outside.ps outside.r outside_reads.Post
same_outside κs a x y e f p q = p ∙ sym q

pub same_in_braces : OneAnswer in_braces.ps in_braces.r in_braces_reads.Post
same_in_braces κs a x y e f p q = p ∙ sym q

pub same_step : OneAnswer step.ps step.r step_reads.Post
same_step κs a x y e f p q = p ∙ sym q

pub same_keyword : OneAnswer keyword.ps keyword.r keyword_reads.Post
same_keyword κs a x y e f p q = p ∙ sym q
