-- Any two answers that the promise of a public function allows are equal.
use mathlib.Core.Path.{sym, ◌∙◌}
use denote.RattleType.{RattleType}
use denote.Param.Laws.{Laws}
use mir.Syntax.{Dict}
use Rattle.proving.proofs.One.{OneAnswer}
use Rattle.utf8.proofs.is_ascii.Kinds as is_ascii
use Rattle.utf8.proofs.is_ascii.Reads as is_ascii_reads
use Rattle.utf8.proofs.validate.Kinds as validate
use Rattle.utf8.proofs.validate.Reads as validate_reads
use Rattle.utf8.proofs.admit.Kinds as admit
use Rattle.utf8.proofs.admit.Reads as admit_reads
use Rattle.utf8.proofs.refusal_of.Kinds as refusal_of
use Rattle.utf8.proofs.refusal_of.Reads as refusal_of_reads
use Rattle.utf8.proofs.char_number.Kinds as char_number
use Rattle.utf8.proofs.char_number.Reads as char_number_reads
use Rattle.utf8.proofs.refused_at.Kinds as refused_at
use Rattle.utf8.proofs.refused_at.Reads as refused_at_reads
use Rattle.utf8.proofs.char_at.Kinds as char_at
use Rattle.utf8.proofs.char_at.Reads as char_at_reads
use Rattle.utf8.proofs.at_start.Kinds as at_start
use Rattle.utf8.proofs.at_start.Reads as at_start_reads

pub same_is_ascii : OneAnswer is_ascii.ps is_ascii.r is_ascii_reads.Post
same_is_ascii κs a x y e f p q = p ∙ sym q

pub same_validate : OneAnswer validate.ps validate.r validate_reads.Post
same_validate κs a x y e f p q = p ∙ sym q

pub same_admit : OneAnswer admit.ps admit.r admit_reads.Post
same_admit κs a x y e f p q = p ∙ sym q

-- whatever the answer would have been
pub same_refusal_of : (T : RattleType) (L : Laws T) (d : Dict) → OneAnswer (refusal_of.ps T L) (refusal_of.r T L) (refusal_of_reads.Post T L d)
same_refusal_of T L d κs a x y e f p q = p ∙ sym q

pub same_char_number : OneAnswer char_number.ps char_number.r char_number_reads.Post
same_char_number κs a x y e f p q = p ∙ sym q

pub same_refused_at : OneAnswer refused_at.ps refused_at.r refused_at_reads.Post
same_refused_at κs a x y e f p q = p ∙ sym q

pub same_char_at : OneAnswer char_at.ps char_at.r char_at_reads.Post
same_char_at κs a x y e f p q = p ∙ sym q

pub same_at_start : OneAnswer at_start.ps at_start.r at_start_reads.Post
same_at_start κs a x y e f p q = p ∙ sym q
