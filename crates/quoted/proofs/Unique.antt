-- Any two answers that the promise of a public function allows are equal: both equal the definition.
use mathlib.Core.Path.{sym, ◌∙◌}
use Rattle.proving.proofs.One.{OneAnswer}
use Rattle.quoted.proofs.accept_string.Kinds as accept_string
use Rattle.quoted.proofs.accept_string.Reads as accept_string_reads
use Rattle.quoted.proofs.comment_end.Kinds as comment_end
use Rattle.quoted.proofs.comment_end.Reads as comment_end_reads

pub same_accept_string : OneAnswer accept_string.ps accept_string.r accept_string_reads.Post
same_accept_string κs a x y e f p q = p ∙ sym q

pub same_comment_end : OneAnswer comment_end.ps comment_end.r comment_end_reads.Post
same_comment_end κs a x y e f p q = p ∙ sym q
