-- Any two answers that the promise of the public function allows are equal: both equal the definition.
use Rattle.std.proofs.Common.{sym, ◌∙◌}
use Rattle.proving.proofs.One.{OneAnswer}
use Rattle.number.proofs.parse_str_radix.Kinds as parse_str_radix
use Rattle.number.proofs.parse_str_radix.Reads as parse_str_radix_reads

pub same_parse_str_radix : OneAnswer parse_str_radix.ps parse_str_radix.r parse_str_radix_reads.Post
same_parse_str_radix κs a x y e f p q = p ∙ sym q
