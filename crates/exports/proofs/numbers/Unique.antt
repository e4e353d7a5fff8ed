-- Any two answers that the promise of an exported function allows are equal, and so are any two contents of what was lent: both equal
-- the definition.
use mathlib.Core.Path.{sym, ◌∙◌}
use Rattle.proving.proofs.One.{OneAnswer, OneContent}
use Rattle.exports.proofs.numbers.simmerpath_parse_str_radix.Kinds as parse_str_radix
use Rattle.exports.proofs.numbers.simmerpath_parse_str_radix.Reads as parse_str_radix_reads

pub same_simmerpath_parse_str_radix : OneAnswer parse_str_radix.ps parse_str_radix.r parse_str_radix_reads.Post
same_simmerpath_parse_str_radix κs a x y e f p q = p.0 ∙ sym q.0

pub same_simmerpath_parse_str_radix_bits : OneContent parse_str_radix.ps parse_str_radix.r parse_str_radix_reads.Post (λ κs e. e.1.1.0.now)
same_simmerpath_parse_str_radix_bits κs a x y e f p q = p.1 ∙ sym q.1
