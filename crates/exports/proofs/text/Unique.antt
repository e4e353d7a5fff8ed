-- Any two answers that the promise of an exported function allows are equal, and so are any two contents of what was lent: both equal
-- the definition.
use mathlib.Core.Path.{sym, ◌∙◌}
use Rattle.proving.proofs.One.{OneAnswer, OneContent}
use Rattle.exports.proofs.text.simmerpath_utf8_validate.Kinds as validate
use Rattle.exports.proofs.text.simmerpath_utf8_validate.Reads as validate_reads
use Rattle.exports.proofs.text.simmerpath_utf8_char_number.Kinds as char_number
use Rattle.exports.proofs.text.simmerpath_utf8_char_number.Reads as char_number_reads
use Rattle.exports.proofs.text.simmerpath_utf8_char_at.Kinds as char_at
use Rattle.exports.proofs.text.simmerpath_utf8_char_at.Reads as char_at_reads
use Rattle.exports.proofs.text.simmerpath_utf8_encode.Kinds as encode
use Rattle.exports.proofs.text.simmerpath_utf8_encode.Reads as encode_reads

pub same_simmerpath_utf8_validate : OneAnswer validate.ps validate.r validate_reads.Post
same_simmerpath_utf8_validate κs a x y e f p q = p ∙ sym q

pub same_simmerpath_utf8_char_number : OneAnswer char_number.ps char_number.r char_number_reads.Post
same_simmerpath_utf8_char_number κs a x y e f p q = p ∙ sym q

pub same_simmerpath_utf8_char_at : OneAnswer char_at.ps char_at.r char_at_reads.Post
same_simmerpath_utf8_char_at κs a x y e f p q = p.0 ∙ sym q.0

pub same_simmerpath_utf8_char_at_code : OneContent char_at.ps char_at.r char_at_reads.Post (λ κs e. e.1.1.0.now)
same_simmerpath_utf8_char_at_code κs a x y e f p q = p.1 ∙ sym q.1

pub same_simmerpath_utf8_encode : OneAnswer encode.ps encode.r encode_reads.Post
same_simmerpath_utf8_encode κs a x y e f p q = p.0 ∙ sym q.0

pub same_simmerpath_utf8_encode_out : OneContent encode.ps encode.r encode_reads.Post (λ κs e. e.1.0.now)
same_simmerpath_utf8_encode_out κs a x y e f p q = p.1 ∙ sym q.1
