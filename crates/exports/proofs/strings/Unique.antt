-- Any two answers that the promise of an exported function allows are equal, and so are any two contents of what was lent: both equal
-- the definition.
use mathlib.Core.Path.{sym, ◌∙◌}
use Rattle.proving.proofs.One.{OneAnswer, OneContent}
use Rattle.exports.proofs.strings.simmerpath_escape_string.Kinds as escape_string
use Rattle.exports.proofs.strings.simmerpath_escape_string.Reads as escape_string_reads
use Rattle.exports.proofs.strings.simmerpath_unquote_string.Kinds as unquote_string
use Rattle.exports.proofs.strings.simmerpath_unquote_string.Reads as unquote_string_reads

pub same_simmerpath_escape_string : OneAnswer escape_string.ps escape_string.r escape_string_reads.Post
same_simmerpath_escape_string κs a x y e f p q = p.0 ∙ sym q.0

pub same_simmerpath_escape_string_out : OneContent escape_string.ps escape_string.r escape_string_reads.Post (λ κs e. e.1.0.now)
same_simmerpath_escape_string_out κs a x y e f p q = p.1 ∙ sym q.1

pub same_simmerpath_unquote_string : OneAnswer unquote_string.ps unquote_string.r unquote_string_reads.Post
same_simmerpath_unquote_string κs a x y e f p q = p.0 ∙ sym q.0

pub same_simmerpath_unquote_string_text : OneContent unquote_string.ps unquote_string.r unquote_string_reads.Post (λ κs e. e.1.1.0.now)
same_simmerpath_unquote_string_text κs a x y e f p q = p.1 ∙ sym q.1
