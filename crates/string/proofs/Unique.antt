-- Any two answers that the promise of a public function allows are equal, and so are the contents that they leave in what was lent, and
-- the bytes of a part that is handed back.
use mathlib.Core.Path.{◌≡◌, sym, ◌∙◌}
use Rattle.proving.proofs.One.{OneAnswer, OneContent, OnePart}
use Rattle.string.proofs.unquote_string.Kinds as unquote_string
use Rattle.string.proofs.unquote_string.Reads as unquote_string_reads
use Rattle.string.proofs.part.Kinds as part
use Rattle.string.proofs.part.Reads as part_reads

pub same_unquote_string : OneAnswer unquote_string.ps unquote_string.r unquote_string_reads.Post
same_unquote_string κs a x y e f p q = p.0 ∙ sym q.0

pub same_unquote_string_text : OneContent unquote_string.ps unquote_string.r unquote_string_reads.Post (λ κs e. e.1.1.0.now)
same_unquote_string_text κs a x y e f p q = let s : x ≡ y = same_unquote_string κs a x y e f p q in cc (p.1, q.1)

pub same_part : OnePart part.ps part.r part_reads.Post (λ κs x. x.now)
same_part κs a x y e f p q = p ∙ sym q
