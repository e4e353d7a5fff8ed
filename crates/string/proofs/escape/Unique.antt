-- Any two answers that the promise of a public function allows are equal, and so are the contents that they leave in what was lent.
use mathlib.Core.Path.{◌≡◌, sym, ◌∙◌}
use Rattle.proving.proofs.One.{OneAnswer, OneContent}
use Rattle.string.proofs.escape.escape_string.Kinds as escape_string
use Rattle.string.proofs.escape.escape_string.Reads as escape_string_reads

pub same_escape_string : OneAnswer escape_string.ps escape_string.r escape_string_reads.Post
same_escape_string κs a x y e f p q = p.0 ∙ sym q.0

pub same_escape_string_out : OneContent escape_string.ps escape_string.r escape_string_reads.Post (λ κs e. e.1.0.now)
same_escape_string_out κs a x y e f p q = let s : x ≡ y = same_escape_string κs a x y e f p q in cc (p.1, q.1)
