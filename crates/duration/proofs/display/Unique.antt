-- Any two answers that the promise of a public function allows are equal, and so are the contents that they leave in what was lent.
use mathlib.Core.Path.{◌≡◌, sym, ◌∙◌}
use Rattle.proving.proofs.One.{OneAnswer, OneContent}
use Rattle.duration.proofs.display.display_duration.Kinds as display_duration
use Rattle.duration.proofs.display.display_duration.Reads as display_duration_reads

pub same_display_duration : OneAnswer display_duration.ps display_duration.r display_duration_reads.Post
same_display_duration κs a x y e f p q = p.0 ∙ sym q.0

pub same_display_duration_out : OneContent display_duration.ps display_duration.r display_duration_reads.Post (λ κs e. e.1.0.now)
same_display_duration_out κs a x y e f p q = let s : x ≡ y = same_display_duration κs a x y e f p q in cc (p.1, q.1)
