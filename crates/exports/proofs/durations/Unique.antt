-- Any two answers that the promise of an exported function allows are equal, and so are any two contents of what was lent: both equal
-- the definition.
use mathlib.Core.Path.{sym, ◌∙◌}
use Rattle.proving.proofs.One.{OneAnswer, OneContent}
use Rattle.exports.proofs.durations.simmerpath_parse_duration.Kinds as parse_duration
use Rattle.exports.proofs.durations.simmerpath_parse_duration.Reads as parse_duration_reads
use Rattle.exports.proofs.durations.simmerpath_parse_duration_exact.Kinds as parse_duration_exact
use Rattle.exports.proofs.durations.simmerpath_parse_duration_exact.Reads as parse_duration_exact_reads
use Rattle.exports.proofs.durations.simmerpath_display_duration.Kinds as display_duration
use Rattle.exports.proofs.durations.simmerpath_display_duration.Reads as display_duration_reads

pub same_simmerpath_parse_duration : OneAnswer parse_duration.ps parse_duration.r parse_duration_reads.Post
same_simmerpath_parse_duration κs a x y e f p q = p.0 ∙ sym q.0

pub same_simmerpath_parse_duration_secs : OneContent parse_duration.ps parse_duration.r parse_duration_reads.Post (λ κs e. e.1.0.now)
same_simmerpath_parse_duration_secs κs a x y e f p q = p.1.0 ∙ sym q.1.0

pub same_simmerpath_parse_duration_nanos : OneContent parse_duration.ps parse_duration.r parse_duration_reads.Post (λ κs e. e.1.1.0.now)
same_simmerpath_parse_duration_nanos κs a x y e f p q = p.1.1 ∙ sym q.1.1

pub same_simmerpath_parse_duration_exact : OneAnswer parse_duration_exact.ps parse_duration_exact.r parse_duration_exact_reads.Post
same_simmerpath_parse_duration_exact κs a x y e f p q = p.0 ∙ sym q.0

pub same_simmerpath_parse_duration_exact_secs : OneContent parse_duration_exact.ps parse_duration_exact.r parse_duration_exact_reads.Post (λ κs e. e.1.0.now)
same_simmerpath_parse_duration_exact_secs κs a x y e f p q = p.1.0 ∙ sym q.1.0

pub same_simmerpath_parse_duration_exact_nanos : OneContent parse_duration_exact.ps parse_duration_exact.r parse_duration_exact_reads.Post (λ κs e. e.1.1.0.now)
same_simmerpath_parse_duration_exact_nanos κs a x y e f p q = p.1.1 ∙ sym q.1.1

pub same_simmerpath_display_duration : OneAnswer display_duration.ps display_duration.r display_duration_reads.Post
same_simmerpath_display_duration κs a x y e f p q = p.0 ∙ sym q.0

pub same_simmerpath_display_duration_out : OneContent display_duration.ps display_duration.r display_duration_reads.Post (λ κs e. e.1.1.0.now)
same_simmerpath_display_duration_out κs a x y e f p q = p.1 ∙ sym q.1
