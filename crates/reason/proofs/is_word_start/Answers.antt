-- A letter, or a colon.
use Rattle.munch.specs.Word.{is_word_start}
use Rattle.reason.proofs.is_word_start.Goals as goal

pub returns-then-is_alpha : goal.returns-then-is_alpha
unfolding is_word_start
returns-then-is_alpha c = rw (← c.is_alpha.ensures, c.if-is_alpha.true)

pub returns-else-is_alpha : goal.returns-else-is_alpha
unfolding is_word_start
returns-else-is_alpha c = rw (← c.is_alpha.ensures, c.if-is_alpha.false)
