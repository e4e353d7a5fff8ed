-- The arms are those of the definition.
use Rattle.reason.specs.Reason.{wording_of}
use Rattle.reason.proofs.word_at.Goals as goal

pub returns-in-Nothing : goal.returns-in-Nothing
unfolding wording_of
returns-in-Nothing c = rw c.in-Nothing.is c.outside_word.ensures

pub returns-in-Braces : goal.returns-in-Braces
unfolding wording_of
returns-in-Braces c = rw c.in-Braces.is c.brace_word.ensures

pub returns-in-Brackets : goal.returns-in-Brackets
unfolding wording_of
returns-in-Brackets c = rw c.in-Brackets.is
