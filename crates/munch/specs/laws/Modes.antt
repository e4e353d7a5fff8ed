-- Where a step leads, as a statement; `proofs/Modes` has the proof. In braces it stays there or leads outside, and so in brackets, where their opening is
-- past behind it; the parentheses that are open stay so. Outside, white space changes nothing, and a lexeme opens what it opens anew. A comment changes
-- nothing.
use Rattle.std.specs.Prelude.{ℕ, Bool, true, false, List, ◌⊎◌, ◌≡◌}
use Rattle.utf8.specs.declared.Reading.{Reading}
use Rattle.munch.specs.declared.Inside.{Inside}
use Rattle.munch.specs.declared.Inside.TheVariants.{Nothing, Braces, Brackets}
use Rattle.munch.specs.declared.Mode.{Mode}
use Rattle.munch.specs.declared.Step.{Step}
use Rattle.munch.specs.declared.Step.TheVariants.{Lexeme, Space, Comment, Refused, Finished}
use Rattle.munch.specs.Munch.{mode, munched}

-- what a lexeme outside opens: brackets are without their colon, and just opened
abbrev pub Opens : Inside → Type 0
Opens Nothing = Unit {0}
Opens Braces = Unit {0}
Opens (Brackets seen fresh) = (seen ≡ false) × (fresh ≡ true)

-- behind a lexeme, and behind white space
abbrev pub Behind : ℕ → Inside → Mode → Type 0
Behind d Nothing m = Opens m.inside
Behind d Braces m = (m ≡ mode d Nothing) ⊎ (m ≡ mode d Braces)
Behind d (Brackets seen fresh) m = (m ≡ mode d Nothing) ⊎ ((now : Bool) × (m ≡ mode d (Brackets now false)))

abbrev pub past : Inside → Inside
past Nothing = Nothing
past Braces = Braces
past (Brackets seen fresh) = Brackets seen false

-- where a comment may stand: "none exist inside `[ ]`"
abbrev pub Commented : Inside → Type 0
Commented Nothing = Unit {0}
Commented Braces = Unit {0}
Commented (Brackets seen fresh) = ⊥

abbrev pub LeadsTo : ℕ → Inside → Step → Type 0
LeadsTo d i (Lexeme k n m) = Behind d i m
LeadsTo d i (Space m) = m ≡ mode d (past i)
LeadsTo d i (Comment n) = Commented i
LeadsTo d i (Refused r o) = Unit {0}
LeadsTo d i Finished = i ≡ Nothing

abbrev pub StepLeads : Type 0
StepLeads = (r : Reading) (d : ℕ) (i : Inside) (xs : List ℕ) → LeadsTo d i (munched r (mode d i) xs)
