-- A number that is no kind's is shown as unknown.
use Rattle.std.proofs.Common.{rules, ℕ, List, [], ◌∷◌, ◌≡◌, refl, sym}
use borrow.Author.Tests.{ne_eqb}
use Rattle.token.specs.Words.{KindText, words}
use Rattle.token.specs.Display.{wordless, own_kinds, displays, text_in, unknown}
use Rattle.token.proofs.display_of.Goals as goal

abbrev NoneHas : ℕ → List KindText → Type 0
NoneHas k [] = Unit {0}
NoneHas k (e ∷ es) = (e.kind ≡ k → ⊥) × NoneHas k es

none : (k : ℕ) (es : List KindText) → NoneHas k es → text_in es k ≡ unknown
unfolding text_in
none k [] h = refl
none k (e ∷ es) h = rw (ne_eqb e.kind k h.0) (none k es h.1)

pub returns-in_default : goal.returns-in_default
unfolding displays wordless own_kinds words
returns-in_default c = sym (none c.args.kind displays (search rules))
