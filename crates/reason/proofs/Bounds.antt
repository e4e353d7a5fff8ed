-- Reasons and refusals are small: a refusal of lexing's is that of any room (`lexing_bounded`), and the others have no place.
use Prim.Native.Nat.{ℕ}
use native.Mathlib.Omega.{arith}
use mathlib.Core.List.{List}
use mathlib.Core.Path.{◌≡◌, refl, ap, subst}
use lib.Dec.{leb}
use lib.ListN.{drop}
use Rattle.std.specs.Prelude.{Err, Ok, Result, None, Option, Some}
use Rattle.proving.proofs.Choice.{either}
use Rattle.utf8.specs.declared.Reading.{Reading}
use Rattle.utf8.specs.declared.Refusal.{Refusal}
use Rattle.munch.specs.declared.word.Rule.{Rule}
use Rattle.munch.specs.declared.word.Rule.TheVariants.{Or, InBraces, Table, FillCalled, FillAlone, WithColon, Plain}
use Rattle.lex.specs.Lex.{measured, roomed, lexed}
use Rattle.lex.specs.laws.Bounds.{LexingWithin}
use Rattle.lex.proofs.Bounds.{lexing_bounded}
use Rattle.reason.specs.declared.Found.{Found}
use Rattle.reason.specs.Reason.{wording_of, lexeme_at, reason_of, reason_at, reason_as, reasoned}
use Rattle.reason.specs.laws.Reasons.{ReasoningWithin, ReasonBounded}

of_rule : (x : Rule) → ReasoningWithin (reason_of (Some x))
of_rule Or = (omega arith, omega arith)
of_rule InBraces = (omega arith, omega arith)
of_rule (Table k) = (omega arith, omega arith)
of_rule (FillCalled k) = (omega arith, omega arith)
of_rule FillAlone = (omega arith, omega arith)
of_rule WithColon = (omega arith, omega arith)
of_rule Plain = (omega arith, omega arith)

of_wording : (w : Option Rule) → ReasoningWithin (reason_of w)
of_wording (Some x) = of_rule x
of_wording None = (omega arith, omega arith, omega arith)

of_found : (q : List ℕ) (f : Option Found) → ReasoningWithin (reason_at q f)
of_found q (Some f') = of_wording (wording_of f'.mode.inside (drop f'.at q))
of_found q None = (omega arith, omega arith, omega arith)

-- a refused query is refused so without room
of_refused : (r : Reading) (q : List ℕ) (refusal : Refusal) → measured r q ≡ Err refusal → ReasoningWithin (Err refusal)
unfolding lexed
of_refused r q refusal e = let b = subst LexingWithin (ap (roomed 0) e) (lexing_bounded r 0 q) in (omega (arith, b.0), b.1, b.2)

pub reason_bounded : ReasonBounded
unfolding reasoned
reason_bounded r number q = go (measured r q) refl
  where
    go : (x : Result ℕ Refusal) → measured r q ≡ x → ReasoningWithin (reason_as r number q x)
    go (Ok n) e = either ReasoningWithin (leb n number) (λ h. (omega arith, omega arith, omega arith)) (λ h. of_found q (lexeme_at r q number))
    go (Err refusal) e = of_refused r q refusal e
