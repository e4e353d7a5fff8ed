-- What each answer of escaping tells: what is not taken up is refused first, then the room decides; and a byte is escaped to two at most.
use Prim.Native.Nat.{ℕ, ◌*◌, ◌≤◌}
use native.Mathlib.Omega.{arith}
use mathlib.Core.List.{List, [], ◌∷◌}
use mathlib.Core.Logic.{inl, inr}
use mathlib.Core.Path.{◌≡◌, refl, ap}
use lib.Dec.{leb}
use lib.ListN.{length, length-append}
use Rattle.utf8.specs.declared.Refusal.{Refusal}
use Rattle.utf8.specs.declared.CharNumber.{CharNumber}
use Rattle.std.specs.Prelude.{Err, Ok, Result}
use Rattle.proving.proofs.Choice.{either}
use Rattle.utf8.specs.Answers.{text_limit, admitted}
use Rattle.utf8.proofs.Given.{admitted_text}
use Rattle.string.specs.Escape.{escaped, escaping_as, escaping_of}
use Rattle.string.specs.laws.Escape.{EscapeTells, EscapeAnswers}
use Rattle.string.specs.steps.Bytes.{escaped_byte, escaped_bytes}
use Rattle.string.proofs.escape.Escapes.{byte_few, by_characters_escaped}

escaped_few : (xs : List ℕ) → length (escaped_bytes xs) ≤ 2 * length xs
unfolding escaped_bytes
escaped_few [] = omega arith
escaped_few (x ∷ xs) = omega (arith, length-append (escaped_byte x) (escaped_bytes xs), byte_few x, escaped_few xs)

pub escape_answers : EscapeAnswers
unfolding escaping_of
escape_answers room xs = go (admitted text_limit xs) refl
  where
    go : (a : Result CharNumber Refusal) → admitted text_limit xs ≡ a → EscapeTells xs (escaping_as room xs a)
    go (Ok n) e =
        let t = admitted_text text_limit xs n e in
        let k = ap length (by_characters_escaped xs t.1) in
        either (EscapeTells xs) (leb (length (escaped xs)) room) (λ f. (t, refl, omega (arith, k, escaped_few xs))) (λ f. inr refl)
    go (Err r) e = inl e
