-- What each answer of reading a literal tells: what is not taken up is refused first, then a bad literal, then what has no room; and a
-- literal stands for no more bytes than it has (`bytes_few`).
use Prim.Native.Nat.{ℕ}
use native.Mathlib.Omega.{arith}
use mathlib.Core.Bool.{Bool, true, false, cond}
use mathlib.Core.Logic.{inl, inr}
use Rattle.std.specs.Prelude.{Err, None, Ok, Option, Result, Some, unwrap_or}
use mathlib.Core.Path.{◌≡◌, refl, sym, ap, ◌∙◌}
use lib.Dec.{leb}
use lib.ListN.{length}
use Rattle.utf8.specs.declared.Refusal.{Refusal}
use Rattle.utf8.specs.declared.CharNumber.{CharNumber}
use Rattle.proving.proofs.Choice.{either}
use Rattle.utf8.specs.Answers.{text_limit, admitted}
use Rattle.utf8.specs.laws.Refusals.{Taken}
use Rattle.utf8.proofs.Given.{admitted_text}
use Rattle.string.specs.Literal.{sign_of, inner_of, fault_of, is_fault, is_bad_literal, has_escape, unquoted, extent_as, extent_of, unquoting_by, unquoting_as, unquoting_of}
use Rattle.string.specs.laws.Refusals.{LiteralTells, LiteralAnswers}
use Rattle.string.proofs.Contents.{bytes_few}
use Rattle.string.proofs.Literals.{sound, sign_ascii, inner_few}
use Rattle.string.proofs.Given.{tests_literal}
use Rattle.string.proofs.Faults.{tells, faults_bad, fault_within}
use Rattle.string.specs.declared.Unquoted.TheVariants.{Inner, Written}

pub literal_answers : LiteralAnswers
unfolding unquoting_of extent_of
literal_answers r room xs = go (admitted text_limit xs) refl
  where
    text : Taken text_limit xs → is_bad_literal xs ≡ false → (t : Bool) → LiteralTells r xs (unquoting_by room xs (cond t (Ok (Written (length (unquoted r xs)))) (Ok (Inner (length (inner_of xs))))))
    text t b true =
        let l = sign_ascii xs (sound xs b).enclosed in
        either (LiteralTells r xs) (leb (length (unquoted r xs)) room)
        (λ f. (t, refl, omega (arith, bytes_few (sign_of xs) l r (inner_of xs), inner_few xs))) (λ f. inr (inr refl))
    text t b false = (t, refl, omega (arith, inner_few xs))

    by : Taken text_limit xs → (o : Option ℕ) → fault_of xs ≡ o → LiteralTells r xs (unquoting_by room xs (extent_as r xs o))
    by t (Some at) e =
        let (f, (p, a)) = (faults_bad xs t.1).0 ((tests_literal xs).0 (ap is_fault e)) in
        let k : p ≡ at = ap (λ (v : Option ℕ). unwrap_or v 0) (sym (tells xs f p a).1 ∙ e) in
        inr (inl (t, (at, rw k at (fault_within xs f p a), refl)))
    by t None e = text t (ap is_fault e) (has_escape (sign_of xs) (inner_of xs))

    go : (a : Result CharNumber Refusal) → admitted text_limit xs ≡ a → LiteralTells r xs (unquoting_as r room xs a)
    go (Ok n) e = by (admitted_text text_limit xs n e) (fault_of xs) refl
    go (Err s) e = inl e
