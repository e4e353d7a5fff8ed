-- The laws of strings in `specs/laws/Codes`: an accepted answer is at most twice a text's bytes, well below bit 63, and one for a text in the
-- buffer below bit 32; a refusal is that of a text which is not taken up (`validate_kept`), or 40 at an offset of the literal, or 3, by what
-- the answers of `string` tell.
use Prim.Native.Nat.{◌≤◌}
use native.Mathlib.Omega.{arith}
use mathlib.Core.Bool.{◌&&◌, not}
use mathlib.Core.Logic.{inl, inr}
use mathlib.Core.List.{List}
use mathlib.Core.Path.{◌≡◌, refl, sym, subst}
use lib.Dec.{leb}
use borrow.Author.Tests.{le-leb, lt-leb}
use Rattle.utf8.specs.declared.Refusal.{Refusal}
use Rattle.std.specs.Prelude.{Err, Ok, Result, ℕ, is_err}
use Rattle.utf8.specs.Answers.{text_limit}
use Rattle.utf8.proofs.Bounds.{number_bound}
use Rattle.string.specs.Escape.{escaping_of}
use Rattle.string.specs.laws.Escape.{EscapeTells}
use Rattle.string.proofs.escape.Answers.{escape_answers}
use Rattle.utf8.specs.declared.Reading.{Reading}
use Rattle.string.specs.declared.Unquoted.{Unquoted}
use Rattle.string.specs.declared.Unquoted.TheVariants.{Inner, Written}
use Rattle.string.specs.Literal.{unquoting_of}
use Rattle.string.specs.laws.Refusals.{LiteralTells}
use Rattle.string.proofs.Answers.{literal_answers}
use Rattle.exports.specs.Packed.{refused_from, Packable, counted_code}
use Rattle.exports.specs.String.{inner_from, unquote_code}
use Rattle.exports.specs.laws.Codes.{looks_refused, EscapeTold, EscapeKept, is_inner, UnquoteTold, UnquoteKept}
use Rattle.exports.proofs.packing.Laws.{small, packed_told}
use Rattle.exports.proofs.text.Laws.{validate_kept}

pub escape_told : EscapeTold
escape_told room xs = go (escaping_of room xs) (escape_answers room xs)
  where
    go : (e : Result ℕ Refusal) → EscapeTells xs e → looks_refused (counted_code e) ≡ is_err e
    go (Ok n) t = small n (omega (arith, t.0.0, t.2))
    go (Err r) t = packed_told r

pub escape_kept : EscapeKept
escape_kept room xs r e = go (subst (EscapeTells xs) e (escape_answers room xs))
  where
    go : EscapeTells xs (Err r) → Packable r
    go (inl a) = validate_kept xs r a
    go (inr z) = rw z (omega arith)

-- a text in the literal itself is no longer than the literal
pub inner_few : (r : Reading) (room : ℕ) (xs : List ℕ) (n : ℕ) → ◌≡◌ {A = Result Unquoted Refusal} (Ok (Inner n)) (unquoting_of r room xs) → n ≤ text_limit
inner_few r room xs n e = let t = subst (LiteralTells r xs) (sym e) (literal_answers r room xs) in omega (arith, t.0.0, t.2)

pub unquote_told : UnquoteTold
unquote_told r room xs = go (unquoting_of r room xs) (literal_answers r room xs)
  where
    go : (u : Result Unquoted Refusal) → LiteralTells r xs u → (looks_refused (unquote_code u) ≡ is_err u) × (not (looks_refused (unquote_code u)) && leb inner_from (unquote_code u) ≡ is_inner u)
    go (Ok (Inner n)) t =
        let h : n ≤ text_limit = omega (arith, t.0.0, t.2) in
        rw (lt-leb refused_from (unquote_code (Ok (Inner n))) (omega arith), le-leb inner_from (unquote_code (Ok (Inner n))) (omega arith)) (refl, refl)
    go (Ok (Written n)) t =
        let h : n ≤ text_limit = omega (arith, t.0.0, t.2) in
        rw (small n (omega arith), lt-leb inner_from n (omega arith)) (refl, refl)
    go (Err s) t = rw (packed_told s) (refl, refl)

pub unquote_kept : UnquoteKept
unquote_kept r room xs s e = go (subst (LiteralTells r xs) e (literal_answers r room xs))
  where
    go : LiteralTells r xs (Err s) → Packable s
    go (inl a) = validate_kept xs s a
    go (inr (inl (t, (p, inl l, z)))) = rw z (record { number = omega arith; byte = omega (arith, t.0); character = omega (arith, t.0, number_bound xs p) })
    go (inr (inl (t, (p, inr o, z)))) = rw z (record { number = omega arith; byte = omega arith; character = omega (arith, t.0, number_bound xs p) })
    go (inr (inr z)) = rw z (omega arith)
