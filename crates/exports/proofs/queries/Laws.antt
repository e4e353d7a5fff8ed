-- The laws of queries in `specs/laws/Codes`: an accepted answer is at most one more than a query's bytes, or 7, well below bit 63; a refusal's
-- number is at most 74 and its place within the query, by the bounds of `lex`'s and `reason`'s answers.
use native.Mathlib.Omega.{arith}
use mathlib.Core.Path.{◌≡◌, subst}
use Rattle.exports.specs.Packed.{counted_code}
use Rattle.utf8.specs.declared.Refusal.{Refusal}
use Rattle.std.specs.Prelude.{Err, Ok, Result, ℕ, is_err}
use Rattle.lex.specs.Lex.{lexed}
use Rattle.lex.specs.laws.Bounds.{LexingWithin}
use Rattle.lex.proofs.Bounds.{lexing_bounded}
use Rattle.reason.specs.Reason.{reasoned}
use Rattle.reason.specs.laws.Reasons.{ReasoningWithin}
use Rattle.reason.proofs.Bounds.{reason_bounded}
use Rattle.exports.specs.laws.Codes.{looks_refused, LexerTold, LexerKept, ReasonTold, ReasonKept}
use Rattle.exports.proofs.packing.Laws.{small, packed_told}

pub lexer_told : LexerTold
lexer_told r room q = go (lexed r room q) (lexing_bounded r room q)
  where
    go : (x : Result ℕ Refusal) → LexingWithin x → looks_refused (counted_code x) ≡ is_err x
    go (Ok n) h = small n (omega arith)
    go (Err refusal) h = packed_told refusal

pub lexer_kept : LexerKept
lexer_kept r room q refusal e = let b = subst LexingWithin e (lexing_bounded r room q) in omega (arith, b.0, b.1, b.2)

pub reason_told : ReasonTold
reason_told r number q = go (reasoned r number q) (reason_bounded r number q)
  where
    go : (x : Result ℕ Refusal) → ReasoningWithin x → looks_refused (counted_code x) ≡ is_err x
    go (Ok n) h = small n (omega (arith, h.1))
    go (Err refusal) h = packed_told refusal

pub reason_kept : ReasonKept
reason_kept r number q refusal e = let b = subst ReasoningWithin e (reason_bounded r number q) in omega (arith, b.0, b.1, b.2)
