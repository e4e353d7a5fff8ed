-- The laws of durations in `specs/laws/Codes`: an accepted answer is 0, or no more than the buffer's bytes; a refusal's number is at most 55
-- and its place within the text, by the bounds of `duration`'s answers.
use native.Mathlib.Omega.{arith}
use mathlib.Core.Logic.{inl, inr}
use mathlib.Core.Path.{◌≡◌, refl, subst}
use borrow.Author.Tests.{lt-leb}
use Rattle.utf8.specs.declared.Refusal.{Refusal}
use Rattle.duration.specs.declared.span.Duration.{Duration}
use Rattle.std.specs.Prelude.{Err, Ok, Result, ℕ, is_err}
use Rattle.duration.specs.Duration.{timing_by}
use Rattle.duration.proofs.Bounds.{timing_bound}
use Rattle.duration.specs.Display.{displaying_of}
use Rattle.duration.specs.laws.Display.{DisplayTells}
use Rattle.duration.proofs.display.Answers.{display_answers}
use Rattle.exports.specs.Packed.{refused_from, Packable, counted_code}
use Rattle.exports.specs.Duration.{duration_code}
use Rattle.exports.specs.laws.Codes.{looks_refused, DurationTold, DurationKept, DurationDisplayTold, DurationDisplayKept}
use Rattle.exports.proofs.packing.Laws.{packed_told}

pub duration_told : DurationTold
duration_told o xs = go (timing_by o xs)
  where
    go : (t : Result Duration Refusal) → looks_refused (duration_code t) ≡ is_err t
    go (Ok d) = refl
    go (Err r) = packed_told r

pub duration_kept : DurationKept
duration_kept o xs r e = let b = timing_bound o xs r e in omega (arith, b)

pub duration_display_told : DurationDisplayTold
duration_display_told room d h = go (displaying_of room d) (display_answers room d)
  where
    go : (e : Result ℕ Refusal) → DisplayTells room d e → looks_refused (counted_code e) ≡ is_err e
    go (Ok n) t = lt-leb refused_from n (omega (arith, t.1))
    go (Err r) t = packed_told r

pub duration_display_kept : DurationDisplayKept
duration_display_kept room d r e = go (subst (DisplayTells room d) e (display_answers room d))
  where
    go : DisplayTells room d (Err r) → Packable r
    go (inl z) = rw z (omega arith)
    go (inr z) = rw z (omega arith)
