-- The laws of kinds in `specs/laws/Codes`: an accepted answer is the length of a kind's text, which is short (`token`'s `short`), well below
-- bit 63, and the number 3 and the place 0, 0 fit their bits.
use native.Mathlib.Omega.{arith}
use mathlib.Core.Path.{◌≡◌, refl}
use lib.Dec.{leb}
use lib.ListN.{length}
use Rattle.exports.specs.Packed.{counted_code}
use Rattle.utf8.specs.declared.Refusal.{Refusal}
use Rattle.std.specs.Prelude.{Result, ℕ, is_err}
use Rattle.proving.proofs.Choice.{either}
use Rattle.token.specs.Display.{display_of}
use Rattle.token.proofs.Displays.{short}
use Rattle.exports.specs.laws.Codes.{looks_refused, TokenDisplayTold, TokenDisplayKept}
use Rattle.exports.proofs.packing.Laws.{small}

pub token_display_told : TokenDisplayTold
token_display_told room k =
    either (λ (d : Result ℕ Refusal). looks_refused (counted_code d) ≡ is_err d) (leb (length (display_of k)) room)
    (λ e. small (length (display_of k)) (omega (arith, short k))) (λ e. refl)

pub token_display_kept : TokenDisplayKept
token_display_kept = omega arith
