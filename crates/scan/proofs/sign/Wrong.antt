-- The answer that each promise leaves at a telling input: a program that answers otherwise there, as the theorem's name says, cannot be
-- proved. `FUNCTION_gives` is what the promise of FUNCTION answers of a text and a place in it, which is the definition's value there.
use Prim.Native.Nat.{ℕ}
use mathlib.Core.Bool.{Bool, true, false}
use mathlib.Core.List.{List}
use mathlib.Core.Path.{◌≡◌, ap₂, ◌∙◌}
use Rattle.scan.specs.Ascii.{ascii}
use Rattle.proving.proofs.One.{Answers}
use Rattle.scan.specs.Sign.{is_sign, past_sign, is_minus}
use Rattle.scan.proofs.sign.past_sign.Kinds as past_sign_kinds
use Rattle.scan.proofs.sign.past_sign.Reads as past_sign_reads
use Rattle.scan.proofs.sign.is_minus.Kinds as is_minus_kinds
use Rattle.scan.proofs.sign.is_minus.Reads as is_minus_reads

abbrev past_sign_gives : List ℕ → ℕ → ℕ → Type 0
past_sign_gives s at v = Answers past_sign_kinds.ps past_sign_kinds.r past_sign_reads.Post (λ κs a. (a.0.now ≡ s) × (a.1.0 ≡ at)) (λ κs. v)

past_sign_at : (s : List ℕ) (at : ℕ) → past_sign_gives s at (past_sign s at)
past_sign_at s at κs a x e p h = p ∙ ap₂ past_sign h.0 h.1

pub plus_is_a_sign : past_sign_gives (ascii "+") 0 1
unfolding is_sign
plus_is_a_sign = past_sign_at _ _

pub sign_is_looked_for_at_the_place : past_sign_gives (ascii "1-") 1 2
unfolding is_sign
sign_is_looked_for_at_the_place = past_sign_at _ _

pub digit_is_no_sign : past_sign_gives (ascii "1") 0 0
unfolding is_sign
digit_is_no_sign = past_sign_at _ _

abbrev is_minus_gives : List ℕ → ℕ → Bool → Type 0
is_minus_gives s at v = Answers is_minus_kinds.ps is_minus_kinds.r is_minus_reads.Post (λ κs a. (a.0.now ≡ s) × (a.1.0 ≡ at)) (λ κs. v)

is_minus_at : (s : List ℕ) (at : ℕ) → is_minus_gives s at (is_minus s at)
is_minus_at s at κs a x e p h = p ∙ ap₂ is_minus h.0 h.1

pub plus_is_no_minus : is_minus_gives (ascii "+") 0 false
plus_is_no_minus = is_minus_at _ _

pub minus_is_looked_for_at_the_place : is_minus_gives (ascii "1-") 1 true
minus_is_looked_for_at_the_place = is_minus_at _ _
