-- What is kept of a text is not longer than it, so it fits. A character's step keeps the invariant, whichever way the character was read and written.
use Rattle.std.proofs.Common.{◌≡◌, ℕ, ◌+◌, ◌<◌, ◌≤◌, List, length, get_or, drop, take, sym, refl, ap, ap₂, ◌∙◌, subst, arith, length-append}
use borrow.Author.Tests.{ltb-true}
use lib.Seq.{sets, length-sets}
use Rattle.scan.specs.Byte.{end, peek_at}
use Rattle.proving.proofs.Lists.{get_d_any}
use Rattle.proving.proofs.Stores.{sets_join, written_front}
use Rattle.utf8.specs.declared.Character.{Character}
use Rattle.utf8.specs.declared.Character.TheVariants.{Scalar, Nothing, IllFormed}
use Rattle.utf8.specs.Answers.{character_at}
use Rattle.utf8.specs.laws.Characters.{Standing, StandsAt}
use Rattle.utf8.specs.laws.Refusals.{Taken}
use Rattle.utf8.proofs.Bounds.{character_stands, ascii_at}
use Rattle.decimal.specs.Value.{decimal_limit}
use Rattle.number.specs.White.{kept_bytes, plain_text}
use Rattle.number.proofs.Kept.{plain_few, plain_here, plain_over}
use Rattle.number.proofs.keep.Invariants.{Held}
use Rattle.number.proofs.keep.Goals as goal
use Rattle.number.proofs.keep.Goals.{In-Scalar, Then-is_ascii}

-- before the end a character stands
module _ {xs out₀ out : List ℕ} {n at : ℕ} (i : Held xs out₀ out n at) where
  stands : at < length xs → StandsAt xs at (character_at xs at)
  stands l = character_stands xs at l i.formed

  -- an ASCII one is its byte
  alone : at < length xs → get_or xs at 0 ≤ 0x7f → Standing xs at (get_or xs at 0) 1
  alone l h =
      let e : peek_at xs at ≡ get_or xs at 0 = get_d_any xs at end 0 l in
      subst (λ (x : ℕ). Standing xs at x 1) e (subst (StandsAt xs at) (ascii_at xs at (omega (arith, e))) (stands l))

  -- any other is the one that was read
  read : {r : Character} (code size : ℕ) → at < length xs → r ≡ character_at xs at → r ≡ Scalar code size → Standing xs at code size
  read code size l e f = subst (StandsAt xs at) (sym e ∙ f) (stands l)

  -- what is kept of it has room, and with that written the invariant holds behind it
  module _ {code size : ℕ} (s : Standing xs at code size) where
    long : length (plain_text (drop at xs)) ≡ length (kept_bytes code) + length (plain_text (drop (at + size) xs))
    long = ap length (plain_here xs at code size s) ∙ length-append (kept_bytes code) (plain_text (drop (at + size) xs))

    room : Taken decimal_limit xs → n + length (kept_bytes code) ≤ decimal_limit
    room t = omega (arith, long, i.sized, plain_few xs t.1, t.0)

    step : {m : ℕ} {out' : List ℕ} → m ≡ n + length (kept_bytes code) → out' ≡ sets out n (kept_bytes code) → Held xs out₀ out' m (at + size)
    step e f =
        record {
          within = s.within;
          formed = s.behind;
          sized = omega (arith, long, i.sized);
          holds = i.holds ∙ rw (plain_here xs at code size s, sets_join, e, f);
        }

no_other : (xs : List ℕ) (at : ℕ) (r : Character) → StandsAt xs at r → ((d n : ℕ) → r ≡ Scalar d n → ⊥) → ⊥
no_other xs at (Scalar d n) s t = t d n refl
no_other xs at Nothing s t = s
no_other xs at IllFormed s t = s

ascii_byte : (c : Then-is_ascii) → get_or c.args.text.now c.loop-at.at 0 ≤ 0x7f
ascii_byte c = let l = ltb-true _ 128 (sym c.is_ascii.ensures ∙ c.if-is_ascii.true) in omega arith

pub put_ascii-n-requires-clause-byte_in_bounds : goal.put_ascii-n-requires-clause-byte_in_bounds
put_ascii-n-requires-clause-byte_in_bounds c =
    let i = c.loop-at.invariant in
    omega (arith, room i (alone i c.loop-at-test.true (ascii_byte (goal.at.put_ascii-n-requires-clause-byte_in_bounds c).Then-is_ascii)) c.requires)

pub loop-at-preserved-then-is_ascii : goal.loop-at-preserved-then-is_ascii
loop-at-preserved-then-is_ascii c =
    let i = c.loop-at.invariant in
    step i (alone i c.loop-at-test.true (ascii_byte (goal.at.loop-at-preserved-then-is_ascii c).Then-is_ascii)) c.put_ascii-n.ensures.value c.put_ascii-n.ensures.out_after

pub unreachable-requires : goal.unreachable-requires
unreachable-requires c = no_other _ _ _ (subst (StandsAt c.args.text.now c.loop-at.at) (sym c.char_at.ensures) (stands c.loop-at.invariant c.loop-at-test.true)) c.in_default.not-Scalar

standing : (c : In-Scalar) → Standing c.args.text.now c.loop-at.at c.in-Scalar.code c.in-Scalar.size
standing c = read c.loop-at.invariant c.in-Scalar.code c.in-Scalar.size c.loop-at-test.true c.char_at.ensures c.in-Scalar.is

pub put_kept-n-requires-clause-code_value : goal.put_kept-n-requires-clause-code_value
put_kept-n-requires-clause-code_value c = (standing (goal.at.put_kept-n-requires-clause-code_value c).In-Scalar).scalar

pub put_kept-n-requires-clause-code_in_bounds : goal.put_kept-n-requires-clause-code_in_bounds
put_kept-n-requires-clause-code_in_bounds c = omega (arith, room c.loop-at.invariant (standing (goal.at.put_kept-n-requires-clause-code_in_bounds c).In-Scalar) c.requires)

pub overflow_add-at-else-is_ascii : goal.overflow_add-at-else-is_ascii
overflow_add-at-else-is_ascii c = omega (arith, (standing (goal.at.overflow_add-at-else-is_ascii c).In-Scalar).within)

pub loop-at-smaller : goal.loop-at-smaller
loop-at-smaller c = let s = standing (goal.at.loop-at-smaller c).In-Scalar in omega (arith, s.some, s.within)

pub loop-at-preserved : goal.loop-at-preserved
loop-at-preserved c = step c.loop-at.invariant (standing (goal.at.loop-at-preserved c).In-Scalar) c.put_kept-n.ensures.value c.put_kept-n.ensures.out_after

-- the whole text's is kept in the end
module _ {xs out₀ out : List ℕ} {n at : ℕ} (i : Held xs out₀ out n at) (l : length xs ≤ at) where
  counted : n ≡ length (plain_text xs)
  counted = omega (arith, i.sized, ap length (plain_over xs at l))

  kept : length (plain_text xs) ≤ length out₀ → take n out ≡ plain_text xs
  kept h = ap₂ (λ (k : ℕ) (ys : List ℕ). take k ys) counted (sym (i.holds ∙ rw (plain_over xs at l))) ∙ written_front out₀ (plain_text xs) h

pub returns-clause-within : goal.returns-clause-within
returns-clause-within c =
    let i = c.loop-at.invariant in
    omega (arith, counted i c.loop-at-test.false, simp length-sets at (ap length i.holds), plain_few c.args.text.now c.requires.1, c.requires.0)

pub returns-clause-kept : goal.returns-clause-kept
returns-clause-kept c = kept c.loop-at.invariant c.loop-at-test.false (omega (arith, plain_few c.args.text.now c.requires.1, c.requires.0))
