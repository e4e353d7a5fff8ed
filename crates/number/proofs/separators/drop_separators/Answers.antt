-- A separator is passed over; any other byte is written at n, which is not past `at`.
use Rattle.std.proofs.Common.{◌≡◌, ℕ, ◌+◌, ◌<◌, Bool, true, false, cond, eqb, List, [], ◌∷◌, length, get_or, take, drop, set, sym, ap, ◌∙◌, ap₂, add-one, arith, length-set, drop_of_length-le, drop-cons, drop-drop, drop-set-lt, eq-eqb, ne_eqb}
use lib.Seq.{sets}
use Rattle.scan.specs.Separated.{separator, without_separators}
use Rattle.scan.proofs.separated.Whole.{without_within}
use Rattle.proving.proofs.Stores.{written_front}
use Rattle.number.proofs.separators.drop_separators.Invariants.{Held}
use Rattle.number.proofs.separators.drop_separators.Goals as goal
use Rattle.number.proofs.separators.drop_separators.Goals.{then-byte-ne-SEPARATOR, else-byte-ne-SEPARATOR}

-- what is left from a place on: of the byte there, and of what is behind it
module _ (t₀ t : List ℕ) (n at : ℕ) (l : at < length t) (i : Held t₀ t n at) where
  abbrev byte : ℕ
  byte = get_or t at 0

  abbrev rest : List ℕ
  rest = without_separators (drop (at + 1) t₀)

  behind : drop (at + 1) t ≡ drop (at + 1) t₀
  behind = sym (drop-drop 1 at t) ∙ ap (drop 1) i.behind ∙ drop-drop 1 at t₀

  here : drop at t₀ ≡ byte ∷ drop (at + 1) t₀
  here = sym i.behind ∙ drop-cons t at 0 l ∙ ap (λ (ys : List ℕ). byte ∷ ys) (ap (λ (k : ℕ). drop k t) (sym (add-one at)) ∙ behind)

  left : (s : Bool) → eqb byte separator ≡ s → without_separators (drop at t₀) ≡ cond s rest (byte ∷ rest)
  unfolding without_separators
  left s f = ap without_separators here ∙ ap (λ (b : Bool). cond b rest (byte ∷ rest)) f

  -- a separator is passed over, and any other byte is written
  module _ (t' : List ℕ) (n' : ℕ) where
    passed : eqb byte separator ≡ true → t' ≡ t → n' ≡ n → Held t₀ t' n' (at + 1)
    passed h f e =
        let r = left true h in
        record {
          within = omega (arith, i.within);
          long = ap length f ∙ i.long;
          behind = ap (drop (at + 1)) f ∙ behind;
          sized = omega (arith, i.sized, ap length r);
          holds = i.holds ∙ ap (sets t n) r ∙ sym (ap₂ (λ (ys : List ℕ) (k : ℕ). sets ys k rest) f e);
        }

    written : eqb byte separator ≡ false → t' ≡ set t n byte → n' ≡ n + 1 → Held t₀ t' n' (at + 1)
    written h f e =
        let r = left false h in record {
          within = omega (arith, i.within);
          long = ap length f ∙ length-set t n byte ∙ i.long;
          behind = ap (drop (at + 1)) f ∙ drop-set-lt (at + 1) t n byte (omega (arith, i.within)) ∙ behind;
          sized = omega (arith, i.sized, ap length r);
          holds = i.holds ∙ ap (sets t n) r ∙ sym (ap₂ (λ (ys : List ℕ) (k : ℕ). sets ys k rest) f (e ∙ add-one n));
        }

pub loop-at-preserved : goal.loop-at-preserved
loop-at-preserved c =
    let k = c.loop-at in
    let t₀ = c.args.t.now in
    let l : k.at < length k.t = omega (arith, k.invariant.long) in
    elim c.if-byte-ne-SEPARATOR.branch [
      | then-byte-ne-SEPARATOR w ↦ written t₀ k.t k.n k.at l k.invariant c.if-byte-ne-SEPARATOR.t c.if-byte-ne-SEPARATOR.n (ne_eqb _ _ w.if-byte-ne-SEPARATOR.true) w.t-is w.n-is
      | else-byte-ne-SEPARATOR w ↦ passed t₀ k.t k.n k.at l k.invariant c.if-byte-ne-SEPARATOR.t c.if-byte-ne-SEPARATOR.n (eq-eqb _ _ w.if-byte-ne-SEPARATOR.false) w.t-is w.n-is
    ]

pub returns : goal.returns
returns c =
    let i = c.loop-at.invariant in
    let t₀ = c.args.t.now in
    let e : without_separators (drop c.loop-at.at t₀) ≡ [] = unfold without_separators in ap without_separators (drop_of_length-le t₀ c.loop-at-test.false) in
    let n : c.loop-at.n ≡ length (without_separators t₀) = omega (arith, i.sized, ap length e) in
    record {
      value = n;
      t_after = sym (i.holds ∙ rw e);
      within = omega (arith, n, i.long, without_within t₀);
      left = ap₂ (λ (k : ℕ) (ys : List ℕ). take k ys) n (sym (i.holds ∙ rw e)) ∙ written_front t₀ (without_separators t₀) (without_within t₀);
    }
