-- Where a string ends: behind its closing sign, or where it is refused, which is behind a backslash or at the end; the two signs are ASCII.
-- By induction on the bytes that are left. What follows a string changes nothing, since it is read up to its closing sign alone.
use Prim.Native.Nat.{ℕ, zero, suc, ◌+◌, ◌<◌}
use native.Mathlib.Numerals.{add-one}
use native.Mathlib.Omega.{arith}
use mathlib.Core.Bool.{Bool, true, false, cond, ◌||◌, true≢false}
use mathlib.Core.List.{List, [], ◌∷◌, ◌++◌}
use mathlib.Core.Logic.{inl, inr}
use mathlib.Core.Path.{◌≡◌, refl, sym, ap, subst}
use lib.Dec.{eqb}
use lib.ListN.{length, drop}
use Rattle.scan.specs.Byte.{end, peek_at, backslash, backquote}
use Rattle.scan.specs.Text.{has}
use Rattle.scan.specs.laws.Edge.{Edge, first, last, behind}
use Rattle.proving.proofs.Choice.{either}
use Rattle.scan.proofs.Edges.{one_ascii}
use Rattle.std.specs.Prelude.{Result, Ok}
use Rattle.quoted.specs.declared.Fault.{Fault}
use Rattle.quoted.specs.Quoted.{is_escape, quoted_from, is_raw, raw_from}
use Rattle.quoted.specs.laws.Quoted.{Lies, StringWithin, Numbered, StringNumbered, StringSeam, BackslashAlone}
use Rattle.quoted.proofs.Turns.{past_end, escaped_turn, plain_turn, raw_end, raw_turn}

-- behind an ASCII byte is an edge
past : (xs : List ℕ) (n y : ℕ) → y < 0x80 → eqb (peek_at xs n) y ≡ true → Edge xs (n + 1)
past xs n y h e = rw add-one (behind n (one_ascii y h (peek_at xs n) e))

module _ (symbol : ℕ) (xs : List ℕ) (a : symbol < 0x80) where
  -- from n on, with k bytes left, where an escape is begun at an edge alone
  lies : (k n : ℕ) (escaped : Bool) → n + k ≡ length xs → (escaped ≡ true → Edge xs n) → Lies xs (quoted_from symbol escaped n (drop n xs))
  lies zero n escaped e h =
      rw (past_end symbol n xs escaped (omega arith)) (either (Lies xs) escaped h (λ f. subst (Edge xs) (omega arith) last))
  lies (suc k) n true e h =
      rw (escaped_turn symbol n xs end (omega arith))
      (either (Lies xs) (is_escape symbol (peek_at xs n)) (λ f. lies k (n + 1) false (omega arith) (λ g. absurd (true≢false (sym g)))) (λ f. h refl))
  lies (suc k) n false e h =
      rw (plain_turn symbol n xs end (omega arith))
      (either (Lies xs) (eqb (peek_at xs n) symbol) (λ f. (omega arith, past xs n symbol a f))
      (λ f. lies k (n + 1) (eqb (peek_at xs n) backslash) (omega arith) (past xs n backslash (omega arith))))

  -- and so of a string without escapes, which ends behind its sign or at the end
  raw_lies : (k n : ℕ) → n + k ≡ length xs → Lies xs (raw_from symbol n (drop n xs))
  raw_lies zero n e = rw (raw_end symbol n xs (omega arith)) (subst (Edge xs) (omega arith) last)
  raw_lies (suc k) n e =
      rw (raw_turn symbol n xs end (omega arith))
      (either (Lies xs) (eqb (peek_at xs n) symbol) (λ f. (omega arith, past xs n symbol a f)) (λ f. raw_lies k (n + 1) (omega arith)))

pub string_within : StringWithin
string_within r symbol xs a =
    either (Lies xs) (is_raw r symbol) (λ e. raw_lies symbol xs a (length xs) 0 (omega arith)) (λ e. lies symbol xs a (length xs) 0 false (omega arith) (λ f. first))

-- each end of the definition is closed, or refused with one of the three numbers
numbered : (symbol : ℕ) (escaped : Bool) (n : ℕ) (xs : List ℕ) → Numbered (quoted_from symbol escaped n xs)
unfolding quoted_from
numbered symbol true n [] = inr (inl refl)
numbered symbol true n (x ∷ xs) = either Numbered (is_escape symbol x) (λ e. numbered symbol false (n + 1) xs) (λ e. inl refl)
numbered symbol false n [] = inr (inr refl)
numbered symbol false n (x ∷ xs) = either Numbered (eqb x symbol) (λ e. tt) (λ e. numbered symbol (eqb x backslash) (n + 1) xs)

raw_numbered : (symbol n : ℕ) (xs : List ℕ) → Numbered (raw_from symbol n xs)
unfolding raw_from
raw_numbered symbol n [] = inr (inr refl)
raw_numbered symbol n (x ∷ xs) = either Numbered (eqb x symbol) (λ e. tt) (λ e. raw_numbered symbol (n + 1) xs)

pub string_numbered : StringNumbered
string_numbered r symbol xs = either Numbered (is_raw r symbol) (λ e. raw_numbered symbol 0 xs) (λ e. numbered symbol false 0 xs)

-- what each arm of a choice keeps, the choice keeps
kept : (b : Bool) {u v w z r : Result ℕ Fault} → (u ≡ r → w ≡ r) → (v ≡ r → z ≡ r) → cond b u v ≡ r → cond b w z ≡ r
kept true f g = f
kept false f g = g

-- a string that is closed stays so
closed_stays : (symbol : ℕ) (xs ys : List ℕ) (escaped : Bool) (n r : ℕ) → quoted_from symbol escaped n xs ≡ Ok r → quoted_from symbol escaped n (xs ++ ys) ≡ Ok r
unfolding quoted_from
closed_stays symbol [] ys true n r h = cc
closed_stays symbol [] ys false n r h = cc
closed_stays symbol (x ∷ xs) ys true n r h = kept (is_escape symbol x) (closed_stays symbol xs ys false (n + 1) r) (λ e. e) h
closed_stays symbol (x ∷ xs) ys false n r h = kept (eqb x symbol) (λ e. e) (closed_stays symbol xs ys (eqb x backslash) (n + 1) r) h

raw_stays : (symbol : ℕ) (xs ys : List ℕ) (n r : ℕ) → raw_from symbol n xs ≡ Ok r → raw_from symbol n (xs ++ ys) ≡ Ok r
unfolding raw_from
raw_stays symbol [] ys n r h = cc
raw_stays symbol (x ∷ xs) ys n r h = kept (eqb x symbol) (λ e. e) (raw_stays symbol xs ys (n + 1) r) h

pub string_seam : StringSeam
string_seam r symbol xs ys n = kept (is_raw r symbol) (raw_stays symbol xs ys 0 n) (closed_stays symbol xs ys false 0 n)

-- without a backslash no escape is begun
no_escape : (symbol n : ℕ) (xs : List ℕ) → has backslash xs ≡ false → quoted_from symbol false n xs ≡ raw_from symbol n xs
unfolding quoted_from raw_from has
no_escape symbol n [] h = refl
no_escape symbol n (x ∷ xs) h = go (eqb x backslash) h (no_escape symbol (n + 1) xs)
  where
    go : (b : Bool) → b || has backslash xs ≡ false → (has backslash xs ≡ false → quoted_from symbol false (n + 1) xs ≡ raw_from symbol (n + 1) xs)
        → cond (eqb x symbol) (Ok (n + 1)) (quoted_from symbol b (n + 1) xs) ≡ cond (eqb x symbol) (Ok (n + 1)) (raw_from symbol (n + 1) xs)
    go true e f = absurd (true≢false e)
    go false e f = ap (cond (eqb x symbol) (Ok (n + 1))) (f e)

pub backslash_alone : BackslashAlone
unfolding is_raw
backslash_alone symbol xs h = either (λ v. quoted_from symbol false 0 xs ≡ v) (eqb symbol backquote) (λ e. no_escape symbol 0 xs h) (λ e. refl)
