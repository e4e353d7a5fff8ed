-- The five wrong programs that document 01 names under "What the promises owe", each at a named input: what it would answer, or leave in the lists,
-- contradicts the promise of `lexer`, since a call that keeps it gives the lexemes of the table (`all_called`).
use Prim.Native.Nat.{ℕ, ◌≤◌}
use native.Mathlib.Omega.{arith}
use mathlib.Core.List.{List, [], ◌∷◌}
use mathlib.Core.Path.{◌≡◌, sym, ap, ◌∙◌}
use lib.ListN.{take, get_or}
use Rattle.std.specs.Prelude.{Err, Ok, Result}
use Rattle.scan.specs.Ascii.{ascii}
use Rattle.utf8.specs.declared.Reading.TheVariants.{Crate}
use Rattle.utf8.specs.declared.Refusal.{Refusal}
use Rattle.calls.specs.laws.Calls.{LexCall, room_in, kinds_left}
use Rattle.cases.specs.laws.Cases.{lexes}
use Rattle.cases.proofs.Called.{Called, all_called}

-- the two inputs
abbrev pub fill : List ℕ
fill = ascii "fill ()"

abbrev pub or : List ℕ
or = ascii "{or }"

fill_called : Called (lexes fill (70 ∷ 6 ∷ 7 ∷ 0 ∷ []))
fill_called = all_called.1.1.1.1.1.0

or_called : Called (lexes or (8 ∷ 36 ∷ 9 ∷ 0 ∷ []))
or_called = all_called.1.0

count : Result ℕ Refusal → ℕ
count (Ok n) = n
count (Err r) = 0

module _ (c : LexCall Crate fill) (room : 4 ≤ room_in c) where
  -- "always refusing"
  pub never_refused : (r : Refusal) → c.result ≡ Err r → ⊥
  unfolding count
  never_refused r e = let z = ap count (sym (fill_called c room).0 ∙ e) in omega arith

  -- "a count other than the entries written"
  pub counted_right : (n : ℕ) → c.result ≡ Ok n → (n ≡ 4 → ⊥) → ⊥
  unfolding count
  counted_right n e d = d (sym (ap count (sym (fill_called c room).0 ∙ e)))

  -- the kind of the lexeme i
  kind : (i : ℕ) → get_or (take 4 (kinds_left c)) i 0 ≡ get_or (70 ∷ 6 ∷ 7 ∷ 0 ∷ []) i 0
  kind i = ap (λ (ks : List ℕ). get_or ks i 0) (fill_called c room).1

  -- "writing nothing and claiming success"
  pub something_written : take 4 c.args.1.1.0.now ≡ 0 ∷ 0 ∷ 0 ∷ 0 ∷ [] → kinds_left c ≡ c.args.1.1.0.now → ⊥
  something_written z e = omega (arith, kind 0, ap (λ (ks : List ℕ). get_or ks 0 0) (ap (take 4) e ∙ z))

  -- "lexing to the first lexeme and then inventing the rest"
  pub nothing_invented : (x y z : ℕ) → take 4 (kinds_left c) ≡ 70 ∷ x ∷ y ∷ z ∷ [] → (x ≡ 6) × (y ≡ 7) × (z ≡ 0)
  nothing_invented x y z e = (
    omega (arith, kind 1, ap (λ (ks : List ℕ). get_or ks 1 0) e),
    omega (arith, kind 2, ap (λ (ks : List ℕ). get_or ks 2 0) e),
    omega (arith, kind 3, ap (λ (ks : List ℕ). get_or ks 3 0) e),
  )

  -- "always the same lexemes or text"
  pub told_apart : (d : LexCall Crate or) → 4 ≤ room_in d → kinds_left c ≡ kinds_left d → ⊥
  told_apart d h e = omega (arith, kind 0, ap (λ (ks : List ℕ). get_or ks 0 0) (ap (take 4) e ∙ (or_called d h).1))
