-- A string without escapes ends behind the first of its bytes that is its sign: `first`, by induction on the bytes.
use Rattle.std.proofs.Common.{◌≡◌, ℕ, ◌+◌, List, [], ◌∷◌, length, eqb, arith, rules, tests, Result, Ok, Err, Option, Some, None, position}
use native.Mathlib.Nat.{zero-add}
use Rattle.std.specs.List.{position_from}
use Rattle.std.proofs.lemmas.Iterator.{YieldsList-from_slice}
use Rattle.std.proofs.lemmas.Iterator.Search.{position_from_yields_List}
use Rattle.std.proofs.lemmas.Iterator.Adapters.{position_from-zero}
use Rattle.std.proofs.lemmas.Grind.{common_steps}
use Rattle.quoted.specs.declared.Fault.{Fault}
use Rattle.quoted.specs.Quoted.{end_in_string, fault, raw_from}
use Rattle.quoted.proofs.accept_raw.Goals as goal

abbrev ended : ℕ → Option ℕ → Result ℕ Fault
ended size (Some n) = Ok (n + 1)
ended size None = Err (fault end_in_string size)

first : (symbol n : ℕ) (xs : List ℕ) → ended (n + length xs) (position_from (λ x. eqb x symbol) n xs) ≡ raw_from symbol n xs
unfolding raw_from
first symbol n [] = grind arith
first symbol n (x ∷ xs) = grind (arith, common_steps, first symbol (n + 1) xs)

ends : (symbol : ℕ) (s : List ℕ) (p : Option ℕ) → p ≡ position (λ x. eqb x symbol) s → ended (length s) p ≡ raw_from symbol 0 s
ends symbol s p e = rw (e, position_from-zero (λ x. eqb x symbol) s) (rw zero-add at (first symbol 0 s))

pub returns-in-Some : goal.returns-in-Some
returns-in-Some c =
    let a = c.args in
    ends _ _ _ (position_from_yields_List (λ x. eqb x a.symbol) _ _ _ c.in-Some.ensures.ran (YieldsList-from_slice a.s.now cc) (λ x b q k. search (rules, tests)))

pub returns-in-None : goal.returns-in-None
returns-in-None c =
    let a = c.args in
    ends _ _ None (position_from_yields_List (λ x. eqb x a.symbol) _ _ _ c.in-None.ensures.ran (YieldsList-from_slice a.s.now cc) (λ x b q k. search (rules, tests)))
