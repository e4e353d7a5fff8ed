-- When each answer is given: of any text one of the five rows holds, which gives its own answer, and no two rows give the same
-- (`exactly`). The definition's test says whether a value is in the exact range (`Ranges`).
use Prim.Native.Nat.{ℕ}
use native.Mathlib.Decide.{dec_le}
use native.Mathlib.Omega.{arith}
use mathlib.Core.Bool.{false, true≢false}
use mathlib.Core.List.{List}
use mathlib.Core.Logic.{◌⊎◌, inl, inr}
use mathlib.Core.Path.{◌≡◌, refl, sym, ap, ◌∙◌}
use lib.Ieee.{Float, nan, inf, fin}
use lib.ListN.{length}
use borrow.Author.Tests.{lt-ltb}
use Rattle.proving.proofs.Choice.{exactly}
use Rattle.proving.proofs.Tests.{affirmed, decided, itself}
use Rattle.decimal.specs.declared.Number.{Number}
use Rattle.decimal.specs.declared.Decimal.{Decimal}
use Rattle.decimal.specs.declared.Decimal.TheVariants.{NotDecimal, Named, Exact, Outside}
use Rattle.scan.specs.Sign.{is_minus}
use Rattle.decimal.specs.Grammar.{is_numeral, is_infinite, is_nan}
use Rattle.decimal.specs.Value.{nearest_of, numeral_read, plain, decimal_limit, decimal_in, decimal_of}
use Rattle.decimal.specs.laws.Decimal.{NearestValue, Short, Infinite, Nan, Numeric, Spelled, InExact, OutsideExact, DecimalGiven, ZeroKept}
use Rattle.decimal.proofs.Characters.{by_characters}
use Rattle.decimal.proofs.Spelling.{spelled_once}
use Rattle.decimal.proofs.Ranges.{exact_told}
use Rattle.decimal.proofs.Scales.{zero_value}

data Row : Type 0 where
  infinite : Row
  number_less : Row
  exact : Row
  outside : Row
  none : Row

abbrev named : Float → Row
named nan = number_less
named (inf s) = infinite
named (fin s m e) = none

abbrev row_of : Decimal → Row
row_of (Named n) = named n.value
row_of (Exact n) = exact
row_of (Outside s) = outside
row_of NotDecimal = none

module _ (xs : List ℕ) where
  abbrev Holds : Row → Type 0
  Holds infinite = Short xs × Infinite xs
  Holds number_less = Short xs × Nan xs
  Holds exact = Short xs × Numeric xs × InExact xs
  Holds outside = Short xs × OutsideExact xs
  Holds none = Short xs × Spelled xs → ⊥

  abbrev given : Row → Decimal
  given infinite = Named (plain (inf (is_minus xs 0)))
  given number_less = Named (plain nan)
  given exact = Exact (nearest_of xs)
  given outside = Outside (is_minus xs 0)
  given none = NotDecimal

  back : (w : Row) → row_of (given w) ≡ w
  back infinite = refl
  back number_less = refl
  back exact = refl
  back outside = refl
  back none = refl

  -- what is spelled in one way is not spelled in another
  no_infinite : Nan xs ⊎ Numeric xs → is_infinite xs ≡ false
  no_infinite (inl a) = affirmed (itself (is_infinite xs)) (λ i. true≢false (sym a ∙ (spelled_once xs).0 i))
  no_infinite (inr n) = affirmed (itself (is_infinite xs)) (λ i. true≢false (sym n ∙ (spelled_once xs).1 i))

  no_nan : Numeric xs → is_nan xs ≡ false
  no_nan n = affirmed (itself (is_nan xs)) (λ a. true≢false (sym n ∙ (spelled_once xs).2 a))

  -- what a numeral is read as
  pub numeral : Short xs → Numeric xs → decimal_of xs ≡ numeral_read xs
  unfolding decimal_in
  numeral h n = rw (← by_characters xs h, no_infinite (inr n), no_nan n, n)

  accepted : InExact xs → numeral_read xs ≡ Exact (nearest_of xs)
  unfolding numeral_read
  accepted e = rw ((exact_told xs).1 e)

  beyond : (InExact xs → ⊥) → numeral_read xs ≡ Outside (is_minus xs 0)
  unfolding numeral_read
  beyond n = rw (affirmed (exact_told xs) n)

  refused : Dec (Short xs) → (Short xs × Spelled xs → ⊥) → decimal_of xs ≡ NotDecimal
  unfolding decimal_of decimal_in
  refused (no l) n = rw (lt-ltb decimal_limit (length xs) (omega arith))
  refused (yes h) n =
      let i : Infinite xs → ⊥ = λ i. n (h, inl i) in
      let a : Nan xs → ⊥ = λ a. n (h, inr (inl a)) in
      rw (← by_characters xs h, affirmed (itself (is_infinite xs)) i, affirmed (itself (is_nan xs)) a, affirmed (itself (is_numeral xs)) (λ m. n (h, inr (inr m))))

  gives : (w : Row) → Holds w → decimal_of xs ≡ given w
  unfolding decimal_in
  gives infinite h = rw (← by_characters xs h.0, h.1)
  gives number_less h = rw (← by_characters xs h.0, no_infinite (inl h.1), h.1)
  gives exact h = numeral h.0 h.1 ∙ accepted h.2
  gives outside h = numeral h.0 h.1.0 ∙ beyond h.1.1
  gives none h = refused (dec_le (length xs) decimal_limit) h

  some : Dec (Short xs) → Dec (Infinite xs) → Dec (Nan xs) → Dec (Numeric xs) → Dec (InExact xs) → (w : Row) × Holds w
  some (no l) i a m r = (none, λ s. l s.0)
  some (yes l) (yes i) a m r = (infinite, (l, i))
  some (yes l) (no i) (yes a) m r = (number_less, (l, a))
  some (yes l) (no i) (no a) (yes m) (yes r) = (exact, (l, m, r))
  some (yes l) (no i) (no a) (yes m) (no r) = (outside, (l, (m, r)))
  some (yes l) (no i) (no a) (no m) r = (none, λ s. spelled s.1)
    where
      spelled : Spelled xs → ⊥
      spelled (inl e) = i e
      spelled (inr (inl e)) = a e
      spelled (inr (inr e)) = m e

  row : (w : Row) × Holds w
  row =
      some (dec_le (length xs) decimal_limit) (decided (itself (is_infinite xs))) (decided (itself (is_nan xs))) (decided (itself (is_numeral xs))) (decided (exact_told xs))

  each : (w : Row) → decimal_of xs ≡ given w → Holds w
  each = exactly row_of given back Holds row.0 row.1 (gives row.0 row.1)

pub decimal_given : DecimalGiven
decimal_given xs =
    ((each xs infinite, gives xs infinite), (each xs number_less, gives xs number_less), (each xs exact, gives xs exact), (each xs outside, gives xs outside), (each xs none, gives xs none))

pub zero_kept : ZeroKept
zero_kept xs h n z = numeral xs h n ∙ accepted xs (inl z) ∙ ap (λ (x : Float). Exact (plain x)) (zero_value xs z)

-- the number that an answer carries
abbrev number_of : Number → Decimal → Number
number_of n (Named m) = n
number_of n (Exact m) = m
number_of n (Outside s) = n
number_of n NotDecimal = n

pub nearest_value : NearestValue
nearest_value xs n e = ap (number_of (nearest_of xs)) (sym e ∙ gives xs (row xs).0 (row xs).1) ∙ go (row xs).0
  where
    go : (w : Row) → number_of (nearest_of xs) (given xs w) ≡ nearest_of xs
    go infinite = refl
    go number_less = refl
    go exact = refl
    go outside = refl
    go none = refl
