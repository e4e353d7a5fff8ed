-- Laws of a duration's bytes: what goes on with it is ASCII, since digits and units are, so that the end never does; and a reading at an
-- offset is its turn there and the reading past it.
use Prim.Native.Nat.{ℕ, zero, suc, ◌+◌, ◌<◌}
use Prim.Native.Char.{code}
use native.Mathlib.Omega.{arith}
use native.Mathlib.Numerals.{add-one}
use mathlib.Core.Bool.{Bool, true, false, cond}
use mathlib.Core.Path.{◌≡◌, refl}
use mathlib.Core.List.{List, [], ◌∷◌}
use lib.Dec.{eqb}
use lib.ListN.{length, drop}
use Rattle.scan.specs.declared.byte.Class.TheVariants.{Digit}
use Rattle.scan.specs.Byte.{end, peek_at, is_within, is_alpha, is_digit, is_in}
use Rattle.scan.specs.laws.Edge.{AsciiAlone}
use Rattle.proving.proofs.Choice.{either}
use Rattle.scan.proofs.Edges.{ascii_inside, class_ascii, one_ascii, or_ascii}
use Rattle.numeral.specs.declared.Part.{Part}
use Rattle.numeral.specs.declared.Part.TheVariants.{Unit, UnitS, Digits}
use Rattle.numeral.specs.declared.Turn.{Turn}
use Rattle.numeral.specs.declared.Turn.TheVariants.{On, Ends, Fails}
use Rattle.numeral.specs.declared.Numeral.{Numeral}
use Rattle.numeral.specs.Numeral.{is_unit, stop_of, turn_of, turned, part_behind, duration_from}

pub unit_ascii : AsciiAlone is_unit
unfolding is_unit
unit_ascii =
    or_ascii _ _ (one_ascii (code "s") (omega arith)) (or_ascii _ _ (one_ascii (code "m") (omega arith)) (or_ascii _ _ (one_ascii (code "h") (omega arith)) (or_ascii _ _ (one_ascii (code "d") (omega arith)) (one_ascii (code "w") (omega arith)))))

-- what ends a duration or fails does not go on with it
pub not_on : {A : Type 0} (b : Bool) (q : Part) → cond b Fails Ends ≡ On q → A
not_on true q e = let z : ◌≡◌ {A = ℕ} 0 1 = cc in let f : ⊥ = omega arith in absurd f
not_on false q e = let z : ◌≡◌ {A = ℕ} 0 1 = cc in let f : ⊥ = omega arith in absurd f

module _ (q : Part) (c : ℕ) where
  abbrev OnAscii : Turn → Type 0
  OnAscii t = t ≡ On q → c < 0x80

  stop_ascii : (p : Part) → OnAscii (stop_of p c)
  unfolding stop_of
  stop_ascii Unit = either OnAscii (eqb c (code "s")) (λ e o. one_ascii (code "s") (omega arith) c e) (λ e o. not_on (is_alpha c) q o)
  stop_ascii UnitS = not_on (is_alpha c) q
  stop_ascii Digits = either OnAscii (is_unit c) (λ e o. unit_ascii c e) (λ e o. not_on true q o)

  pub on_ascii : (p : Part) → OnAscii (turn_of p c)
  unfolding turn_of
  on_ascii p = either OnAscii (is_digit c) (λ e o. unfold is_in in class_ascii Digit refl c e) (λ e. stop_ascii p)

pub on_inside : (p q : Part) (xs : List ℕ) (n : ℕ) → turn_of p (peek_at xs n) ≡ On q → n < length xs
on_inside p q xs n e = ascii_inside xs n (on_ascii q (peek_at xs n) p e)

end_turned : (p : Part) (n : ℕ) (rest : Numeral) → duration_from p n [] ≡ turned (turn_of p end) n rest
unfolding duration_from turn_of stop_of is_unit is_alpha is_within
end_turned Unit n rest = refl
end_turned UnitS n rest = refl
end_turned Digits n rest = refl

pub turned_at : (p : Part) (n : ℕ) (xs : List ℕ) (i : ℕ)
    → duration_from p n (drop i xs) ≡ turned (turn_of p (peek_at xs i)) n (duration_from (part_behind (turn_of p (peek_at xs i))) (n + 1) (drop (suc i) xs))
turned_at p n [] zero = end_turned p n _
turned_at p n [] (suc i) = end_turned p n _
turned_at p n (x ∷ xs) zero = unfold duration_from in refl
turned_at p n (x ∷ xs) (suc i) = turned_at p n xs i

pub duration_at_turn : (p : Part) (xs : List ℕ) (n : ℕ) {t : Turn} → turn_of p (peek_at xs n) ≡ t
    → duration_from p n (drop n xs) ≡ turned t n (duration_from (part_behind t) (n + 1) (drop (n + 1) xs))
duration_at_turn p xs n e = rw (turned_at p n xs n, e, add-one)
