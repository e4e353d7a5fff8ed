-- The refusals of a string in a whole query: by its row, the string begins where the step stands, and is refused so many bytes behind its sign.
use Prim.Native.Nat.{ℕ, suc, ◌<◌}
use native.Mathlib.Omega.{arith}
use mathlib.Core.Bool.{true}
use mathlib.Core.List.{List}
use mathlib.Core.Logic.{◌⊎◌, ⊎_elim}
use mathlib.Core.Path.{◌≡◌, refl, ap, ◌∙◌}
use lib.ListN.{length, drop, length-drop}
use lib.Seq.{get_or-drop}
use native.Mathlib.Nat.{add-zero}
use Rattle.scan.specs.Byte.{end, peek_at, is_quote}
use Rattle.scan.proofs.Runs.{inside}
use Rattle.utf8.specs.declared.Reading.{Reading}
use Rattle.utf8.specs.declared.Reading.TheVariants.{Documented}
use Rattle.quoted.specs.Quoted.{unknown_escape, end_in_escape, end_in_string}
use Rattle.quoted.specs.Texts.{HasEscapes}
use Rattle.munch.specs.declared.Mode.{Mode}
use Rattle.munch.specs.laws.Rows.{Row, row10, row11, row12, row13, row14, row15, row16, row17, row18, row19, row20, row21, row22, row23, row24, row25, row26, row27, row28, row29, row30, row31, row32}
use Rattle.lex.specs.laws.Entries.{EndsAtEnd, NoneInBackquotes}

quote_inside : (xs : List ℕ) → is_quote (peek_at xs 0) ≡ true → 0 < length xs
unfolding is_quote
quote_inside xs q = inside is_quote refl xs 0 q

module _ (r : Reading) (m : Mode) (xs : List ℕ) where
  -- what the rows of a string tell: 21 and 22 that it has escapes, 22 and 23 that they stand at the end
  abbrev Told : ℕ → ℕ → Type 0
  Told number o =
      ((number ≡ unknown_escape) ⊎ (number ≡ end_in_escape) → HasEscapes r (peek_at xs 0))
      × ((number ≡ end_in_escape) ⊎ (number ≡ end_in_string) → (0 < length xs) × (o ≡ length xs))

  before : (number o : ℕ) → number < unknown_escape → Told number o
  before number o l = (⊎_elim (λ e. absurd (omega (arith, l, e))) (λ e. absurd (omega (arith, l, e))), ⊎_elim (λ e. absurd (omega (arith, l, e))) (λ e. absurd (omega (arith, l, e))))

  past : (number o : ℕ) → end_in_string < number → Told number o
  past number o l = (⊎_elim (λ e. absurd (omega (arith, l, e))) (λ e. absurd (omega (arith, l, e))), ⊎_elim (λ e. absurd (omega (arith, l, e))) (λ e. absurd (omega (arith, l, e))))

  at_end : (n : ℕ) → is_quote (peek_at xs 0) ≡ true → n ≡ length (drop 1 xs) → (0 < length xs) × (suc n ≡ length xs)
  at_end n q e = let l = quote_inside xs q in (l, omega (arith, l, e, length-drop 1 xs))

  told : {number o : ℕ} → Row r m xs number o → Told number o
  told (row10 h) = before 10 0 (omega arith)
  told (row11 h) = before 11 1 (omega arith)
  told (row12 h) = before 12 1 (omega arith)
  told (row13 h) = before 13 1 (omega arith)
  told (row14 h) = before 14 1 (omega arith)
  told (row15 h) = before 15 0 (omega arith)
  told (row16 h) = before 16 0 (omega arith)
  told (row17 h) = before 17 0 (omega arith)
  told (row18 h) = before 18 0 (omega arith)
  told (row19 h) = before 19 0 (omega arith)
  told (row20 n h) = before 20 n (omega arith)
  told (row21 n (b, h)) = ((λ w. h.escapes), ⊎_elim (λ e. absurd (omega (arith, e))) (λ e. absurd (omega (arith, e))))
  told (row22 n (b, h)) = ((λ w. h.escapes), λ w. at_end n b.1 h.place)
  told (row23 n (b, h)) = (⊎_elim (λ e. absurd (omega (arith, e))) (λ e. absurd (omega (arith, e))), λ w. at_end n b.1 h.1)
  told (row24 h) = past 24 1 (omega arith)
  told (row25 h) = past 25 0 (omega arith)
  told (row26 h) = past 26 0 (omega arith)
  told (row27 h) = past 27 0 (omega arith)
  told (row28 h) = past 28 0 (omega arith)
  told (row29 h) = past 29 0 (omega arith)
  told (row30 h) = past 30 0 (omega arith)
  told (row31 h) = past 31 0 (omega arith)
  told (row32 h) = past 32 0 (omega arith)

pub ends_at_end : EndsAtEnd
ends_at_end r q number p w a = let t = (told r a.mode (drop a.step q) a.row).1 w in omega (arith, a.place, t.0, t.1, length-drop a.step q)

pub none_in_backquotes : NoneInBackquotes
none_in_backquotes q number p w a e = (told Documented a.mode (drop a.step q) a.row).0 w (get_or-drop a.step q 0 end ∙ ap (peek_at q) (add-zero a.step) ∙ e)
