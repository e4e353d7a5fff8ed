-- Infinity, no number or no decimal, as in the definition.
use Prim.Native.Nat.{ℕ, ◌-◌, ◌≤◌}
use native.Mathlib.Omega.{arith}
use mathlib.Core.Bool.{true, false, ◌||◌}
use mathlib.Core.List.{List, map}
use mathlib.Core.Path.{◌≡◌, sym, ap, ◌∙◌}
use lib.Ieee.{Float, inf, nan}
use lib.ListN.{length, take, drop}
use Rattle.scan.specs.Ascii.{ascii}
use Rattle.scan.specs.Byte.{lowered}
use Rattle.scan.specs.Text.{same_text}
use Rattle.proving.proofs.Lists.{rest_of}
use Rattle.decimal.specs.declared.Decimal.TheVariants.{NotDecimal, Named}
use Rattle.scan.specs.Sign.{is_minus}
use Rattle.decimal.specs.Grammar.{whole_from, is_numeral, is_infinite, is_nan}
use Rattle.decimal.specs.Value.{decimal_limit, plain, decimal_in, decimal_of}
use Rattle.scan.proofs.sign.Places.{sign_within}
use Rattle.decimal.proofs.Characters.{by_characters}
use Rattle.decimal.proofs.named.Goals as goal
use Rattle.decimal.proofs.named.Goals.{After-is_infinite, After-is_nan, Start}

module _ (xs : List ℕ) (h : length xs ≤ decimal_limit) where
  infinity : is_infinite xs ≡ true → Named (plain (inf (is_minus xs 0))) ≡ decimal_of xs
  unfolding decimal_in
  infinity i = rw (← by_characters xs h, i)

  module _ (i : is_infinite xs ≡ false) where
    no_number : is_nan xs ≡ true → Named (plain nan) ≡ decimal_of xs
    unfolding decimal_in
    no_number n = rw (← by_characters xs h, i, n)

    none : is_nan xs ≡ false → is_numeral xs ≡ false → NotDecimal ≡ decimal_of xs
    unfolding decimal_in
    none n e = rw (← by_characters xs h, i, n, e)

pub slice_bounds-word-count : goal.slice_bounds-word-count
slice_bounds-word-count c = omega (arith, c.past_sign-from.ensures, sign_within c.args.s.now 0 (omega arith))

pub slice_bounds-word-start : goal.slice_bounds-word-start
slice_bounds-word-start c = omega (arith, c.past_sign-from.ensures, sign_within c.args.s.now 0 (omega arith))

-- the word behind the sign
module _ (c : After-is_infinite) where
  abbrev start : Start
  start = (goal.at.After-is_infinite c).Start

  abbrev text : List ℕ
  text = start.args.s.now

  abbrev from : ℕ
  from = c.past_sign-from.result

  word_is : take (length text - from) (drop from text) ≡ drop (whole_from text) text
  word_is = rest_of text from ∙ ap (λ (n : ℕ). drop n text) c.past_sign-from.ensures

  told : c.is_infinite.result ≡ is_infinite text
  unfolding is_infinite
  told = c.is_infinite.ensures ∙ ap (λ (w : List ℕ). same_text (map lowered w) (ascii "inf") || same_text (map lowered w) (ascii "infinity")) word_is

pub returns-then-is_infinite : goal.returns-then-is_infinite
returns-then-is_infinite c =
    let d = (goal.at.returns-then-is_infinite c).After-is_infinite in
    ap Named c.plain.ensures
    ∙ ap (λ (x : Float). Named (plain x)) (c.infinite.ensures ∙ ap inf c.is_minus.ensures)
    ∙ infinity (text d) (start d).requires.0 (sym (told d) ∙ c.if-is_infinite.true)

nan_told : (c : After-is_nan) → c.is_nan.result ≡ is_nan (text (goal.at.After-is_nan c).After-is_infinite)
unfolding is_nan
nan_told c = c.is_nan.ensures ∙ ap (λ (w : List ℕ). same_text (map lowered w) (ascii "nan")) (word_is (goal.at.After-is_nan c).After-is_infinite)

finite : (c : After-is_nan) → is_infinite (text (goal.at.After-is_nan c).After-is_infinite) ≡ false
finite c = sym (told (goal.at.After-is_nan c).After-is_infinite) ∙ c.if-is_infinite.false

pub returns-then-is_nan : goal.returns-then-is_nan
returns-then-is_nan c =
    let e = (goal.at.returns-then-is_nan c).After-is_nan in
    let d = (goal.at.After-is_nan e).After-is_infinite in
    ap Named c.plain-then-is_nan.ensures
    ∙ ap (λ (x : Float). Named (plain x)) c.not_a_number.ensures
    ∙ no_number (text d) (start d).requires.0 (finite e) (sym (nan_told e) ∙ c.if-is_nan.true)

pub returns : goal.returns
returns c =
    let e = (goal.at.returns c).After-is_nan in
    let d = (goal.at.After-is_nan e).After-is_infinite in
    none (text d) (start d).requires.0 (finite e) (sym (nan_told e) ∙ c.if-is_nan.false) (start d).requires.1
