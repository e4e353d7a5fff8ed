-- What a run with separators is, over any test of digits, as statements: the longest text in which each byte is a digit or a separator so placed.
-- And what it is for all separators of a text to be so placed. `proofs/separated/Runs`, `proofs/separated/Texts` and `proofs/separated/Whole` have the
-- proofs.
use Rattle.std.specs.Prelude.{ℕ, suc, ◌<◌, ◌≤◌, max, Bool, true, false, ◌||◌, List, ◌∷◌, ◌++◌, ◌↔◌, ◌⊎◌, ◌≡◌, eqb, length}
use Rattle.scan.specs.declared.separated.Separators.{Separators}
use Rattle.scan.specs.declared.separated.Separators.TheVariants.{Never}
use Rattle.scan.specs.Byte.{end, peek_at}
use Rattle.scan.specs.Run.{run_end}
use Rattle.scan.specs.Separated.{separator, is_open, separated_run, separated_end, all_placed, without_separators}
use Rattle.scan.specs.Text.{has, Stands}
use Rattle.scan.specs.laws.Edge.{Edge, AsciiAlone}
use Rattle.scan.specs.laws.Language.{Greedy, Cut}

-- where a separator may stand: behind a digit, and at the front, where the choice has it so
pub data Opens (p : ℕ → Bool) (k : Separators) (xs : List ℕ) : ℕ → Type 0 where
  front : is_open k false ≡ true → Opens p k xs 0
  behind : (i : ℕ) → is_open k true ≡ true → p (peek_at xs i) ≡ true → Opens p k xs (suc i)

-- one that stands so, with a digit behind it
abbrev pub Placed : (ℕ → Bool) → Separators → List ℕ → ℕ → Type 0
Placed p k xs i = (eqb (peek_at xs i) separator ≡ true) × (p (peek_at xs (suc i)) ≡ true) × Opens p k xs i

-- the texts of digits with separators so placed, the empty one among them
abbrev pub SeparatedDigits : (ℕ → Bool) → Separators → List ℕ → Type 0
SeparatedDigits p k t = (i : ℕ) → i < length t → (p (peek_at t i) ≡ true) ⊎ Placed p k t i

-- a run is the longest of these that bytes begin with, and where it is longer than one there, that one has a digit or a separator behind it
abbrev pub DigitsGreedy : Type 0
DigitsGreedy = (p : ℕ → Bool) → p end ≡ false → (k : Separators) → Greedy (SeparatedDigits p k) (separated_run p k) (λ c. p c || eqb c separator)

-- it may be cut behind any byte but a separator
abbrev pub DigitsCut : Type 0
DigitsCut = (p : ℕ → Bool) → p end ≡ false → (k : Separators) → Cut (SeparatedDigits p k)

-- without separators it is digits alone
abbrev pub DigitsApart : Type 0
DigitsApart = (p : ℕ → Bool) (x : ℕ) (t : List ℕ) → SeparatedDigits p Never (x ∷ t) ↔ (p x ≡ true) × SeparatedDigits p Never t

-- and in a text that has none it is of no account where they may stand
abbrev pub DigitsAlike : Type 0
DigitsAlike =
    (p : ℕ → Bool) (k q : Separators) (t : List ℕ) → has separator t ≡ false → SeparatedDigits p k t → SeparatedDigits p q t

-- without separators a run with them is a run
abbrev pub SeparatedNever : Type 0
SeparatedNever = (p : ℕ → Bool) (xs : List ℕ) (n : ℕ) → separated_end p Never xs n ≡ run_end p xs n

-- it is within the list
abbrev pub SeparatedWithin : Type 0
SeparatedWithin = (p : ℕ → Bool) (k : Separators) (xs : List ℕ) (n : ℕ) → separated_end p k xs n ≤ max n (length xs)

-- each byte of it is a digit or a separator so placed
abbrev pub SeparatedPasses : Type 0
SeparatedPasses =
    (p : ℕ → Bool) (k : Separators) (xs : List ℕ) (i : ℕ) → i < separated_run p k xs → (p (peek_at xs i) ≡ true) ⊎ Placed p k xs i

-- and past it stands neither
abbrev pub SeparatedStopped : Type 0
SeparatedStopped =
    (p : ℕ → Bool) → p end ≡ false → (k : Separators) (xs : List ℕ) →
    (p (peek_at xs (separated_run p k xs)) ≡ false) × (Placed p k xs (separated_run p k xs) → ⊥)

-- a byte that is neither digit nor separator, and what follows it, change nothing
abbrev pub SeparatedAppend : Type 0
SeparatedAppend =
    (p : ℕ → Bool) → p end ≡ false → (k : Separators) (xs : List ℕ) (y : ℕ) (ys : List ℕ) → p y ≡ false → eqb y separator ≡ false →
    (n : ℕ) → n ≤ length xs → separated_end p k (xs ++ (y ∷ ys)) n ≡ separated_end p k xs n

-- it goes from an edge to an edge
abbrev pub EdgeSeparated : Type 0
EdgeSeparated =
    (p : ℕ → Bool) → AsciiAlone p → (k : Separators) (xs : List ℕ) (n : ℕ) → Edge xs n → Edge xs (separated_end p k xs n)

-- each separator of a text is so placed, as it is in a run;
abbrev pub EachPlaced : (ℕ → Bool) → Separators → List ℕ → Type 0
EachPlaced p k xs = (i : ℕ) → eqb (peek_at xs i) separator ≡ true → Placed p k xs i

-- this is what the definition tests,
abbrev pub PlacedTold : Type 0
PlacedTold = (p : ℕ → Bool) (k : Separators) (xs : List ℕ) → all_placed p k xs ≡ true ↔ EachPlaced p k xs

-- which says, where none may stand, that none does,
abbrev pub PlacedNever : Type 0
PlacedNever = (p : ℕ → Bool) (xs : List ℕ) → EachPlaced p Never xs ↔ (¬ (Stands separator xs))

-- and always holds where none does
abbrev pub PlacedWithout : Type 0
PlacedWithout = (p : ℕ → Bool) (k : Separators) (xs : List ℕ) → (¬ (Stands separator xs)) → EachPlaced p k xs

-- a text of digits with separators, as lexing takes it, is one whose separators are so placed, and that is digits without them, as number texts are judged
abbrev pub DigitsPlaced : Type 0
DigitsPlaced =
    (p : ℕ → Bool) → p separator ≡ false → (k : Separators) (t : List ℕ) →
    SeparatedDigits p k t ↔ EachPlaced p k t × SeparatedDigits p Never (without_separators t)

-- what a text is without its separators has none, is the text itself where that has none, and is no longer than it
abbrev pub NoneLeft : Type 0
NoneLeft = (xs : List ℕ) → ¬ (Stands separator (without_separators xs))

abbrev pub NoneDropped : Type 0
NoneDropped = (xs : List ℕ) → (¬ (Stands separator xs)) → without_separators xs ≡ xs

abbrev pub WithoutWithin : Type 0
WithoutWithin = (xs : List ℕ) → length (without_separators xs) ≤ length xs
