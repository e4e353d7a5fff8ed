-- What is read is what document 01's and document 02's sentences say of texts, as statements; `proofs/Texts`, `proofs/Plain`, `proofs/Given` and
-- `proofs/Places` have their proofs. All are said of bytes that are begun as a number is: no others are read as one.
use Rattle.std.specs.Prelude.{ℕ, ◌<◌, ◌≤◌, Bool, true, false, ◌||◌, List, ◌↔◌, ◌⊎◌, ◌≡◌, eqb, length, take, drop}
use Prim.Native.Char.{code}
use Rattle.scan.specs.Byte.{peek_at, is_quote, is_space, is_alpha, is_alpha_numeric}
use Rattle.scan.specs.Language.{FrontOf, Longest}
use Rattle.scan.specs.Separated.{separator}
use Rattle.scan.specs.Text.{has}
use Rattle.utf8.specs.declared.Reading.{Reading}
use Rattle.utf8.specs.declared.Reading.TheVariants.{Crate, Documented}
use Rattle.numeral.specs.declared.Numeral.TheVariants.{Number, Duration, Neither}
use Rattle.numeral.specs.Numeral.{number_end, numeral_of}
use Rattle.numeral.specs.Texts.{Begun, NumberText, is_one_of, Units, DurationText}

-- a number is the longest number text that the bytes begin with
abbrev pub NumberLongest : Type 0
NumberLongest = (r : Reading) (xs : List ℕ) → Begun xs → Longest (NumberText r) xs (number_end r xs)

-- "It is a NUMBER if no letter or `.` follows.
abbrev pub IsNumber : Reading → List ℕ → ℕ → Type 0
IsNumber r xs n = Longest (NumberText r) xs n × (is_alpha (peek_at xs n) ≡ false) × (¬ (peek_at xs n ≡ code "."))

-- Else, from there, it is a DURATION if one of `smhdwy` follows, then .., and no letter or digit follows"; k bytes are the number
pub record IsDuration (r : Reading) (xs : List ℕ) (n : ℕ) : Type 0 where
  pub k : ℕ
  pub number : Longest (NumberText r) xs k
  pub plain : has separator (take k xs) ≡ false
  pub within : n ≤ length xs
  pub units : Units (drop k (take n xs))
  pub ended : is_alpha_numeric (peek_at xs n) ≡ false

-- no byte of either is a `[`
abbrev pub NoBracket : Type 0
NoBracket = (r : Reading) (xs : List ℕ) (n : ℕ) → IsNumber r xs n ⊎ IsDuration r xs n → (i : ℕ) → i < n → ¬ (peek_at xs i ≡ code "[")

-- no byte of either is white space, a quote sign, a `#` or a bracket
unfoldable pub is_apart : ℕ → Bool
is_apart c = is_space c || (is_quote c || (eqb c (code "#") || (eqb c (code "[") || eqb c (code "]"))))

abbrev pub NoneApart : Type 0
NoneApart = (r : Reading) (xs : List ℕ) (n : ℕ) → IsNumber r xs n ⊎ IsDuration r xs n → (i : ℕ) → i < n → is_apart (peek_at xs i) ≡ false

abbrev pub NumberGiven : Type 0
NumberGiven = (r : Reading) (xs : List ℕ) → Begun xs → (n : ℕ) → numeral_of r xs ≡ Number n ↔ IsNumber r xs n

abbrev pub DurationGiven : Type 0
DurationGiven = (r : Reading) (xs : List ℕ) → Begun xs → (n : ℕ) → numeral_of r xs ≡ Duration n ↔ IsDuration r xs n

-- 20 "neither number nor duration", at the "first character not taken": what is taken is the longest number text, or text that a duration begins with
abbrev pub TakenText : Reading → List ℕ → Type 0
TakenText r t = NumberText r t ⊎ FrontOf (DurationText r) t

abbrev pub IsNeither : Reading → List ℕ → ℕ → Type 0
IsNeither r xs n = ((m : ℕ) → ¬ (IsNumber r xs m)) × ((m : ℕ) → ¬ (IsDuration r xs m)) × Longest (TakenText r) xs n

abbrev pub NeitherGiven : Type 0
NeitherGiven = (r : Reading) (xs : List ℕ) → Begun xs → (n : ℕ) → numeral_of r xs ≡ Neither n ↔ IsNeither r xs n

-- In the crate reading that is the longest text that some number or duration begins with.
abbrev pub BegunText : Reading → List ℕ → Type 0
BegunText r t = FrontOf (NumberText r) t ⊎ FrontOf (DurationText r) t

-- it is neither a number nor a duration, and the longest such text has n bytes
abbrev pub BegunAlone : Reading → List ℕ → ℕ → Type 0
BegunAlone r xs n = ((m : ℕ) → ¬ (IsNumber r xs m)) × ((m : ℕ) → ¬ (IsDuration r xs m)) × Longest (BegunText r) xs n

abbrev pub CratePlace : Type 0
CratePlace = (xs : List ℕ) → Begun xs → (n : ℕ) → numeral_of Crate xs ≡ Neither n ↔ BegunAlone Crate xs n

-- In the documented reading it is the first of two places that L2 names, or that. "One underscore may stand between two digits of the same part, or
-- between a hex prefix and its first digit": an underscore is so placed that stands in a number text which the bytes begin with. Those in a duration's
-- repeats are not, since these are no part of a number.
abbrev pub SoPlaced : List ℕ → ℕ → Type 0
SoPlaced xs i = (m : ℕ) × (i < m) × (m ≤ length xs) × NumberText Documented (take m xs)

-- "20 at the first underscore not so placed, ..": it stands behind what is taken; that all before it are so placed follows from this
pub record FirstMisplaced (xs : List ℕ) (n : ℕ) : Type 0 where
  pub underscore : peek_at xs n ≡ separator
  pub misplaced : ¬ (SoPlaced xs n)
  pub first : (i : ℕ) → i < n → peek_at xs i ≡ separator → SoPlaced xs i
  pub taken : TakenText Documented (take n xs)

-- ".. or at a unit after such a number"
pub record UnitAfterSeparated (xs : List ℕ) (n : ℕ) : Type 0 where
  pub number : Longest (NumberText Documented) xs n
  pub separated : has separator (take n xs) ≡ true
  pub unit : is_one_of "smhdwy" (peek_at xs n) ≡ true

-- each of the two is given so,
abbrev pub MisplacedGiven : Type 0
MisplacedGiven =
    (xs : List ℕ) → Begun xs → (n : ℕ) → ((numeral_of Documented xs ≡ Neither n) × (peek_at xs n ≡ separator)) ↔ FirstMisplaced xs n

abbrev pub UnitGiven : Type 0
UnitGiven =
    (xs : List ℕ) → Begun xs → (n : ℕ) →
    ((numeral_of Documented xs ≡ Neither n) × (has separator (take n xs) ≡ true) × (is_one_of "smhdwy" (peek_at xs n) ≡ true)) ↔ UnitAfterSeparated xs n

-- and there is no other place
abbrev pub Unnamed : List ℕ → ℕ → Type 0
Unnamed xs n = ((m : ℕ) → ¬ (FirstMisplaced xs m)) × ((m : ℕ) → ¬ (UnitAfterSeparated xs m)) × BegunAlone Documented xs n

abbrev pub DocumentedPlace : Type 0
DocumentedPlace =
    (xs : List ℕ) → Begun xs → (n : ℕ) → numeral_of Documented xs ≡ Neither n ↔ (FirstMisplaced xs n ⊎ (UnitAfterSeparated xs n ⊎ Unnamed xs n))
