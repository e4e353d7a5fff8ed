-- What document 02's L2 changes in number texts, and what it leaves, as statements. `proofs/Readings` has the proofs.
use Rattle.std.specs.Prelude.{◌≡◌, ℕ, ◌↔◌, List, Err, Ok}
use Rattle.scan.specs.Separated.{separator, without_separators}
use Rattle.scan.specs.Text.{Stands}
use Rattle.utf8.specs.declared.Reading.{Reading}
use Rattle.utf8.specs.declared.Reading.TheVariants.{Crate, Documented}
use Rattle.utf8.specs.laws.Refusals.{Taken}
use Rattle.decimal.specs.declared.Number.{Number}
use Rattle.decimal.specs.Value.{decimal_limit}
use Rattle.number.specs.White.{plain_text}
use Rattle.number.specs.Number.{not_number, number_of, number_in, parsing_of}
use Rattle.number.specs.laws.Refusals.{SeparatorsPlaced}

-- by document 01's rule no text with a separator is a number
abbrev pub SeparatorRefused : Type 0
SeparatorRefused = (t : List ℕ) → Stands separator t → number_of t ≡ Err not_number

-- "The crate reading still refuses all this": it is what it was, and there a separator is placed nowhere
abbrev pub CrateAsBefore : Type 0
CrateAsBefore = (t : List ℕ) → number_in Crate t ≡ number_of t

abbrev pub CrateNone : Type 0
CrateNone = (t : List ℕ) → SeparatorsPlaced Crate t ↔ (¬ (Stands separator t))

-- "has no effect on the value": where its separators are so placed, a text is answered as the crate reading answers the text without them, be that
-- a number, 53, 60 or 61. They are judged on the text without white space and in lower case
abbrev pub NoEffect : Type 0
NoEffect =
    (r : Reading) (xs : List ℕ) → Taken decimal_limit xs → SeparatorsPlaced r (plain_text xs) →
    parsing_of r xs ≡ parsing_of Crate (without_separators xs)

-- so a text is a number exactly where its separators are so placed and it is one without them, by document 01's rule, and is that number
abbrev pub SeparatorsAside : Type 0
SeparatorsAside =
    (r : Reading) (xs : List ℕ) (n : Number) →
    let t = plain_text xs in
    parsing_of r xs ≡ Ok n ↔ Taken decimal_limit xs × SeparatorsPlaced r t × (number_of (without_separators t) ≡ Ok n)

-- a text without separators is read by document 01's rule in each reading, so in both alike
abbrev pub WithoutAsBefore : Type 0
WithoutAsBefore = (r : Reading) (t : List ℕ) → (¬ (Stands separator t)) → number_in r t ≡ number_of t

abbrev pub WithoutAlike : Type 0
WithoutAlike = (xs : List ℕ) → (¬ (Stands separator (plain_text xs))) → parsing_of Crate xs ≡ parsing_of Documented xs
