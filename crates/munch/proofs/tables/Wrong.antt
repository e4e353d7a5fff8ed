-- The answer that each promise leaves at a telling input: a program that answers otherwise there, as the theorem's name says, cannot be
-- proved. `FUNCTION_gives` is what the promise of FUNCTION answers at arguments, which is the definition's value there.
use Rattle.std.specs.Prelude.{ℕ, false, true, List, ◌≡◌, None, Option, Some}
use Rattle.std.proofs.Common.{ap, ◌∙◌, get_or}
use Prim.Native.Char.{code}
use Rattle.scan.specs.Ascii.{ascii}
use Rattle.proving.proofs.One.{Answers, Shows}
use Rattle.utf8.specs.declared.Reading.{Reading}
use Rattle.utf8.specs.declared.Reading.TheVariants.{Crate}
use Rattle.token.specs.Kinds.{identifier, lor, number, sum}
use Rattle.token.specs.Words.{keyword_of}
use Rattle.munch.specs.declared.Inside.TheVariants.{Nothing, Braces, Brackets}
use Rattle.munch.specs.declared.Mode.{Mode}
use Rattle.munch.specs.declared.Step.{Step}
use Rattle.munch.specs.declared.Step.TheVariants.{Lexeme, Refused, Finished}
use Rattle.munch.specs.Munch.{mode, outside, munched}
use Rattle.munch.specs.steps.Leads.{lead_table, letter_lead, white_lead}
use Rattle.munch.proofs.Wrong.{munching}
use Rattle.munch.proofs.tables.Tables.new.Kinds as new_kinds
use Rattle.munch.proofs.tables.Tables.new.Reads as new_reads
use Rattle.munch.proofs.tables.Tables.outside.Kinds as outside_kinds
use Rattle.munch.proofs.tables.Tables.outside.Reads as outside_reads
use Rattle.munch.proofs.tables.Tables.in_braces.Kinds as in_braces_kinds
use Rattle.munch.proofs.tables.Tables.in_braces.Reads as in_braces_reads
use Rattle.munch.proofs.tables.Tables.step.Kinds as step_kinds
use Rattle.munch.proofs.tables.Tables.step.Reads as step_reads
use Rattle.munch.proofs.tables.Tables.keyword.Kinds as keyword_kinds
use Rattle.munch.proofs.tables.Tables.keyword.Reads as keyword_reads

-- of the lead of a byte
abbrev new_shows : ℕ → ℕ → Type 0
new_shows i v = Shows new_kinds.ps new_kinds.r new_reads.Post (λ κs a. Unit {0}) (λ κs x. get_or x.0 i 0) v

new_at : (i : ℕ) → new_shows i (get_or lead_table i 0)
new_at i κs a x e p h = ap (λ (t : List ℕ × List ℕ). get_or t.0 i 0) p

pub letter_has_the_lead_of_letters : new_shows (code "a") letter_lead
unfolding munching
letter_has_the_lead_of_letters = new_at _

pub space_has_the_lead_of_white_space : new_shows (code " ") white_lead
unfolding munching
space_has_the_lead_of_white_space = new_at _

abbrev outside_gives : Reading → List ℕ → ℕ → Step → Type 0
outside_gives r xs d v = Answers outside_kinds.ps outside_kinds.r outside_reads.Post (λ κs a. (a.1.0.now ≡ xs) × (a.1.1.0 ≡ r) × (a.1.1.1.0 ≡ d)) (λ κs. v)

outside_at : (r : Reading) (xs : List ℕ) (d : ℕ) → outside_gives r xs d (munched r (mode d Nothing) xs)
outside_at r xs d κs a x e p h = cc (p, h.0, h.1, h.2)

pub word_outside_has_its_kind : outside_gives Crate (ascii "or") 0 (Lexeme lor 2 outside)
unfolding munching
word_outside_has_its_kind = outside_at _ _ _

pub end_in_parens_is_refused : outside_gives Crate (ascii "") 1 (Refused 10 0)
unfolding munching
end_in_parens_is_refused = outside_at _ _ _

abbrev in_braces_gives : Reading → List ℕ → ℕ → Step → Type 0
in_braces_gives r xs d v = Answers in_braces_kinds.ps in_braces_kinds.r in_braces_reads.Post (λ κs a. (a.1.0.now ≡ xs) × (a.1.1.0 ≡ r) × (a.1.1.1.0 ≡ d)) (λ κs. v)

in_braces_at : (r : Reading) (xs : List ℕ) (d : ℕ) → in_braces_gives r xs d (munched r (mode d Braces) xs)
in_braces_at r xs d κs a x e p h = cc (p, h.0, h.1, h.2)

pub word_in_braces_is_an_identifier : in_braces_gives Crate (ascii "or") 0 (Lexeme identifier 2 (mode 0 Braces))
unfolding munching
word_in_braces_is_an_identifier = in_braces_at _ _ _

pub end_in_braces_is_refused : in_braces_gives Crate (ascii "") 0 (Refused 27 0)
unfolding munching
end_in_braces_is_refused = in_braces_at _ _ _

abbrev step_gives : Reading → List ℕ → Mode → Step → Type 0
step_gives r xs m v = Answers step_kinds.ps step_kinds.r step_reads.Post (λ κs a. (a.1.0.now ≡ xs) × (a.1.1.0 ≡ r) × (a.1.1.1.0 ≡ m)) (λ κs. v)

step_at : (r : Reading) (xs : List ℕ) (m : Mode) → step_gives r xs m (munched r m xs)
step_at r xs m κs a x e p h = cc (p, h.0, h.1, h.2)

pub step_in_brackets_takes_a_number : step_gives Crate (ascii "5") (mode 0 (Brackets false true)) (Lexeme number 1 (mode 0 (Brackets false false)))
unfolding munching
step_in_brackets_takes_a_number = step_at _ _ _

pub step_outside_is_finished_at_the_end : step_gives Crate (ascii "") outside Finished
unfolding munching
step_outside_is_finished_at_the_end = step_at _ _ _

abbrev keyword_gives : List ℕ → Option ℕ → Type 0
keyword_gives xs v = Answers keyword_kinds.ps keyword_kinds.r keyword_reads.Post (λ κs a. a.1.0.now ≡ xs) (λ κs. v)

keyword_at : (xs : List ℕ) → keyword_gives xs (keyword_of xs)
keyword_at xs κs a x e p h = p ∙ ap keyword_of h

pub capitals_are_a_word_of_the_tables : keyword_gives (ascii "SUM") (Some sum)
unfolding munching
capitals_are_a_word_of_the_tables = keyword_at _

pub other_word_has_no_kind : keyword_gives (ascii "sums") None
unfolding munching
other_word_has_no_kind = keyword_at _
