-- The answer that each promise leaves at a telling input: a program that answers otherwise there, as the theorem's name says, cannot be
-- proved. `FUNCTION_gives` is what the promise of FUNCTION answers at arguments, which is the definition's value there.
use Prim.Native.Nat.{ℕ}
use Prim.Native.Char.{code}
use mathlib.Core.Bool.{Bool, true, false}
use mathlib.Core.List.{List}
use mathlib.Core.Path.{◌≡◌, ap₂, ◌∙◌}
use Rattle.scan.specs.declared.byte.Class.{Class}
use Rattle.scan.specs.declared.byte.Class.TheVariants.{Digit}
use Rattle.scan.specs.Ascii.{ascii}
use Rattle.scan.specs.Byte.{is_within, is_in}
use Rattle.proving.proofs.One.{Answers}
use Rattle.scan.specs.Run.{run_length, run_end}
use Rattle.scan.specs.Text.{same_text, has}
use Rattle.scan.proofs.run_end.Kinds as run_end_kinds
use Rattle.scan.proofs.run_end.Reads as run_end_reads
use Rattle.scan.proofs.is_text.Kinds as is_text
use Rattle.scan.proofs.is_text.Reads as is_text_reads
use Rattle.scan.proofs.contains.Kinds as contains
use Rattle.scan.proofs.contains.Reads as contains_reads

abbrev run_end_gives : Class → List ℕ → ℕ → ℕ → Type 0
run_end_gives k s from v =
    Answers run_end_kinds.ps run_end_kinds.r run_end_reads.Post (λ κs a. (a.0 ≡ k) × (a.1.0.now ≡ s) × (a.1.1.0 ≡ from)) (λ κs. v)

run_end_at : (k : Class) (s : List ℕ) (from : ℕ) → run_end_gives k s from (run_end (is_in k) s from)
run_end_at k s from κs a x e p h = cc (p, h.0, h.1, h.2)

pub run_ends_at_the_first_other_byte : run_end_gives Digit (ascii "1a1") 0 1
unfolding run_length is_in is_within
run_ends_at_the_first_other_byte = run_end_at _ _ _

pub run_starts_at_the_place : run_end_gives Digit (ascii "a1") 1 2
unfolding run_length is_in is_within
run_starts_at_the_place = run_end_at _ _ _

pub run_of_no_bytes_ends_where_it_starts : run_end_gives Digit (ascii "1a") 1 1
unfolding run_length is_in is_within
run_of_no_bytes_ends_where_it_starts = run_end_at _ _ _

abbrev is_text_gives : List ℕ → List ℕ → Bool → Type 0
is_text_gives s w v = Answers is_text.ps is_text.r is_text_reads.Post (λ κs a. (a.0.now ≡ s) × (a.1.0.now ≡ w)) (λ κs. v)

is_text_at : (s w : List ℕ) → is_text_gives s w (same_text s w)
is_text_at s w κs a x e p h = p ∙ ap₂ same_text h.0 h.1

pub beginning_of_a_word_is_not_the_word : is_text_gives (ascii "a") (ascii "ab") false
unfolding same_text
beginning_of_a_word_is_not_the_word = is_text_at _ _

pub second_byte_is_compared : is_text_gives (ascii "aa") (ascii "ab") false
unfolding same_text
second_byte_is_compared = is_text_at _ _

pub text_is_itself : is_text_gives (ascii "ab") (ascii "ab") true
unfolding same_text
text_is_itself = is_text_at _ _

abbrev contains_gives : List ℕ → ℕ → Bool → Type 0
contains_gives s c v = Answers contains.ps contains.r contains_reads.Post (λ κs a. (a.0.now ≡ s) × (a.1.0 ≡ c)) (λ κs. v)

contains_at : (s : List ℕ) (c : ℕ) → contains_gives s c (has c s)
contains_at s c κs a x e p h = p ∙ ap₂ has h.1 h.0

pub another_byte_is_not_the_byte : contains_gives (ascii "a") (code "b") false
unfolding has
another_byte_is_not_the_byte = contains_at _ _

pub byte_is_found_behind_the_first : contains_gives (ascii "ab") (code "b") true
unfolding has
byte_is_found_behind_the_first = contains_at _ _
