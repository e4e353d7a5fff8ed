-- The answer that the promise leaves at a telling input: a program that answers otherwise there, as the theorem's name says, cannot be
-- proved. `FUNCTION_gives` is what the promise of FUNCTION answers at arguments, which is the definition's value there.
use Prim.Native.Nat.{ℕ}
use mathlib.Core.Bool.{Bool, true, false}
use mathlib.Core.List.{List}
use mathlib.Core.Path.{◌≡◌}
use Rattle.proving.proofs.One.{Answers}
use Rattle.scan.specs.declared.byte.Class.{Class}
use Rattle.scan.specs.declared.byte.Class.TheVariants.{Digit, HexDigit}
use Rattle.scan.specs.declared.separated.Separators.{Separators}
use Rattle.scan.specs.declared.separated.Separators.TheVariants.{Never, Between, Before}
use Rattle.scan.specs.Ascii.{ascii}
use Rattle.scan.specs.Byte.{is_within, is_hex_digit, is_in}
use Rattle.scan.specs.Separated.{separated_length, separated_end, all_placed_from, all_placed}
use Rattle.scan.proofs.separated.is_all_placed.Kinds as is_all_placed
use Rattle.scan.proofs.separated.is_all_placed.Reads as is_all_placed_reads
use Rattle.scan.proofs.separated.separated_end.Kinds as separated_end_kinds
use Rattle.scan.proofs.separated.separated_end.Reads as separated_end_reads

-- what computes at a text
reading : Unit {0}
unfolding separated_length all_placed_from is_in is_within is_hex_digit
reading = tt

abbrev separated_end_gives : Class → Separators → List ℕ → ℕ → ℕ → Type 0
separated_end_gives k separators s from v =
    Answers separated_end_kinds.ps separated_end_kinds.r separated_end_reads.Post (λ κs a. (a.0 ≡ k) × (a.1.0 ≡ separators) × (a.1.1.0.now ≡ s) × (a.1.1.1.0 ≡ from)) (λ κs. v)

separated_end_at : (k : Class) (separators : Separators) (s : List ℕ) (from : ℕ) → separated_end_gives k separators s from (separated_end (is_in k) separators s from)
separated_end_at k separators s from κs a x e p h = cc (p, h.0, h.1, h.2, h.3)

pub separator_stands_between_digits : separated_end_gives Digit Between (ascii "1_0_2m") 0 5
unfolding reading
separator_stands_between_digits = separated_end_at _ _ _ _

pub without_separators_it_ends_the_run : separated_end_gives Digit Never (ascii "1_0") 0 1
unfolding reading
without_separators_it_ends_the_run = separated_end_at _ _ _ _

pub two_separators_end_the_run : separated_end_gives Digit Between (ascii "1__0") 0 1
unfolding reading
two_separators_end_the_run = separated_end_at _ _ _ _

pub separator_at_the_end_ends_the_run : separated_end_gives Digit Between (ascii "1_") 0 1
unfolding reading
separator_at_the_end_ends_the_run = separated_end_at _ _ _ _

pub no_separator_stands_before_the_first_digit : separated_end_gives Digit Between (ascii "._5") 1 1
unfolding reading
no_separator_stands_before_the_first_digit = separated_end_at _ _ _ _

pub one_stands_behind_a_prefix : separated_end_gives HexDigit Before (ascii "0x_1f") 2 5
unfolding reading
one_stands_behind_a_prefix = separated_end_at _ _ _ _

pub two_do_not_stand_behind_a_prefix : separated_end_gives HexDigit Before (ascii "0x__1") 2 2
unfolding reading
two_do_not_stand_behind_a_prefix = separated_end_at _ _ _ _

pub letter_of_the_radix_is_a_digit : separated_end_gives HexDigit Before (ascii "0x1_e") 2 5
unfolding reading
letter_of_the_radix_is_a_digit = separated_end_at _ _ _ _

abbrev is_all_placed_gives : Class → Separators → List ℕ → Bool → Type 0
is_all_placed_gives k separators s v =
    Answers is_all_placed.ps is_all_placed.r is_all_placed_reads.Post (λ κs a. (a.0 ≡ k) × (a.1.0 ≡ separators) × (a.1.1.0.now ≡ s)) (λ κs. v)

is_all_placed_at : (k : Class) (separators : Separators) (s : List ℕ) → is_all_placed_gives k separators s (all_placed (is_in k) separators s)
is_all_placed_at k separators s κs a x e p h = cc (p, h.0, h.1, h.2)

pub each_part_may_have_separators : is_all_placed_gives Digit Between (ascii "1_0.5_0e-1_0") true
unfolding reading
each_part_may_have_separators = is_all_placed_at _ _ _

pub one_of_many_that_is_not_placed_counts : is_all_placed_gives Digit Between (ascii "1_0e_5") false
unfolding reading
one_of_many_that_is_not_placed_counts = is_all_placed_at _ _ _

pub one_stands_before_the_first_digit_only_at_the_front : is_all_placed_gives HexDigit Before (ascii "-_5") false
unfolding reading
one_stands_before_the_first_digit_only_at_the_front = is_all_placed_at _ _ _

pub last_byte_is_no_placed_separator : is_all_placed_gives Digit Between (ascii "1_") false
unfolding reading
last_byte_is_no_placed_separator = is_all_placed_at _ _ _

pub where_none_may_stand_none_is_placed : is_all_placed_gives Digit Never (ascii "1_0") false
unfolding reading
where_none_may_stand_none_is_placed = is_all_placed_at _ _ _

pub text_without_separators_has_all_placed : is_all_placed_gives Digit Never (ascii "x1") true
unfolding reading
text_without_separators_has_all_placed = is_all_placed_at _ _ _
