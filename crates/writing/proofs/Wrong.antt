-- The answer and the content of the list that each promise leaves at a telling input: a program that does otherwise there, as the
-- theorem's name says, cannot be proved. `FUNCTION_gives` and `FUNCTION_leaves_out` say what, at the list, the place and what is written.
use Prim.Native.Nat.{ℕ}
use mathlib.Core.List.{List}
use mathlib.Core.Path.{◌≡◌}
use Rattle.scan.specs.Ascii.{ascii}
use Rattle.proving.proofs.One.{Answers, Leaves}
use Rattle.writing.specs.Decimal.{digit_for, digits_within, decimal_text}
use Rattle.writing.specs.Put.{put_at, past_at}
use Rattle.writing.proofs.put_text.Kinds as put_text
use Rattle.writing.proofs.put_text.Reads as put_text_reads
use Rattle.writing.proofs.put_decimal.Kinds as put_decimal
use Rattle.writing.proofs.put_decimal.Reads as put_decimal_reads

abbrev put_text_gives : List ℕ → ℕ → List ℕ → ℕ → Type 0
put_text_gives out at text v =
    Answers put_text.ps put_text.r put_text_reads.Post (λ κs a. (a.0.now ≡ out) × (a.1.0 ≡ at) × (a.1.1.0.now ≡ text)) (λ κs. v)

put_text_at : (out : List ℕ) (at : ℕ) (text : List ℕ) → put_text_gives out at text (past_at out at text)
unfolding past_at put_at
put_text_at out at text κs a x e p h = cc (p.0, h.0, h.1, h.2)

pub place_past_the_text_is_told : put_text_gives (ascii "....") 1 (ascii "ab") 3
unfolding put_text_at
place_past_the_text_is_told = put_text_at _ _ _

pub text_that_fills_the_list_fits : put_text_gives (ascii "...") 1 (ascii "ab") 3
unfolding put_text_at
text_that_fills_the_list_fits = put_text_at _ _ _

pub text_that_does_not_fit_moves_nothing : put_text_gives (ascii "..") 1 (ascii "ab") 1
unfolding put_text_at
text_that_does_not_fit_moves_nothing = put_text_at _ _ _

abbrev put_text_leaves_out : List ℕ → ℕ → List ℕ → List ℕ → Type 0
put_text_leaves_out out at text v =
    Leaves put_text.ps put_text.r put_text_reads.Post (λ κs a. (a.0.now ≡ out) × (a.1.0 ≡ at) × (a.1.1.0.now ≡ text)) (λ κs e. e.0.now) v

put_text_left_out : (out : List ℕ) (at : ℕ) (text : List ℕ) → put_text_leaves_out out at text (put_at out at text)
put_text_left_out out at text κs a x e p h = cc (p.1, h.0, h.1, h.2)

pub text_stands_at_its_place_and_the_rest_stays : put_text_leaves_out (ascii "....") 1 (ascii "ab") (ascii ".ab.")
unfolding put_text_at
text_stands_at_its_place_and_the_rest_stays = put_text_left_out _ _ _

pub text_that_does_not_fit_leaves_the_list : put_text_leaves_out (ascii "..") 1 (ascii "ab") (ascii "..")
unfolding put_text_at
text_that_does_not_fit_leaves_the_list = put_text_left_out _ _ _

abbrev put_decimal_gives : List ℕ → ℕ → ℕ → ℕ → Type 0
put_decimal_gives out at n v =
    Answers put_decimal.ps put_decimal.r put_decimal_reads.Post (λ κs a. (a.0.now ≡ out) × (a.1.0 ≡ at) × (a.1.1.0 ≡ n)) (λ κs. v)

put_decimal_at : (out : List ℕ) (at n : ℕ) → put_decimal_gives out at n (past_at out at (decimal_text n))
unfolding past_at put_at decimal_text digits_within digit_for
put_decimal_at out at n κs a x e p h = cc (p.0, h.0, h.1, h.2)

pub largest_number_has_twenty_digits : put_decimal_gives (ascii ".....................") 1 18446744073709551615 21
unfolding put_decimal_at
largest_number_has_twenty_digits = put_decimal_at _ _ _

abbrev put_decimal_leaves_out : List ℕ → ℕ → ℕ → List ℕ → Type 0
put_decimal_leaves_out out at n v =
    Leaves put_decimal.ps put_decimal.r put_decimal_reads.Post (λ κs a. (a.0.now ≡ out) × (a.1.0 ≡ at) × (a.1.1.0 ≡ n)) (λ κs e. e.0.now) v

put_decimal_left_out : (out : List ℕ) (at n : ℕ) → put_decimal_leaves_out out at n (put_at out at (decimal_text n))
put_decimal_left_out out at n κs a x e p h = cc (p.1, h.0, h.1, h.2)

pub digits_are_those_of_base_ten : put_decimal_leaves_out (ascii "....") 0 109 (ascii "109.")
unfolding put_decimal_at
digits_are_those_of_base_ten = put_decimal_left_out _ _ _

pub zero_is_one_digit : put_decimal_leaves_out (ascii "...") 1 0 (ascii ".0.")
unfolding put_decimal_at
zero_is_one_digit = put_decimal_left_out _ _ _

pub number_that_does_not_fit_leaves_the_list : put_decimal_leaves_out (ascii "..") 1 10 (ascii "..")
unfolding put_decimal_at
number_that_does_not_fit_leaves_the_list = put_decimal_left_out _ _ _
