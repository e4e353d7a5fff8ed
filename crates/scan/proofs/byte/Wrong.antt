-- The answer that each promise leaves at a telling input: a program that answers otherwise there, as the theorem's name says, cannot be
-- proved. `FUNCTION_gives` is what the promise of FUNCTION answers at arguments, which is the definition's value there.
use Prim.Native.Nat.{ℕ}
use Prim.Native.Char.{code}
use mathlib.Core.Bool.{Bool, true, false}
use mathlib.Core.List.{List}
use mathlib.Core.Path.{◌≡◌, ap, ap₂, ◌∙◌}
use Rattle.scan.specs.declared.byte.Class.{Class}
use Rattle.scan.specs.declared.byte.Class.TheVariants.{Alpha, Digit, Word, Line}
use Rattle.scan.specs.Ascii.{ascii}
use Rattle.scan.specs.Byte.{peek_at, is_within, is_space, is_alpha, is_digit, is_hex_digit, digit_of, is_digit_in, lowered, is_alpha_numeric, is_word, is_line, is_in, is_quote}
use Rattle.proving.proofs.One.{Answers}
use Rattle.scan.proofs.byte.peek.Kinds as peek
use Rattle.scan.proofs.byte.peek.Reads as peek_reads
use Rattle.scan.proofs.byte.is_within.Kinds as is_within_kinds
use Rattle.scan.proofs.byte.is_within.Reads as is_within_reads
use Rattle.scan.proofs.byte.is_space.Kinds as is_space_kinds
use Rattle.scan.proofs.byte.is_space.Reads as is_space_reads
use Rattle.scan.proofs.byte.is_quote.Kinds as is_quote_kinds
use Rattle.scan.proofs.byte.is_quote.Reads as is_quote_reads
use Rattle.scan.proofs.byte.is_alpha.Kinds as is_alpha_kinds
use Rattle.scan.proofs.byte.is_alpha.Reads as is_alpha_reads
use Rattle.scan.proofs.byte.is_digit.Kinds as is_digit_kinds
use Rattle.scan.proofs.byte.is_digit.Reads as is_digit_reads
use Rattle.scan.proofs.byte.is_hex_digit.Kinds as is_hex_digit_kinds
use Rattle.scan.proofs.byte.is_hex_digit.Reads as is_hex_digit_reads
use Rattle.scan.proofs.byte.digit_of.Kinds as digit_of_kinds
use Rattle.scan.proofs.byte.digit_of.Reads as digit_of_reads
use Rattle.scan.proofs.byte.is_digit_in.Kinds as is_digit_in_kinds
use Rattle.scan.proofs.byte.is_digit_in.Reads as is_digit_in_reads
use Rattle.scan.proofs.byte.lowered.Kinds as lowered
use Rattle.scan.proofs.byte.lowered.Reads as lowered_reads
use Rattle.scan.proofs.byte.is_alpha_numeric.Kinds as is_alpha_numeric_kinds
use Rattle.scan.proofs.byte.is_alpha_numeric.Reads as is_alpha_numeric_reads
use Rattle.scan.proofs.byte.is_word.Kinds as is_word_kinds
use Rattle.scan.proofs.byte.is_word.Reads as is_word_reads
use Rattle.scan.proofs.byte.is_line.Kinds as is_line_kinds
use Rattle.scan.proofs.byte.is_line.Reads as is_line_reads
use Rattle.scan.proofs.byte.is_in.Kinds as is_in_kinds
use Rattle.scan.proofs.byte.is_in.Reads as is_in_reads

abbrev peek_gives : List ℕ → ℕ → ℕ → Type 0
peek_gives s i v = Answers peek.ps peek.r peek_reads.Post (λ κs a. (a.0.now ≡ s) × (a.1.0 ≡ i)) (λ κs. v)

peek_gives_at : (s : List ℕ) (i : ℕ) → peek_gives s i (peek_at s i)
peek_gives_at s i κs a x e p h = p ∙ ap₂ peek_at h.0 h.1

pub end_is_no_byte : peek_gives (ascii "a") 1 256
end_is_no_byte = peek_gives_at _ _

pub peek_moves : peek_gives (ascii "ab") 1 (code "b")
peek_moves = peek_gives_at _ _

abbrev is_within_gives : ℕ → ℕ → ℕ → Bool → Type 0
is_within_gives lo hi c v =
    Answers is_within_kinds.ps is_within_kinds.r is_within_reads.Post (λ κs a. (a.0 ≡ lo) × (a.1.0 ≡ hi) × (a.1.1.0 ≡ c)) (λ κs. v)

is_within_at : (lo hi c : ℕ) → is_within_gives lo hi c (is_within lo hi c)
is_within_at lo hi c κs a x e p h = cc (p, h.0, h.1, h.2)

pub first_is_within : is_within_gives 3 5 3 true
unfolding is_within
first_is_within = is_within_at _ _ _

pub last_is_within : is_within_gives 3 5 5 true
unfolding is_within
last_is_within = is_within_at _ _ _

abbrev is_space_gives : ℕ → Bool → Type 0
is_space_gives c v = Answers is_space_kinds.ps is_space_kinds.r is_space_reads.Post (λ κs a. a.0 ≡ c) (λ κs. v)

is_space_at : (c : ℕ) → is_space_gives c (is_space c)
is_space_at c κs a x e p h = p ∙ ap is_space h

pub vertical_tab_is_no_space : is_space_gives 11 false
unfolding is_space
vertical_tab_is_no_space = is_space_at _

pub tab_is_space : is_space_gives 9 true
unfolding is_space
tab_is_space = is_space_at _

abbrev is_alpha_gives : ℕ → Bool → Type 0
is_alpha_gives c v = Answers is_alpha_kinds.ps is_alpha_kinds.r is_alpha_reads.Post (λ κs a. a.0 ≡ c) (λ κs. v)

is_alpha_at : (c : ℕ) → is_alpha_gives c (is_alpha c)
is_alpha_at c κs a x e p h = p ∙ ap is_alpha h

pub hyphen_is_no_letter : is_alpha_gives (code "-") false
unfolding is_alpha is_within
hyphen_is_no_letter = is_alpha_at _

pub at_sign_is_no_letter : is_alpha_gives (code "@") false
unfolding is_alpha is_within
at_sign_is_no_letter = is_alpha_at _

pub underscore_is_a_letter : is_alpha_gives (code "_") true
unfolding is_alpha is_within
underscore_is_a_letter = is_alpha_at _

abbrev is_digit_gives : ℕ → Bool → Type 0
is_digit_gives c v = Answers is_digit_kinds.ps is_digit_kinds.r is_digit_reads.Post (λ κs a. a.0 ≡ c) (λ κs. v)

is_digit_at : (c : ℕ) → is_digit_gives c (is_digit c)
is_digit_at c κs a x e p h = p ∙ ap is_digit h

pub colon_is_no_digit : is_digit_gives (code ":") false
unfolding is_within
colon_is_no_digit = is_digit_at _

pub zero_is_a_digit : is_digit_gives (code "0") true
unfolding is_within
zero_is_a_digit = is_digit_at _

abbrev is_hex_digit_gives : ℕ → Bool → Type 0
is_hex_digit_gives c v = Answers is_hex_digit_kinds.ps is_hex_digit_kinds.r is_hex_digit_reads.Post (λ κs a. a.0 ≡ c) (λ κs. v)

is_hex_digit_at : (c : ℕ) → is_hex_digit_gives c (is_hex_digit c)
is_hex_digit_at c κs a x e p h = p ∙ ap is_hex_digit h

pub g_is_no_hex_digit : is_hex_digit_gives (code "g") false
unfolding is_hex_digit is_within
g_is_no_hex_digit = is_hex_digit_at _

pub capital_f_is_a_hex_digit : is_hex_digit_gives (code "F") true
unfolding is_hex_digit is_within
capital_f_is_a_hex_digit = is_hex_digit_at _

abbrev digit_of_gives : ℕ → ℕ → Type 0
digit_of_gives c v = Answers digit_of_kinds.ps digit_of_kinds.r digit_of_reads.Post (λ κs a. a.0 ≡ c) (λ κs. v)

digit_of_at : (c : ℕ) → digit_of_gives c (digit_of c)
digit_of_at c κs a x e p h = p ∙ ap digit_of h

pub a_stands_for_ten : digit_of_gives (code "a") 10
unfolding digit_of is_within
a_stands_for_ten = digit_of_at _

pub zero_stands_for_nothing : digit_of_gives (code "0") 0
unfolding digit_of is_within
zero_stands_for_nothing = digit_of_at _

abbrev is_digit_in_gives : ℕ → ℕ → Bool → Type 0
is_digit_in_gives radix c v =
    Answers is_digit_in_kinds.ps is_digit_in_kinds.r is_digit_in_reads.Post (λ κs a. (a.0 ≡ radix) × (a.1.0 ≡ c)) (λ κs. v)

is_digit_in_at : (radix c : ℕ) → is_digit_in_gives radix c (is_digit_in radix c)
is_digit_in_at radix c κs a x e p h = p ∙ ap₂ is_digit_in h.0 h.1

pub eight_is_no_octal_digit : is_digit_in_gives 8 (code "8") false
unfolding is_digit_in is_hex_digit digit_of is_within
eight_is_no_octal_digit = is_digit_in_at _ _

-- 16, the radix, is no digit itself
pub byte_looked_at_for_the_radix : is_digit_in_gives 16 (code "a") true
unfolding is_digit_in is_hex_digit digit_of is_within
byte_looked_at_for_the_radix = is_digit_in_at _ _

abbrev lowered_gives : ℕ → ℕ → Type 0
lowered_gives c v = Answers lowered.ps lowered.r lowered_reads.Post (λ κs a. a.0 ≡ c) (λ κs. v)

lowered_at : (c : ℕ) → lowered_gives c (lowered c)
lowered_at c κs a x e p h = p ∙ ap lowered h

pub bracket_is_not_lowered : lowered_gives (code "[") (code "[")
unfolding lowered is_within
bracket_is_not_lowered = lowered_at _

pub capital_a_is_lowered_to_a : lowered_gives (code "A") (code "a")
unfolding lowered is_within
capital_a_is_lowered_to_a = lowered_at _

abbrev is_alpha_numeric_gives : ℕ → Bool → Type 0
is_alpha_numeric_gives c v = Answers is_alpha_numeric_kinds.ps is_alpha_numeric_kinds.r is_alpha_numeric_reads.Post (λ κs a. a.0 ≡ c) (λ κs. v)

is_alpha_numeric_at : (c : ℕ) → is_alpha_numeric_gives c (is_alpha_numeric c)
is_alpha_numeric_at c κs a x e p h = p ∙ ap is_alpha_numeric h

pub digit_goes_on_with_a_label : is_alpha_numeric_gives (code "0") true
unfolding is_alpha_numeric is_alpha is_within
digit_goes_on_with_a_label = is_alpha_numeric_at _

pub letter_goes_on_with_a_label : is_alpha_numeric_gives (code "a") true
unfolding is_alpha_numeric is_alpha is_within
letter_goes_on_with_a_label = is_alpha_numeric_at _

abbrev is_word_gives : ℕ → Bool → Type 0
is_word_gives c v = Answers is_word_kinds.ps is_word_kinds.r is_word_reads.Post (λ κs a. a.0 ≡ c) (λ κs. v)

is_word_at : (c : ℕ) → is_word_gives c (is_word c)
is_word_at c κs a x e p h = p ∙ ap is_word h

pub semicolon_is_in_no_word : is_word_gives (code ";") false
unfolding is_word is_alpha_numeric is_alpha is_within
semicolon_is_in_no_word = is_word_at _

pub colon_is_in_words : is_word_gives (code ":") true
unfolding is_word is_alpha_numeric is_alpha is_within
colon_is_in_words = is_word_at _

pub letter_is_in_words : is_word_gives (code "a") true
unfolding is_word is_alpha_numeric is_alpha is_within
letter_is_in_words = is_word_at _

abbrev is_line_gives : ℕ → Bool → Type 0
is_line_gives c v = Answers is_line_kinds.ps is_line_kinds.r is_line_reads.Post (λ κs a. a.0 ≡ c) (λ κs. v)

is_line_at : (c : ℕ) → is_line_gives c (is_line c)
is_line_at c κs a x e p h = p ∙ ap is_line h

pub line_ends_at_lf : is_line_gives 10 false
unfolding is_line
line_ends_at_lf = is_line_at _

pub line_ends_at_the_end : is_line_gives 256 false
unfolding is_line
line_ends_at_the_end = is_line_at _

abbrev is_in_gives : Class → ℕ → Bool → Type 0
is_in_gives k c v = Answers is_in_kinds.ps is_in_kinds.r is_in_reads.Post (λ κs a. (a.0 ≡ k) × (a.1.0 ≡ c)) (λ κs. v)

is_in_at : (k : Class) (c : ℕ) → is_in_gives k c (is_in k c)
is_in_at k c κs a x e p h = p ∙ ap₂ is_in h.0 h.1

pub letter_is_in_the_class_of_letters : is_in_gives Alpha (code "a") true
unfolding is_in is_alpha is_within
letter_is_in_the_class_of_letters = is_in_at _ _

pub letter_is_not_in_the_class_of_digits : is_in_gives Digit (code "a") false
unfolding is_in is_within
letter_is_not_in_the_class_of_digits = is_in_at _ _

pub space_is_not_in_the_class_of_words : is_in_gives Word 32 false
unfolding is_in is_word is_alpha_numeric is_alpha is_within
space_is_not_in_the_class_of_words = is_in_at _ _

pub space_is_in_the_class_of_lines : is_in_gives Line 32 true
unfolding is_in is_line
space_is_in_the_class_of_lines = is_in_at _ _

abbrev is_quote_gives : ℕ → Bool → Type 0
is_quote_gives c v = Answers is_quote_kinds.ps is_quote_kinds.r is_quote_reads.Post (λ κs a. a.0 ≡ c) (λ κs. v)

is_quote_at : (c : ℕ) → is_quote_gives c (is_quote c)
is_quote_at c κs a x e p h = p ∙ ap is_quote h

pub backquote_opens_a_string : is_quote_gives (code "`") true
unfolding is_quote
backquote_opens_a_string = is_quote_at _

pub comma_opens_no_string : is_quote_gives (code ",") false
unfolding is_quote
comma_opens_no_string = is_quote_at _
