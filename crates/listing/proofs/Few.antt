-- No number has more digits than its type gives it, so that a lexeme and a refusal have no more bytes than there is room for.
use Prim.Native.Nat.{ℕ, ◌+◌, ◌^◌, ◌≤◌, ◌<◌}
use native.Mathlib.Omega.{arith}
use mathlib.Core.Path.{◌≡◌}
use mathlib.Core.List.{List, ◌++◌}
use lib.ListN.{length, length-append}
use Rattle.std.specs.Prelude.{Err}
use Rattle.scan.specs.Ascii.{ascii}
use Rattle.utf8.specs.declared.Reading.TheVariants.{Crate}
use Rattle.utf8.specs.declared.Refusal.{Refusal}
use Rattle.writing.specs.Decimal.{most_digits, decimal_text}
use Rattle.writing.proofs.Decimals.{digits_below, digits_few}
use Rattle.lex.specs.Outcome.{entry}
use Rattle.lex.specs.Lex.{lexed}
use Rattle.lex.specs.laws.Bounds.{LexingWithin}
use Rattle.lex.proofs.Bounds.{lexing_bounded}
use Rattle.listing.specs.Listing.{longest_lexeme, longest_line, number_then, numbers, refusal, lexeme_text}

-- how many digits stand before the last, in a number of 16, of 32 and of 64 bits
abbrev before16 : ℕ
before16 = 4

abbrev before32 : ℕ
before32 = 9

abbrev before64 : ℕ
before64 = 19

-- a number of so many digits before the last
number_few : (k n : ℕ) (after : List ℕ) → n < 10 ^ (k + 1) → length (number_then n after) ≤ k + 1 + length after
number_few k n after h = omega (arith, length-append (decimal_text n) after, digits_below k n h)

-- any number
pub number_most : (n : ℕ) (after : List ℕ) → n < 2 ^ 64 → length (number_then n after) ≤ most_digits + length after
number_most n after h = omega (arith, length-append (decimal_text n) after, digits_few n h)

-- three numbers
numbers_few : (i j k a b c : ℕ) → a < 10 ^ (i + 1) → b < 10 ^ (j + 1) → c < 10 ^ (k + 1) → length (numbers a b c) ≤ i + j + k + 6
numbers_few i j k a b c f g h =
    let first = number_then a (ascii " ") in
    let second = number_then b (ascii " ") in
    let third = number_then c (ascii "\n") in
    omega (arith, length-append (first ++ second) third, length-append first second, number_few i a (ascii " ") f, number_few j b (ascii " ") g, number_few k c (ascii "\n") h)

pub lexeme_few : (kind start size depth : ℕ) → kind < 2 ^ 16 → start < 2 ^ 32 → size < 2 ^ 32 → depth < 2 ^ 32 → length (lexeme_text (entry kind start size depth)) ≤ longest_lexeme
lexeme_few kind start size depth f g h d =
    let first = number_then kind (ascii " ") in
    omega (arith, length-append first (numbers start size depth), number_few before16 kind (ascii " ") (omega arith), numbers_few before32 before32 before32 start size depth (omega arith) (omega arith) (omega arith))

pub refusal_few : (r : Refusal) → r.number < 2 ^ 64 → r.place.byte.0 < 2 ^ 64 → r.place.character.0 < 2 ^ 64 → length (refusal r) ≤ longest_line
unfolding refusal
refusal_few r f g h =
    let three = numbers r.number r.place.byte.0 r.place.character.0 in
    omega (arith, length-append (ascii "refused ") three, numbers_few before64 before64 before64 r.number r.place.byte.0 r.place.character.0 (omega arith) (omega arith) (omega arith))

-- a refusal of a query
pub refused_few : (room : ℕ) (q : List ℕ) (r : Refusal) → lexed Crate room q ≡ Err r → length (refusal r) ≤ longest_line
refused_few room q r e =
    let b : LexingWithin (Err r) = rw e at (lexing_bounded Crate room q) in
    refusal_few r (omega (arith, b.0)) (omega (arith, b.1)) (omega (arith, b.2))
