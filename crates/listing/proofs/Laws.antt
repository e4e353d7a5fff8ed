-- The program never lacks room: a query has no more lexemes than bytes, and its end and the numbers of each have the bits of their lists (lex's
-- `entries_within`), and so no lexeme and no refusal is longer than its room (`lexeme_few`, `refused_few`).
use Prim.Native.Nat.{ℕ, ◌*◌, ◌≤◌}
use native.Mathlib.Omega.{arith}
use mathlib.Core.List.{List, [], ◌∷◌}
use mathlib.Core.Path.{◌≡◌, refl}
use lib.Dec.{ltb}
use lib.ListN.{length, length-append}
use borrow.Author.Tests.{le-leb, ltb-false}
use Rattle.utf8.specs.declared.Refusal.{Refusal}
use Rattle.std.specs.Prelude.{Err, Ok, Result}
use Rattle.proving.proofs.Choice.{either}
use Rattle.utf8.specs.Answers.{too_long}
use Rattle.utf8.specs.declared.Reading.TheVariants.{Crate}
use Rattle.lex.specs.Outcome.{Entry}
use Rattle.lex.specs.Lex.{entries_of, measured, lexed}
use Rattle.lex.specs.laws.Bounds.{AllWithin}
use Rattle.lex.proofs.Entries.{entries_within}
use Rattle.lex.proofs.Given.{measured_given}
use Rattle.listing.specs.Listing.{input_limit, most_lexemes, longest_lexeme, most_text, refusal, lexeme_text, lexemes_text, printed_by, printed}
use Rattle.listing.specs.laws.Listing.{RoomEnough, TextFits}
use Rattle.listing.proofs.Few.{lexeme_few, refusal_few, refused_few}

pub room_enough : RoomEnough
unfolding lexed
room_enough q h = go (measured Crate q) refl
  where
    go : (x : Result ℕ Refusal) → measured Crate q ≡ x → lexed Crate most_lexemes q ≡ measured Crate q
    go (Ok n) e = let l : n ≤ most_lexemes = omega (arith, ((measured_given Crate q n).0 e).2, (entries_within Crate q).1) in rw (e, le-leb n most_lexemes l)
    go (Err r) e = rw e

-- the lexemes of a query within the limit
lexemes_few : (size : ℕ) → size ≤ input_limit → (es : List Entry) → AllWithin size es → length (lexemes_text es) ≤ length es * longest_lexeme
unfolding lexemes_text
lexemes_few size h [] a = omega arith
lexemes_few size h (e ∷ es) a =
    omega (arith, length-append (lexeme_text e) (lexemes_text es), lexeme_few e.kind e.start e.length e.depth a.0.0 (omega (arith, a.0.1)) (omega (arith, a.0.1)) (omega (arith, a.0.2)), lexemes_few size h es a.1)

pub text_fits : TextFits
unfolding printed printed_by
text_fits q =
    either (λ (t : List ℕ). length t ≤ most_text) (ltb input_limit (length q)) (λ e. long)
    (λ e. go (ltb-false input_limit (length q) e) (lexed Crate most_lexemes q) refl)
  where
    long : length (refusal too_long) ≤ most_text
    long = omega (arith, refusal_few too_long (omega arith) (omega arith) (omega arith))

    go : length q ≤ input_limit → (x : Result ℕ Refusal) → lexed Crate most_lexemes q ≡ x → length (printed_by q x) ≤ most_text
    go h (Ok n) e = omega (arith, lexemes_few (length q) h (entries_of Crate q) (entries_within Crate q).0, (entries_within Crate q).1)
    go h (Err r) e = omega (arith, refused_few most_lexemes q r e)
