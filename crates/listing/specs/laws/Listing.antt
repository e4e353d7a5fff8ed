-- What a reader may rely on besides: the program never lacks room, neither for the lexemes of a query nor for what is printed of it.
use Rattle.std.specs.Prelude.{ℕ, ◌≤◌, ◌≡◌, List, length}
use Rattle.utf8.specs.declared.Reading.TheVariants.{Crate}
use Rattle.lex.specs.Lex.{measured, lexed}
use Rattle.listing.specs.Listing.{input_limit, most_lexemes, most_text, printed}

-- an input within the limit is answered as if there were room for any number of lexemes
abbrev pub RoomEnough : Type 0
RoomEnough = (q : List ℕ) → length q ≤ input_limit → lexed Crate most_lexemes q ≡ measured Crate q

-- what is printed of an input, be it too long, refused or accepted, fits the list that the program lends, so that all of it is printed
abbrev pub TextFits : Type 0
TextFits = (q : List ℕ) → length (printed q) ≤ most_text
