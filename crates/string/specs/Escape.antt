-- Escaping a text: document 01, "Escaping writes `\\ \" \n \r \t` and copies the rest, without outer quotes", said of its characters.
use Rattle.utf8.specs.declared.Refusal.{Refusal}
use Rattle.utf8.specs.declared.CharNumber.{CharNumber}
use Rattle.std.specs.Prelude.{ℕ, List, [], ◌∷◌, ◌++◌, Option, Some, None, Err, Ok, Result}
use Rattle.scan.specs.Byte.{backslash}
use Rattle.utf8.specs.Code.{encoded}
use Rattle.utf8.specs.Text.{codes_of}
use Rattle.utf8.specs.Answers.{text_limit, admitted}
use Rattle.utf8.specs.Writing.{fitted}
use Rattle.string.specs.Letters.{letter_of}

-- a backslash and the letter, or what is copied
abbrev pub or_letter : List ℕ → Option ℕ → List ℕ
or_letter copied (Some l) = backslash ∷ l ∷ []
or_letter copied None = copied

abbrev pub escaped_codes : List ℕ → List ℕ
escaped_codes [] = []
escaped_codes (c ∷ cs) = or_letter (encoded c) (letter_of c) ++ escaped_codes cs

abbrev pub escaped : List ℕ → List ℕ
escaped xs = escaped_codes (codes_of xs)

abbrev pub escaping_as : ℕ → List ℕ → Result CharNumber Refusal → Result ℕ Refusal
escaping_as room xs (Ok n) = fitted room (escaped xs)
escaping_as room xs (Err r) = Err r

-- refusals 1 and 2, then 3
unfoldable pub escaping_of : ℕ → List ℕ → Result ℕ Refusal
escaping_of room xs = escaping_as room xs (admitted text_limit xs)
