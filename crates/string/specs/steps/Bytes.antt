-- Escaping byte by byte, as the code goes: on text it is the escaping of its characters (`proofs/escape/Escapes`).
use Rattle.std.specs.Prelude.{ℕ, List, [], ◌∷◌, ◌++◌}
use Rattle.string.specs.Letters.{letter_of}
use Rattle.string.specs.Escape.{or_letter}

abbrev pub escaped_byte : ℕ → List ℕ
escaped_byte b = or_letter (b ∷ []) (letter_of b)

unfoldable pub escaped_bytes : List ℕ → List ℕ
escaped_bytes [] = []
escaped_bytes (b ∷ bs) = escaped_byte b ++ escaped_bytes bs
