-- The bytes of a lexeme, as a statement; `proofs/Text` has the proof.
use Rattle.std.specs.Prelude.{ℕ, suc, ◌<◌, true, false, List, ◌≡◌, drop}
use Prim.Native.Char.{code}
use Rattle.scan.specs.Byte.{peek_at, is_quote}
use Rattle.utf8.specs.declared.Reading.{Reading}
use Rattle.token.specs.Kinds.{string, left_bracket, right_bracket}
use Rattle.numeral.specs.laws.Texts.{is_apart}
use Rattle.quoted.specs.laws.Texts.{IsString}
use Rattle.munch.specs.declared.Mode.{Mode}
use Rattle.munch.specs.declared.Step.TheVariants.{Lexeme}
use Rattle.munch.specs.Munch.{munched}
use Rattle.munch.specs.laws.Rows.{Begins}

-- by its kind and its length: a string, from its sign on; a bracket; or bytes of which none is white space, a quote sign, a `#` or a bracket
pub data TextOf (r : Reading) (xs : List ℕ) : ℕ → ℕ → Type 0 where
  quoted : (n : ℕ) → is_quote (peek_at xs 0) ≡ true → IsString r (peek_at xs 0) (drop 1 xs) n → TextOf r xs string (suc n)
  left : Begins (code "[") xs → TextOf r xs left_bracket 1
  right : Begins (code "]") xs → TextOf r xs right_bracket 1
  bare : (k n : ℕ) → ((i : ℕ) → i < n → is_apart (peek_at xs i) ≡ false) → TextOf r xs k n

abbrev pub LexemeText : Type 0
LexemeText = (r : Reading) (m m' : Mode) (xs : List ℕ) (k n : ℕ) → munched r m xs ≡ Lexeme k n m' → TextOf r xs k n
