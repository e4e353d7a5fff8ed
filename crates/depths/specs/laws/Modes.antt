-- What a mode says of the query where the reading reaches it, in terms of the query and its lexemes, as statements; `proofs/Modes` has the proofs. The rows of
-- document 01's table speak of modes: "`(` open", "in braces", "in brackets", "second colon", "directly after `[`".
use Rattle.std.specs.Prelude.{ℕ, pred, ◌≤◌, ◌<◌, Bool, true, cond, List, [], ◌∷◌, ◌↔◌, ◌≡◌, ltb, length}
use Prim.Native.Char.{code}
use Rattle.scan.specs.Byte.{peek_at}
use Rattle.utf8.specs.declared.Reading.{Reading}
use Rattle.utf8.specs.Answers.{text_limit}
use Rattle.token.specs.Kinds.{left_brace, right_brace, left_bracket, right_bracket, colon}
use Rattle.munch.specs.declared.Inside.TheVariants.{Brackets}
use Rattle.munch.specs.declared.Mode.{Mode}
use Rattle.munch.specs.Munch.{most_depth}
use Rattle.munch.specs.laws.Rows.{InBraces, InBrackets}
use Rattle.lex.specs.Outcome.{Entry}
use Rattle.lex.specs.Lex.{entries_of}
use Rattle.lex.specs.laws.Refusals.{Reaches}
use Rattle.depths.specs.Open.{Open, Since}

-- the kinds of the lexemes that begin before an offset
abbrev pub kinds_before : ℕ → List Entry → List ℕ
kinds_before at [] = []
kinds_before at (e ∷ es) = cond (ltb e.start at) (e.kind ∷ kinds_before at es) (kinds_before at es)

-- a byte stands directly before an offset
abbrev pub ByteBefore : ℕ → List ℕ → ℕ → Type 0
ByteBefore c q at = (1 ≤ at) × (peek_at q (pred at) ≡ c)

-- so many parentheses are open; braces are open where a `{` is without its `}`; brackets likewise; their colon was seen where one stands behind the last `[`;
-- and they are just opened where the byte before is `[`
pub record Tells (q : List ℕ) (es : List Entry) (at : ℕ) (m : Mode) : Type 0 where
  pub parens : Open (kinds_before at es) m.depth
  pub braces : InBraces m ↔ Since left_brace right_brace (kinds_before at es)
  pub brackets : InBrackets m ↔ Since left_bracket right_bracket (kinds_before at es)
  pub seen : (seen fresh : Bool) → m.inside ≡ Brackets seen fresh → seen ≡ true ↔ Since colon left_bracket (kinds_before at es)
  pub directly : (seen fresh : Bool) → m.inside ≡ Brackets seen fresh → fresh ≡ true ↔ ByteBefore (code "[") q at

-- of every mode that reading reaches, in a query within the limit
abbrev pub ModeTells : Type 0
ModeTells = (r : Reading) (q : List ℕ) (at : ℕ) (m : Mode) → length q ≤ text_limit → Reaches r q at m → Tells q (entries_of r q) at m

-- the count of parentheses does not come to its bound: no more are open than bytes were read
abbrev pub BoundNotMet : Type 0
BoundNotMet = (r : Reading) (q : List ℕ) (at : ℕ) (m : Mode) → length q ≤ text_limit → Reaches r q at m → (m.depth ≤ at) × (m.depth < most_depth)
