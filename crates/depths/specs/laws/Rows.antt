-- The rows of document 01's table that count what is open or look back, said of the query's bytes and of the kinds of the lexemes before the row's place, as
-- statements; `proofs/Rows` has the proofs. They follow from what a mode tells (`laws/Modes`).
use Rattle.std.specs.Prelude.{ℕ, suc, ◌≤◌, List, ◌↔◌, ◌≡◌, length}
use Prim.Native.Char.{code}
use Rattle.scan.specs.Byte.{peek_at}
use Rattle.utf8.specs.declared.Reading.{Reading}
use Rattle.utf8.specs.Text.{WellFormed}
use Rattle.utf8.specs.Answers.{text_limit}
use Rattle.token.specs.Kinds.{left_brace, right_brace, left_bracket, right_bracket, colon}
use Rattle.munch.specs.declared.Mode.{Mode}
use Rattle.lex.specs.Lex.{entries_of}
use Rattle.lex.specs.laws.Refusals.{Reaches, RowAt}
use Rattle.depths.specs.Open.{Open, Since}
use Rattle.depths.specs.laws.Modes.{kinds_before, ByteBefore}

-- the reading comes to an offset
abbrev pub Reached : Reading → List ℕ → ℕ → Type 0
Reached r q p = (m : Mode) × Reaches r q p m

-- the kinds of a query before an offset
abbrev pub before : Reading → List ℕ → ℕ → List ℕ
before r q p = kinds_before p (entries_of r q)

-- neither braces nor brackets are open
abbrev pub NoneInside : List ℕ → Type 0
NoneInside ks = (¬ (Since left_brace right_brace ks)) × (¬ (Since left_bracket right_bracket ks))

-- 10 "end with `(` open, no other refusal there"
abbrev pub ParenOpenTold : Type 0
ParenOpenTold =
    (r : Reading) (q : List ℕ) (p : ℕ) → length q ≤ text_limit → WellFormed q →
    RowAt r q 10 p ↔ Reached r q p × (p ≡ length q) × NoneInside (before r q p) × ((d : ℕ) × Open (before r q p) (suc d))

-- 16 "unmatched `)`"
abbrev pub UnmatchedParenTold : Type 0
UnmatchedParenTold =
    (r : Reading) (q : List ℕ) (p : ℕ) → length q ≤ text_limit →
    RowAt r q 16 p ↔ Reached r q p × (peek_at q p ≡ code ")") × NoneInside (before r q p) × Open (before r q p) 0

-- 28 "second colon"
abbrev pub SecondColonTold : Type 0
SecondColonTold =
    (r : Reading) (q : List ℕ) (p : ℕ) → length q ≤ text_limit →
    RowAt r q 28 p
    ↔ Reached r q p × (peek_at q p ≡ code ":") × Since left_bracket right_bracket (before r q p) × Since colon left_bracket (before r q p)

-- 29 "colon directly after `[`"
abbrev pub ColonFirstTold : Type 0
ColonFirstTold =
    (r : Reading) (q : List ℕ) (p : ℕ) → length q ≤ text_limit →
    RowAt r q 29 p
    ↔ Reached r q p × (peek_at q p ≡ code ":") × Since left_bracket right_bracket (before r q p) × ByteBefore (code "[") q p
