-- Pairs of parentheses, said of the kinds of lexemes alone, and the depths that show them. Document 02, L7.
use Rattle.std.specs.Prelude.{ℕ, suc, ◌+◌, ◌<◌, cond, List, [], ◌∷◌, ◌++◌, ◌≡◌, eqb, length, take, drop, get_or}
use Rattle.token.specs.Kinds.{left_paren, right_paren}
use Rattle.depths.specs.Open.{Open}

-- kinds that close each parenthesis that they open, and no other
pub data Closed : List ℕ → Type 0 where
  none : Closed []
  other : (k : ℕ) (ks : List ℕ) → (¬ (k ≡ left_paren)) → (¬ (k ≡ right_paren)) → Closed ks → Closed (k ∷ ks)
  pair : (xs ys : List ℕ) → Closed xs → Closed ys → Closed (left_paren ∷ xs ++ right_paren ∷ ys)

-- lexeme j closes what lexeme i opens: between them stands what closes all of its own
pub record Partners (ks : List ℕ) (i j : ℕ) : Type 0 where
  pub within : List ℕ
  pub behind : List ℕ
  pub there : drop i ks ≡ left_paren ∷ within ++ right_paren ∷ behind
  pub closed : Closed within
  pub last : j ≡ suc (i + length within)

-- how many kinds are counted: those before lexeme i, and a `)` itself
abbrev pub through : List ℕ → ℕ → ℕ
through ks i = cond (eqb (get_or ks i 0) right_paren) (suc i) i

-- the depth of lexeme i, counted: "the parentheses open before it; for `)` the number left open after it"
abbrev pub CountedDepth : List ℕ → ℕ → ℕ → Type 0
CountedDepth ks i d = Open (take (through ks i) ks) d

-- lexeme j is the next `)` behind lexeme i with the same depth
pub record NextSame (ks ds : List ℕ) (i j : ℕ) : Type 0 where
  pub later : i < j
  pub closes : get_or ks j 0 ≡ right_paren
  pub same : get_or ds j 0 ≡ get_or ds i 0
  pub first : (k : ℕ) → i < k → k < j → get_or ks k 0 ≡ right_paren → ¬ (get_or ds k 0 ≡ get_or ds i 0)
