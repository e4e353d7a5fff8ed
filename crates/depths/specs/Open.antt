-- What is open behind lexemes, said of their kinds alone: how many parentheses, and whether braces or brackets, and whether their colon was seen. No reader
-- has a part in it. Document 02, L7.
use Rattle.std.specs.Prelude.{ℕ, suc, ◌+◌, cond, List, [], ◌∷◌, ◌++◌, ◌≡◌, eqb}
use Rattle.token.specs.Kinds.{left_paren, right_paren}

-- how many of the kinds are k
abbrev pub count_of : ℕ → List ℕ → ℕ
count_of k [] = 0
count_of k (x ∷ xs) = cond (eqb x k) (suc (count_of k xs)) (count_of k xs)

-- "the parentheses open": `(` lexemes less `)` lexemes
abbrev pub Open : List ℕ → ℕ → Type 0
Open ks d = d + count_of right_paren ks ≡ count_of left_paren ks

-- a `one` stands among them with no `other` behind it: a `{` without its `}`, a `[` without its `]`, a colon behind the last `[`
pub record Since (one other : ℕ) (ks : List ℕ) : Type 0 where
  pub front : List ℕ
  pub behind : List ℕ
  pub there : ks ≡ front ++ one ∷ behind
  pub none : count_of other behind ≡ 0
