-- Reading a text of a set greedily, as statements; `proofs/Greedy` has the proofs.
use Rattle.std.specs.Prelude.{ℕ, suc, ◌+◌, ◌<◌, ◌≤◌, Bool, true, false, cond, ◌||◌, List, [], ◌∷◌, ◌++◌, ◌⊎◌, ◌≡◌, eqb, length, take, drop}
use Rattle.scan.specs.Byte.{end, peek_at}
use Rattle.scan.specs.Language.{Empty, Then, Optional, Longest}
use Rattle.scan.specs.Separated.{separator}

-- what `g` takes of any bytes is the longest text of a set that they begin with, and a shorter one has a byte behind it that passes the test `n`
pub record Greedy (l : List ℕ → Type 0) (g : List ℕ → ℕ) (n : ℕ → Bool) : Type 0 where
  pub within : (xs : List ℕ) → g xs ≤ length xs
  pub taken : (xs : List ℕ) → l (take (g xs) xs)
  pub longest : (t rest : List ℕ) → l t → length t ≤ g (t ++ rest)
  pub tight : (t rest : List ℕ) → l t → length t < g (t ++ rest) → n (peek_at rest 0) ≡ true

-- so it is the longest, and there is one
abbrev pub GreedyLongest : Type 1
GreedyLongest = (l : List ℕ → Type 0) (g : List ℕ → ℕ) (n : ℕ → Bool) → Greedy l g n → (xs : List ℕ) → Longest l xs (g xs)

abbrev pub LongestOne : Type 1
LongestOne = (l : List ℕ → Type 0) (xs : List ℕ) (n m : ℕ) → Longest l xs n → Longest l xs m → n ≡ m

-- how much is taken of nothing or a marked text, and of a text and another behind it
abbrev pub optionally : (ℕ → Bool) → (List ℕ → ℕ) → List ℕ → ℕ
optionally c g xs = cond (c (peek_at xs 0)) (suc (g (drop 1 xs))) 0

abbrev pub then_takes : (List ℕ → ℕ) → (List ℕ → ℕ) → List ℕ → ℕ
then_takes g h xs = g xs + h (drop (g xs) xs)

abbrev pub EmptyGreedy : Type 0
EmptyGreedy = Greedy Empty (λ xs. 0) (λ c. false)

abbrev pub OptionalGreedy : Type 1
OptionalGreedy =
    (c : ℕ → Bool) → c end ≡ false → (l : List ℕ → Type 0) (g : List ℕ → ℕ) (n : ℕ → Bool) → Greedy l g n →
    Greedy (Optional c l) (optionally c g) (λ b. c b || n b)

-- the second set has no text that begins with a byte which the first could have gone on with
abbrev pub ThenGreedy : Type 1
ThenGreedy =
    (l m : List ℕ → Type 0) (g h : List ℕ → ℕ) (n o : ℕ → Bool) → Greedy l g n → Greedy m h o →
    ((x : ℕ) (t : List ℕ) → m (x ∷ t) → n x ≡ false) → Greedy (Then l m) (then_takes g h) (λ b. n b || o b)

-- a text of a set may be cut behind any byte that is no separator
pub record Cut (l : List ℕ → Type 0) : Type 0 where
  pub none : l []
  pub cut : (u : List ℕ) (c : ℕ) (rest : List ℕ) → eqb c separator ≡ false → l (u ++ (c ∷ rest)) → l (u ++ (c ∷ []))

abbrev pub EmptyCut : Type 0
EmptyCut = Cut Empty

abbrev pub OptionalCut : Type 1
OptionalCut = (m : ℕ → Bool) (l : List ℕ → Type 0) → Cut l → Cut (Optional m l)

abbrev pub ThenCut : Type 1
ThenCut = (l m : List ℕ → Type 0) → Cut l → Cut m → Cut (Then l m)

-- of two ways to put one text together, one cuts behind the other
abbrev pub SplitTwice : Type 0
SplitTwice =
    (a b u v : List ℕ) → a ++ b ≡ u ++ v →
    ((r : List ℕ) × (a ≡ u ++ r) × (v ≡ r ++ b)) ⊎ ((r : List ℕ) × (u ≡ a ++ r) × (b ≡ r ++ v))
