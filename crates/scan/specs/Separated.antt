-- A run of digits with separators, over any test of digits: document 02, L2.
use Rattle.std.specs.Prelude.{ℕ, suc, ◌+◌, Bool, true, false, cond, ◌&&◌, ◌||◌, not, List, [], ◌∷◌, eqb, drop}
use Prim.Native.Char.{code}
use Rattle.scan.specs.declared.separated.Separators.{Separators}
use Rattle.scan.specs.declared.separated.Separators.TheVariants.{Never, Between, Before}
use Rattle.scan.specs.Byte.{peek_at}

abbrev pub separator : ℕ
separator = code "_"

-- "one underscore may stand between two digits of the same part, or between a hex prefix and its first digit": whether a separator may stand
-- somewhere, by whether a digit stands directly before it
abbrev pub is_open : Separators → Bool → Bool
is_open Never digit = false
is_open Between digit = digit
is_open Before digit = true

-- how long the run is; `between` is whether a separator may stand behind a digit, `front` whether one may stand first here; a digit always stands behind
-- one
unfoldable pub separated_length : (ℕ → Bool) → Bool → Bool → List ℕ → ℕ
separated_length p between front [] = 0
separated_length p between front (x ∷ xs) =
    cond (p x) (suc (separated_length p between between xs))
    (cond (front && (eqb x separator && p (peek_at xs 0))) (suc (separated_length p between false xs)) 0)

abbrev pub separated_run : (ℕ → Bool) → Separators → List ℕ → ℕ
separated_run p k xs = separated_length p (is_open k true) (is_open k false) xs

-- where the run that starts at n ends
abbrev pub separated_end : (ℕ → Bool) → Separators → List ℕ → ℕ → ℕ
separated_end p k xs n = n + separated_run p k (drop n xs)

-- whether each separator of a text is so placed
unfoldable pub all_placed_from : (ℕ → Bool) → Bool → Bool → List ℕ → Bool
all_placed_from p between front [] = true
all_placed_from p between front (x ∷ xs) =
    (not (eqb x separator) || (front && p (peek_at xs 0))) && all_placed_from p between (p x && between) xs

abbrev pub all_placed : (ℕ → Bool) → Separators → List ℕ → Bool
all_placed p k xs = all_placed_from p (is_open k true) (is_open k false) xs

-- "has no effect on the value": what a text is read as
unfoldable pub without_separators : List ℕ → List ℕ
without_separators [] = []
without_separators (x ∷ xs) = cond (eqb x separator) (without_separators xs) (x ∷ without_separators xs)
