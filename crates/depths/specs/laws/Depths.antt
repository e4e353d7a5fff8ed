-- The depths that lexing writes, as statements; `proofs/Depths` has the proofs. What they are for stands in `laws/Pairs`.
use Rattle.std.specs.Prelude.{ℕ, ◌≤◌, ◌<◌, List, map, ◌≡◌, length, take, get_or, Ok}
use Rattle.utf8.specs.declared.Reading.{Reading}
use Rattle.utf8.specs.Answers.{text_limit}
use Rattle.lex.specs.Lex.{entries_of, measured, kind_of, depth_of}
use Rattle.calls.specs.laws.Calls.{LexCall, kinds_left, depths_left}
use Rattle.depths.specs.Pairs.{CountedDepth}
use Rattle.depths.specs.laws.Pairs.{Balanced, Paired}

-- each is counted from the kinds; also where the query is refused further on
abbrev pub DepthsCounted : Type 0
DepthsCounted =
    (r : Reading) (q : List ℕ) (i : ℕ) → length q ≤ text_limit → i < length (entries_of r q) →
    CountedDepth (map kind_of (entries_of r q)) i (get_or (map depth_of (entries_of r q)) i 0)

-- an accepted query closes all that it opens, and so its parentheses are pairs, which its depths show
abbrev pub QueryPaired : Type 0
QueryPaired =
    (r : Reading) (q : List ℕ) (n : ℕ) → measured r q ≡ Ok n →
    Balanced (map kind_of (entries_of r q)) (map depth_of (entries_of r q)) × Paired (map kind_of (entries_of r q)) (map depth_of (entries_of r q))

-- so of what an accepted call leaves at the fronts of its lists
abbrev pub CallPaired : Type 0
CallPaired =
    (r : Reading) (q : List ℕ) (c : LexCall r q) (n : ℕ) → c.result ≡ Ok n →
    Balanced (take n (kinds_left c)) (take n (depths_left c)) × Paired (take n (kinds_left c)) (take n (depths_left c))
