-- Demand 3 said of calls: of whatever answers and contents the promise of `lexer` allows, in every room of B's call and the join's, as statements; `proofs/Calls` has their proofs.
use Rattle.std.specs.Prelude.{ℕ, suc, pred, ◌+◌, ◌≤◌, ◌<◌, List, ◌++◌, map, ◌≡◌, length, take, Err, Ok}
use Rattle.utf8.specs.declared.Reading.{Reading}
use Rattle.utf8.specs.declared.Refusal.{Refusal}
use Rattle.utf8.specs.Text.{chars_of}
use Rattle.utf8.specs.Answers.{text_limit, no_room}
use Rattle.lex.specs.Lex.{entries_of, kind_of, starts_at, length_of, depth_of}
use Rattle.calls.specs.laws.Calls.{LexCall, room_in, kinds_left, starts_left, lengths_left, depths_left, Untouched}
use Rattle.join.specs.laws.Join.{joined, front, LastNoFill, moved_refusal}

-- calls on A, on B and on their join in one reading, where A's was accepted and its last lexeme is no fill word, within the limit
pub record JoinCalls (r : Reading) (a b : List ℕ) (n : ℕ) : Type 0 where
  pub first : LexCall r a
  pub second : LexCall r b
  pub both : LexCall r (joined a b)
  pub accepted : first.result ≡ Ok n
  pub plain : LastNoFill a (front r a)
  pub limit : length (joined a b) ≤ text_limit

-- where B has k lexemes, and these are their kinds, starts, lengths and depths: with room for all, the join's call wrote A's lexemes without its end mark, and B's moved along, whose depths
-- are as they were, since A closed all that it opened; without, it refused and changed nothing
pub record JoinsIn {r : Reading} {a b : List ℕ} {n : ℕ} (j : JoinCalls r a b n) (k : ℕ) (ks ss ls ds : List ℕ) : Type 0 where
  pub fits :
      pred n + k ≤ room_in j.both →
      (j.both.result ≡ Ok (pred n + k))
      × (take (pred n + k) (kinds_left j.both) ≡ take (pred n) (kinds_left j.first) ++ ks)
      × (take (pred n + k) (starts_left j.both) ≡ take (pred n) (starts_left j.first) ++ map (λ (x : ℕ). suc (length a) + x) ss)
      × (take (pred n + k) (lengths_left j.both) ≡ take (pred n) (lengths_left j.first) ++ ls)
      × (take (pred n + k) (depths_left j.both) ≡ take (pred n) (depths_left j.first) ++ ds)
  pub short : room_in j.both < pred n + k → (j.both.result ≡ Err no_room) × Untouched j.both

-- B is accepted: its lexemes are what its call wrote
abbrev pub CallsJoin : Type 0
CallsJoin =
    (r : Reading) (a b : List ℕ) (n : ℕ) (j : JoinCalls r a b n) (k : ℕ) →
    j.second.result ≡ Ok k →
    JoinsIn j k (take k (kinds_left j.second)) (take k (starts_left j.second)) (take k (lengths_left j.second)) (take k (depths_left j.second))

-- B lacks room: it has more lexemes than that, and they are the query's
abbrev pub CallsShort : Type 0
CallsShort =
    (r : Reading) (a b : List ℕ) (n : ℕ) (j : JoinCalls r a b n) →
    j.second.result ≡ Err no_room →
    let es = entries_of r b in
    (room_in j.second < length es) × JoinsIn j (length es) (map kind_of es) (map starts_at es) (map length_of es) (map depth_of es)

-- B is refused otherwise: so is the join, at the place moved along, and nothing is changed
abbrev pub CallsRefused : Type 0
CallsRefused =
    (r : Reading) (a b : List ℕ) (n : ℕ) (j : JoinCalls r a b n) (refusal : Refusal) →
    j.second.result ≡ Err refusal →
    (¬ (refusal.number ≡ no_room.number)) →
    (j.both.result ≡ Err (moved_refusal (suc (length a)) (suc (length (chars_of a))) refusal)) × Untouched j.both
