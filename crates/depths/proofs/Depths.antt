-- Depths are counted: along a walk with so many open before (`walked`), each depth and the `)` up to its place are what was open and the `(` up to there, by
-- induction on the walk. Where the query is accepted, reading comes to the end, where none is open.
use Prim.Native.Nat.{ℕ, zero, suc, ◌+◌, ◌<◌, ◌≤◌}
use native.Mathlib.Omega.{arith}
use mathlib.Core.List.{List, map}
use mathlib.Core.Path.{◌≡◌, refl, sym, ◌∙◌}
use lib.ListN.{length, take, get_or, length-map}
use borrow.Author.Tests.{ne_eqb}
use Rattle.std.specs.Prelude.{Ok}
use Rattle.utf8.specs.declared.Reading.{Reading}
use Rattle.utf8.specs.Answers.{text_limit}
use Rattle.utf8.proofs.Given.{given_exactly}
use Rattle.token.specs.Kinds.{left_paren, right_paren}
use Rattle.lex.specs.Outcome.{Outcome}
use Rattle.lex.specs.Lex.{entries, entries_of, answer_by, measured, kind_of, depth_of}
use Rattle.lex.proofs.Given.{measured_given}
use Rattle.calls.proofs.Calls.{counted, writes}
use Rattle.depths.specs.Open.{count_of}
use Rattle.depths.specs.Pairs.{through}
use Rattle.depths.specs.laws.Depths.{DepthsCounted, QueryPaired, CallPaired}
use Rattle.depths.specs.laws.Pairs.{Balanced}
use Rattle.depths.proofs.Levels.{skipped, through_next}
use Rattle.depths.proofs.Pairs.{balanced_paired}
use Rattle.depths.proofs.Walk.{Walk, opens, closes, stays, ended, refused, walked}

abbrev kinds : Outcome → List ℕ
kinds o = map kind_of (entries o)

abbrev depths : Outcome → List ℕ
depths o = map depth_of (entries o)

-- the depth of a place, with some open before
abbrev DepthFrom : ℕ → List ℕ → ℕ → ℕ → Type 0
DepthFrom b ks i d = d + count_of right_paren (take (through ks i) ks) ≡ b + count_of left_paren (take (through ks i) ks)

-- each depth along a walk
along : {b : ℕ} {o : Outcome} → Walk b o → (i : ℕ) → i < length (entries o) → DepthFrom b (kinds o) i (get_or (depths o) i 0)
along (opens w) zero h = refl
along (opens {o = o} w) (suc i) h = rw (through_next left_paren (kinds o) i) (omega (arith, along w i (omega arith)))
along (closes w) zero h = omega arith
along (closes {o = o} w) (suc i) h = rw (through_next right_paren (kinds o) i) (omega (arith, along w i (omega arith)))
along (stays {k = k} n w) zero h = rw (ne_eqb k right_paren n.1)
along (stays {k = k} {o = o} n w) (suc i) h =
    rw (through_next k (kinds o) i) (omega (arith, along w i (omega arith), skipped k (take (through (kinds o) i) (kinds o)) n))
along ended zero h = refl
along ended (suc i) h = absurd (omega arith)
along refused i h = absurd (omega arith)

-- a walk to the end closes all
closed : {b : ℕ} {o : Outcome} (q : List ℕ) (n m : ℕ) → Walk b o → answer_by q n o ≡ Ok m → count_of right_paren (kinds o) ≡ b + count_of left_paren (kinds o)
unfolding answer_by
closed q n m (opens w) e = omega (arith, closed q n m w e)
closed q n m (closes w) e = omega (arith, closed q n m w e)
closed q n m (stays {k = k} {o = o} u w) e = omega (arith, closed q n m w e, skipped k (kinds o) u)
closed q n m ended e = refl
closed q n m refused e = let z : ◌≡◌ {A = ℕ} 0 1 = cc in absurd (omega arith)

pub depths_counted : DepthsCounted
depths_counted r q i l h = omega (arith, along (walked r q l) i h)

query_balanced : (r : Reading) (q : List ℕ) (n : ℕ) → measured r q ≡ Ok n → Balanced (map kind_of (entries_of r q)) (map depth_of (entries_of r q))
unfolding measured
query_balanced r q n e =
    let g = (measured_given r q n).0 e in
    let l : length q ≤ text_limit = omega (arith, g.0.0) in
    let es = entries_of r q in
    record {
      same = length-map es depth_of ∙ sym (length-map es kind_of);
      depths = λ i h. depths_counted r q i l (omega (arith, h, length-map es kind_of));
      closed = omega (arith, closed q (length es) n (walked r q l) (rw ((given_exactly text_limit q).2.1 g.0) at e));
    }

pub query_paired : QueryPaired
query_paired r q n e = let c = query_balanced r q n e in (c, balanced_paired _ _ c)

pub call_paired : CallPaired
call_paired r q c n e = let w = writes r q c n e in rw (w.0, w.3) (query_paired r q n (counted r q c n e).0)
