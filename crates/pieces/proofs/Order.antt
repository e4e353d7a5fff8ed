-- Lexemes that a query is made of are in order: those of pieces side by side follow one on another, each with a byte at least (`Chain`), and EOF stands where the
-- last piece ends.
use Prim.Native.Nat.{ℕ, zero, suc, ◌+◌, ◌≤◌, ◌<◌}
use native.Mathlib.Omega.{arith}
use mathlib.Core.Bool.{Bool, true, false, ◌||◌, true≢false}
use mathlib.Core.List.{List, [], ◌∷◌, ◌++◌, map}
use mathlib.Core.Logic.{◌↔◌}
use mathlib.Core.Path.{◌≡◌, refl, ap}
use lib.Dec.{eqb}
use lib.ListN.{length}
use Rattle.scan.specs.Byte.{peek_at}
use Rattle.scan.specs.Text.{has}
use Rattle.utf8.specs.declared.Reading.{Reading}
use Rattle.token.specs.Kinds.{eof_kind}
use Rattle.lex.specs.Outcome.{Entry}
use Rattle.lex.specs.Lex.{eof, kind_of, starts_at}
use Rattle.pieces.specs.Pieces.{white, brackets_by, Piece, piece, Tiled, none, then_lexeme, then_white, then_comment, lexemes_in}
use Rattle.pieces.specs.laws.Pieces.{at, InOrder, stands_at, MadeOf}
use Rattle.pieces.proofs.Tiled.{first, rest, longer, within}

-- lexemes from an offset on, and where the query ends
abbrev Chain : ℕ → List Entry → ℕ → Type 0
Chain from [] end = from ≤ end
Chain from (e ∷ es) end = (from ≤ e.start) × (0 < e.length) × Chain (e.start + e.length) es end

chained : {r : Reading} {q : List ℕ} {b : Bool} {from : ℕ} {ps : List Piece} (ls : List Entry) → Tiled r q b from ps → lexemes_in ps ≡ map stands_at ls → Chain from ls (length q)
chained [] t e = within _ t
chained (l ∷ ls) (none b) e = absurd (omega (arith, ap length e))
chained {r = r} {q = q} (l ∷ ls) (then_lexeme b k from n ps h x t) e =
    let a : from ≡ l.start = ap (λ xs. (first (piece white 0 0) xs).from) e in
    let z : from + n ≡ l.start + l.length = ap (λ xs. (first (piece white 0 0) xs).to) e in
    (omega (arith, a), omega (arith, a, z, h), rw z at (chained {b = brackets_by b (peek_at q from)} ls t (ap rest e)))
chained (l ∷ ls) (then_white b from to ps w t) e = let c = chained (l ∷ ls) t e in (omega (arith, w.some, c.0), c.1, c.2)
chained (l ∷ ls) (then_comment from to ps w t) e = let c = chained (l ∷ ls) t e in (omega (arith, longer w, c.0), c.1, c.2)

module _ (end : ℕ) where
  -- with EOF behind them
  abbrev closed : List Entry → List Entry
  closed ls = ls ++ eof end ∷ []

  some : (ls : List Entry) → 0 < length (closed ls)
  some [] = omega arith
  some (l ∷ ls) = omega arith

  later : (from : ℕ) (ls : List Entry) → Chain from ls end → (j : ℕ) → j < length (closed ls) → from ≤ (at (closed ls) j).start
  later from [] c zero h = c
  later from [] c (suc j) h = absurd (omega arith)
  later from (l ∷ ls) c zero h = c.0
  later from (l ∷ ls) c (suc j) h = omega (arith, c.0, later (l.start + l.length) ls c.2 j (omega arith))

  apart : (from : ℕ) (ls : List Entry) → Chain from ls end → (i j : ℕ) → i < j → j < length (closed ls)
      → (0 < (at (closed ls) i).length) × ((at (closed ls) i).start + (at (closed ls) i).length ≤ (at (closed ls) j).start)
  apart from ls c i zero l h = absurd (omega arith)
  apart from [] c i (suc j) l h = absurd (omega arith)
  apart from (e ∷ ls) c zero (suc j) l h = (c.1, later _ ls c.2 j (omega arith))
  apart from (e ∷ ls) c (suc i) (suc j) l h = apart (e.start + e.length) ls c.2 i j (omega arith) (omega arith)

  empty : (from : ℕ) (ls : List Entry) → Chain from ls end → (i : ℕ) → i < length (closed ls) → (at (closed ls) i).length ≡ 0 ↔ suc i ≡ length (closed ls)
  empty from [] c zero h = (λ e. refl, λ e. refl)
  empty from [] c (suc i) h = absurd (omega arith)
  empty from (l ∷ ls) c zero h = (λ e. absurd (omega (arith, c.1, e)), λ e. absurd (omega (arith, e, some ls)))
  empty from (l ∷ ls) c (suc i) h = let w = empty (l.start + l.length) ls c.2 i (omega arith) in (λ e. ap suc (w.0 e), λ e. w.1 (omega (arith, e)))

  last : (ls : List Entry) (i : ℕ) → suc i ≡ length (closed ls) → at (closed ls) i ≡ eof end
  last [] zero e = refl
  last [] (suc i) e = absurd (omega (arith, e))
  last (l ∷ ls) zero e = absurd (omega (arith, e, some ls))
  last (l ∷ ls) (suc i) e = last ls i (omega (arith, e))

  tail_free : (b c : Bool) → (b || c) ≡ false → c ≡ false
  tail_free true c e = cc
  tail_free false c e = e

  named : (ls : List Entry) → has eof_kind (map kind_of ls) ≡ false → (i : ℕ) → i < length (closed ls) → (at (closed ls) i).kind ≡ eof_kind → suc i ≡ length (closed ls)
  unfolding has
  named [] n zero h e = refl
  named [] n (suc i) h e = absurd (omega arith)
  named (l ∷ ls) n zero h e = absurd (true≢false (rw e at n))
  named (l ∷ ls) n (suc i) h e = ap suc (named ls (tail_free (eqb l.kind eof_kind) (has eof_kind (map kind_of ls)) n) i (omega arith) e)

pub in_order : (r : Reading) (q : List ℕ) (es : List Entry) (ps : List Piece) → MadeOf r q es ps → InOrder q es
in_order r q _ ps m = rw m.all (go m.lexemes (chained m.lexemes m.pieces m.same) m.others)
  where
    go : (ls : List Entry) → Chain 0 ls (length q) → has eof_kind (map kind_of ls) ≡ false → InOrder q (closed (length q) ls)
    go ls c n =
        record {
          some = some (length q) ls;
          ascend = λ i j l h. let w = apart (length q) 0 ls c i j l h in omega (arith, w.0, w.1);
          apart = λ i j l h. (apart (length q) 0 ls c i j l h).1;
          empty = empty (length q) 0 ls c;
          named = λ i h. (named (length q) ls n i h, λ e. ap kind_of (last (length q) ls i e));
          last = λ i e. ap starts_at (last (length q) ls i e);
        }
