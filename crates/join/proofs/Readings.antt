-- The reading of two queries with a newline between, the first of them accepted: the first's lexemes, and then the second's reading, moved
-- along. A step of the first is what it was before the newline came (`step_seam`), but for a comment that takes the newline in, behind which
-- the second query begins, and for a fill word, which would be the last lexeme. At the first's end the newline is a step of white space.
use Prim.Native.Nat.{ℕ, zero, suc, ◌+◌, ◌<◌, ◌≤◌}
use Prim.Native.Char.{code}
use native.Mathlib.Decide.{dec_lt}
use native.Mathlib.Nat.{add-zero}
use native.Mathlib.Numerals.{add-one}
use native.Mathlib.Omega.{arith}
use mathlib.Core.Bool.{true, true≢false}
use mathlib.Core.List.{List, [], ◌∷◌}
use mathlib.Core.Path.{◌≡◌, refl, sym, ap, ◌∙◌}
use lib.ListN.{length, take, drop, length-drop}
use lib.Seq.{drop-length, drop-append_seam, drop-append-le, drop-append-add, drop-drop, get_or-drop}
use Rattle.std.specs.Prelude.{Some}
use Rattle.scan.specs.declared.byte.Class.TheVariants as class
use Rattle.scan.specs.Byte.{end, peek_at, is_in}
use Rattle.scan.specs.Run.{run_length, run_end}
use Rattle.token.specs.Words.{keyword_of}
use Rattle.token.specs.Kinds.{identifier}
use Rattle.utf8.specs.declared.Reading.{Reading}
use Rattle.munch.specs.Word.{is_fill}
use Rattle.munch.specs.declared.Mode.{Mode}
use Rattle.munch.specs.declared.Step.{Step}
use Rattle.munch.specs.declared.Step.TheVariants.{Lexeme, Space, Comment, Refused, Finished}
use Rattle.munch.specs.Munch.{outside, munched}
use Rattle.scan.specs.laws.Edge.{Bytes}
use Rattle.munch.specs.laws.Step.{Goes, Seam, same, grown, called, refused}
use Rattle.munch.proofs.Goes.{step_goes}
use Rattle.munch.proofs.Seam.{step_seam}
use Rattle.lex.specs.Outcome.{steps_past, steps_of, Entry, entry, depth_by, Outcome, reads, ends, refuses, read_from, outcome_of}
use Rattle.lex.proofs.Steps.{steps_at}
use Rattle.join.specs.laws.Join.{joined, LastNoFill, moved_entry}
use Rattle.join.proofs.Steps.{Accepts, lexemes, line_step, ended, blank}

-- a step at an offset goes as steps do
goes_at : (r : Reading) (q : List ℕ) (at : ℕ) (m : Mode) {s : Step} → munched r m (drop at q) ≡ s → Goes m (drop at q) s
goes_at r q at m e = rw e at (step_goes r m (drop at q))

-- an outcome that goes on in another where it ends
abbrev pub graft : Outcome → Outcome → Outcome
graft (reads e r) u = reads e (graft r u)
graft (ends o) u = u
graft (refuses n o) u = refuses n o

-- an outcome moved along
abbrev pub shifted : ℕ → Outcome → Outcome
shifted d (reads e r) = reads (moved_entry d e) (shifted d r)
shifted d (ends o) = ends (d + o)
shifted d (refuses n o) = refuses n (d + o)

read_shift : (d : ℕ) (t : List Step) (at : ℕ) → read_from (d + at) t ≡ shifted d (read_from at t)
unfolding read_from
read_shift d [] at = refl
read_shift d (Lexeme k n m ∷ t) at =
    ap (reads (entry k (d + at) n (depth_by k m))) (ap (λ (o : ℕ). read_from o t) (omega arith) ∙ read_shift d t (at + n))
read_shift d (Space m ∷ t) at = ap (λ (o : ℕ). read_from o t) (omega arith) ∙ read_shift d t (at + 1)
read_shift d (Comment n ∷ t) at = ap (λ (o : ℕ). read_from o t) (omega arith) ∙ read_shift d t (at + n)
read_shift d (Refused r o ∷ t) at = ap (refuses r) (omega arith)
read_shift d (Finished ∷ t) at = refl

-- what holds of the last of some lexemes holds of the last of those behind the first
plain_behind : (q : List ℕ) (e : Entry) (es : List Entry) → LastNoFill q (e ∷ es) → LastNoFill q es
plain_behind q e [] p = tt
plain_behind q e (f ∷ es) p = p

-- a query read from an offset on, in a mode
abbrev read_at : Reading → List ℕ → ℕ → Mode → Outcome
read_at r q at m = read_from at (steps_past r 0 m (drop at q))

-- a fill word with nothing but white space behind it is the last lexeme
fill_last : (r : Reading) (q : List ℕ) (at k n : ℕ) (m : Mode) → keyword_of (take n (drop at q)) ≡ Some k → is_fill k ≡ true → run_end (is_in class.Space) (drop at q) n ≡ length (drop at q)
    → LastNoFill q (entry identifier at n (depth_by identifier m) ∷ lexemes (read_at r q (at + n) m)) → ⊥
fill_last r q at k n m w i white p =
    let s : n + run_length (is_in class.Space) (drop (at + n) q) ≡ length (drop at q) = rw drop-drop at white in
    let t : run_length (is_in class.Space) (drop (at + n) q) ≡ length (drop (at + n) q) = omega (arith, length-drop at q, length-drop (at + n) q) in
    true≢false (sym i ∙ rw (blank r (drop (at + n) q) m (at + n) t, w) at p)

module _ (r : Reading) (a b : List ℕ) where
  abbrev behind : Outcome
  behind = read_from (suc (length a)) (steps_of r b)

  abbrev JoinsAt : ℕ → Mode → Type 0
  JoinsAt at m = Accepts (read_at r a at m) → LastNoFill a (lexemes (read_at r a at m)) → read_at r (joined a b) at m ≡ graft (read_at r a at m) behind

  -- an accepted reading that has come to the first query's end is outside all, and goes on behind the newline
  join_behind : (m : Mode) (o p : ℕ) → o ≡ length a → p ≡ length a + 1 → Accepts (read_at r a o m) → read_at r (joined a b) p m ≡ graft (read_at r a o m) behind
  join_behind m o p e f h =
      let d = ended r m (length a) (rw (e, drop-length) at h) in
      rw (e, f, drop-length a, d.0, d.1, drop-append-add a (code "\n" ∷ b) 1, add-one)

  join_end : (m : Mode) → JoinsAt (length a) m
  unfolding read_from
  join_end m h p =
      let d = ended r m (length a) (rw drop-length at h) in
      let e : munched r outside (drop (length a) (joined a b)) ≡ Space outside = rw (drop-append_seam a (code "\n" ∷ b)) (line_step r b) in
      let f : read_at r (joined a b) (length a) m ≡ read_at r (joined a b) (length a + 1) m = rw (d.1, steps_at r (joined a b) (length a) outside _ e) in
      f ∙ join_behind m (length a) (length a + 1) refl refl h

  module _ (bytes : Bytes a) (at : ℕ) (m : Mode) (l : at < length a) (rest : (n : ℕ) (m' : Mode) → 1 ≤ n → n ≤ length (drop at a) → JoinsAt (at + n) m') where
    join_step : {s s⁺ : Step} → Seam (drop at a) s s⁺ → munched r m (drop at a) ≡ s → munched r m (drop at (joined a b)) ≡ s⁺ → JoinsAt at m
    unfolding read_from
    join_step (same (Lexeme k n m')) e f =
        let g = goes_at r a at m e in
        rw (steps_at r a at m _ e, steps_at r (joined a b) at m _ f)
        (λ h p. ap (reads (entry k at n (depth_by k m'))) (rest n m' g.some g.within h (plain_behind a (entry k at n (depth_by k m')) (lexemes (read_at r a (at + n) m')) p)))
    join_step (same (Space m')) e f =
        rw (steps_at r a at m _ e, steps_at r (joined a b) at m _ f) (rest 1 m' (omega arith) (goes_at r a at m e).within)
    join_step (same (Comment n)) e f =
        let g = goes_at r a at m e in
        rw (steps_at r a at m _ e, steps_at r (joined a b) at m _ f) (rest n m g.some g.within)
    join_step (same (Refused number o)) e f = rw (steps_at r a at m _ e) (λ h p. absurd h)
    -- no byte is the end
    join_step (same Finished) e f =
        let g : peek_at a at ≡ end = rw (get_or-drop, add-zero) at (goes_at r a at m e).0 in
        absurd (omega (arith, bytes at l))
    join_step grown e f =
        let k = length (drop at a) in
        rw (steps_at r a at m _ e, steps_at r (joined a b) at m _ f)
        (λ h p. join_behind m (at + k) (at + suc k) (omega (arith, length-drop at a)) (omega (arith, length-drop at a)) h)
    join_step (called k n m' w i white) e f = rw (steps_at r a at m _ e) (λ h p. absurd (fill_last r a at k n m' w i white p))
    join_step (refused number o s) e f = rw (steps_at r a at m _ e) (λ h p. absurd h)

  -- fewer bytes of the first query are left than k
  joins : Bytes a → (k at : ℕ) (m : Mode) → at ≤ length a → length a < at + k → JoinsAt at m
  joins bytes zero at m l h = absurd (omega arith)
  joins bytes (suc k) at m l h = go (dec_lt at (length a)) (joins bytes k)
    where
      seam : at < length a → Seam (drop at a) (munched r m (drop at a)) (munched r m (drop at (joined a b)))
      seam i = rw (drop-append-le at a (code "\n" ∷ b) l) (step_seam r m (drop at a) b (omega (arith, length-drop at a)))

      go : Dec (at < length a) → ((at : ℕ) (m : Mode) → at ≤ length a → length a < at + k → JoinsAt at m) → JoinsAt at m
      go (yes i) ih = join_step bytes at m i (λ n m' s w. ih (at + n) m' (omega (arith, length-drop at a)) (omega arith)) (seam i) refl refl
      go (no i) ih = let e : at ≡ length a = omega arith in rw e (join_end m)

  pub read_joined : Bytes a → Accepts (outcome_of r a) → LastNoFill a (lexemes (outcome_of r a)) → outcome_of r (joined a b) ≡ graft (outcome_of r a) (shifted (suc (length a)) (outcome_of r b))
  read_joined bytes h p =
      joins bytes (suc (length a)) 0 outside (omega arith) (omega arith) h p ∙ ap (graft (outcome_of r a)) (rw add-zero at (read_shift (suc (length a)) (steps_of r b) 0))
