-- Lists into which a pass writes lexemes one after the other. A store past the end of a list changes nothing, so a list with all that is still to come
-- written to it (`ending`) is the same before a step and behind it, with room or without. `Leads` says so of the four lists and of the answer: it is what
-- a loop keeps, and what a function that does a part of a pass promises.
use Prim.Native.Nat.{ℕ, suc, ◌+◌, ◌≤◌}
use native.Mathlib.Omega.{arith}
use native.Mathlib.Numerals.{add-one}
use mathlib.Core.List.{List, [], ◌∷◌, ◌++◌, map, append-nil}
use mathlib.Core.Path.{◌≡◌, refl, sym, ap, ◌∙◌}
use lib.ListN.{length, take, drop, set, drop_of_length-le, length-set, length-map}
use lib.Seq.{sets, take-nil, take_all, take_at, length-take-le}
use Rattle.utf8.specs.declared.Reading.{Reading}
use Rattle.token.specs.Kinds.{eof_kind}
use Rattle.lex.specs.Outcome.{Entry, Outcome, reads, ends, refuses, outcome_of}
use Rattle.lex.specs.Lex.{entries_of, listed, kind_of, starts_at, length_of, depth_of}
use Rattle.lex.specs.steps.Tally.{read_to, refused_by, tallied, tally_of}
use Rattle.lex.specs.steps.Pass.{filled, Alike, State, state, Kept, Leads}

-- stores behind the head, and in no list
sets_behind : (x : ℕ) (l : List ℕ) (i : ℕ) (vs : List ℕ) → sets (x ∷ l) (suc i) vs ≡ x ∷ sets l i vs
sets_behind x l i [] = refl
sets_behind x l i (v ∷ vs) = sets_behind x (set l i v) (suc i) vs

sets_none : (i : ℕ) (vs : List ℕ) → sets [] i vs ≡ []
sets_none i [] = refl
sets_none i (v ∷ vs) = sets_none (suc i) vs

-- stores from the front on, as many as have room
sets_fit : (vs l : List ℕ) → sets l 0 vs ≡ take (length l) vs ++ drop (length vs) l
sets_fit [] l = rw take-nil
sets_fit (v ∷ vs) [] = sets_none 1 vs
sets_fit (v ∷ vs) (x ∷ l) = sets_behind v l 0 vs ∙ ap (λ (r : List ℕ). v ∷ r) (sets_fit vs l)

-- for each list
kept_start : (f : Entry → ℕ) (d : List ℕ) (a : State) → Kept f d a d a
kept_start f d a = record { same = refl; goes = refl }

kept_on : {f : Entry → ℕ} {c d e : List ℕ} {a b z : State} → Kept f c a d b → Kept f d b e z → Kept f c a e z
kept_on h k = record { same = k.same ∙ h.same; goes = h.goes ∙ k.goes }

pub leads_start : (a : State) → Leads a a
leads_start a = record { tally = refl; kinds = kept_start kind_of _ a; starts = kept_start starts_at _ a; lengths = kept_start length_of _ a; depths = kept_start depth_of _ a }

pub leads_on : {a b c : State} → Leads a b → Leads b c → Leads a c
leads_on h k =
    record { tally = h.tally ∙ k.tally; kinds = kept_on h.kinds k.kinds; starts = kept_on h.starts k.starts; lengths = kept_on h.lengths k.lengths; depths = kept_on h.depths k.depths }

-- the lists stay equally long
pub leads_alike : {a b : State} → Leads a b → Alike a.kinds a.starts a.lengths a.depths → Alike b.kinds b.starts b.lengths b.depths
leads_alike w h = let k = sym w.kinds.same in (w.starts.same ∙ h.0 ∙ k, w.lengths.same ∙ h.1 ∙ k, w.depths.same ∙ h.2 ∙ k)

-- a lexeme is written to each
abbrev pub Puts : List ℕ → List ℕ → List ℕ → List ℕ → ℕ → Entry → List ℕ → List ℕ → List ℕ → List ℕ → Type 0
Puts ks ss ls ds i e ks' ss' ls' ds' = (ks' ≡ set ks i (kind_of e)) × ((ss' ≡ set ss i (starts_at e)) × ((ls' ≡ set ls i (length_of e)) × (ds' ≡ set ds i (depth_of e))))

module _ {ks ss ls ds ks' ss' ls' ds' : List ℕ} {i : ℕ} {e : Entry} {r : Outcome} where
  kept_put : (f : Entry → ℕ) {d d' : List ℕ} → d' ≡ set d i (f e) → Kept f d (state ks ss ls ds i (reads e r)) d' (state ks' ss' ls' ds' (i + 1) r)
  kept_put f {d} p = record { same = rw p (length-set d i (f e)); goes = rw (p, add-one) }

  pub leads_put : Puts ks ss ls ds i e ks' ss' ls' ds' → Leads (state ks ss ls ds i (reads e r)) (state ks' ss' ls' ds' (i + 1) r)
  unfolding tallied
  leads_put p = record { tally = refl; kinds = kept_put kind_of p.0; starts = kept_put starts_at p.1.0; lengths = kept_put length_of p.1.1.0; depths = kept_put depth_of p.1.1.1 }

-- what a pass over a query has left in its lists
abbrev pub Filled : Reading → List ℕ → List ℕ → List ℕ → List ℕ → List ℕ → List ℕ → List ℕ → List ℕ → List ℕ → Type 0
Filled r q ks₀ ss₀ ls₀ ds₀ ks ss ls ds =
    (ks ≡ filled r kind_of q ks₀) × ((ss ≡ filled r starts_at q ss₀) × ((ls ≡ filled r length_of q ls₀) × (ds ≡ filled r depth_of q ds₀)))

fill : (r : Reading) (f : Entry → ℕ) (q d₀ : List ℕ) {d : List ℕ} → sets d₀ 0 (map f (entries_of r q)) ≡ d → d ≡ filled r f q d₀
fill r f q d₀ h = sym h ∙ sets_fit (map f (entries_of r q)) d₀ ∙ rw length-map

module _ (r : Reading) (q : List ℕ) {ks₀ ss₀ ls₀ ds₀ ks ss ls ds : List ℕ} {i : ℕ} where
  -- where it refuses
  pub leads_refused : {n o : ℕ} → Leads (state ks₀ ss₀ ls₀ ds₀ 0 (outcome_of r q)) (state ks ss ls ds i (refuses n o))
      → (refused_by n o ≡ tally_of r q) × Filled r q ks₀ ss₀ ls₀ ds₀ ks ss ls ds
  unfolding tallied
  leads_refused w = (sym w.tally, (fill r kind_of q ks₀ w.kinds.goes, (fill r starts_at q ss₀ w.starts.goes, (fill r length_of q ls₀ w.lengths.goes, fill r depth_of q ds₀ w.depths.goes))))

  -- where it ends, behind the writing of the end's lexeme
  pub leads_end : {o : ℕ} {ks' ss' ls' ds' : List ℕ} → Leads (state ks₀ ss₀ ls₀ ds₀ 0 (outcome_of r q)) (state ks ss ls ds i (ends o))
      → (ks' ≡ set ks i eof_kind) × ((ss' ≡ set ss i o) × ((ls' ≡ set ls i 0) × (ds' ≡ set ds i 0))) → (read_to o (i + 1) ≡ tally_of r q) × Filled r q ks₀ ss₀ ls₀ ds₀ ks' ss' ls' ds'
  unfolding tallied
  leads_end w p = (sym w.tally, (fill r kind_of q ks₀ (w.kinds.goes ∙ sym p.0), (fill r starts_at q ss₀ (w.starts.goes ∙ sym p.1.0), (fill r length_of q ls₀ (w.lengths.goes ∙ sym p.1.1.0), fill r depth_of q ds₀ (w.depths.goes ∙ sym p.1.1.1)))))

-- a list with room for the n lexemes of a query: what a pass has left in another with that room is copied to it, or a pass goes over just its front
module _ (r : Reading) (f : Entry → ℕ) (q d : List ℕ) (n : ℕ) (e : n ≡ length (entries_of r q)) where
  all : length (map f (entries_of r q)) ≡ n
  all = length-map (entries_of r q) f ∙ sym e

  pub copied_all : (k₀ : List ℕ) {k x : List ℕ} → n ≤ length k₀ → k ≡ filled r f q k₀ → x ≡ take n k ++ drop n d → x ≡ listed r f q d
  copied_all k₀ h g p =
      p ∙ rw (g, take_all (length k₀) (map f (entries_of r q)) (omega (arith, all)), take_at (map f (entries_of r q)) (drop (length (entries_of r q)) k₀) n all, e)

  pub again_all : {k x : List ℕ} → n ≤ length d → k ≡ filled r f q (take n d) → x ≡ k ++ drop n d → x ≡ listed r f q d
  again_all h g p =
      let t : length (take n d) ≡ n = length-take-le n d h in
      p ∙ rw (g, t, take_all n (map f (entries_of r q)) (omega (arith, all)), drop_of_length-le (take n d) {i = length (entries_of r q)} (omega arith), append-nil, e)
