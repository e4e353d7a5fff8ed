-- Demand 3. What comes of the joined query is the first's lexemes and what comes of the second moved along (`read_joined`), so its lexemes and their
-- count follow. What is before the second query is text, the newline too: so the join is text where the second query is, and else its text
-- ends where the second query's does, moved along; and so do the character numbers of places.
use Prim.Native.Nat.{ℕ, suc, pred, ◌+◌, ◌≤◌}
use Prim.Native.Char.{code}
use native.Mathlib.Decide.{ℕ_discrete}
use native.Mathlib.Omega.{arith}
use mathlib.Core.List.{List, [], ◌∷◌, ◌++◌, map}
use mathlib.Core.Path.{◌≡◌, refl, ap, ◌∙◌}
use lib.ListN.{length, length-append, length-map}
use lib.Seq.{take-append_seam}
use Rattle.std.specs.Prelude.{Err, Ok}
use Rattle.utf8.specs.declared.Place.{Place}
use Rattle.utf8.specs.declared.Reading.{Reading}
use Rattle.utf8.specs.Text.{chars_of, prefix_end, WellFormed, char_number}
use Rattle.utf8.specs.Answers.{place, place_at, text_limit, not_utf8}
use Rattle.utf8.proofs.Laws.{ascii_head, prefix_join, number_join}
use Rattle.utf8.proofs.Given.{given_exactly}
use Rattle.lex.specs.Outcome.{Entry, Outcome, reads, ends, refuses, outcome_of}
use Rattle.lex.specs.Lex.{eof, entries, entries_of, answer_by, measured, lexed, roomed}
use Rattle.lex.proofs.Given.{measured_given}
use Rattle.join.specs.laws.Join.{joined, front, Joins, moved_entry, moved_behind, JoinAnswer, JoinEntries, JoinRoomed}
use Rattle.utf8.proofs.Bytes.{text_bytes}
use Rattle.join.proofs.Steps.{Accepts, lexemes}
use Rattle.join.proofs.Readings.{graft, shifted, read_joined}

-- the lexemes of a reading that goes on in another, and of one moved along
entries_graft : (r u : Outcome) → Accepts r → entries (graft r u) ≡ lexemes r ++ entries u
entries_graft (reads e r) u a = ap (λ (es : List Entry). e ∷ es) (entries_graft r u a)
entries_graft (ends o) u a = refl
entries_graft (refuses n o) u a = absurd a

entries_shift : (d : ℕ) (r : Outcome) → entries (shifted d r) ≡ map (moved_entry d) (entries r)
entries_shift d (reads e r) = ap (λ (es : List Entry). moved_entry d e ∷ es) (entries_shift d r)
entries_shift d (ends o) = refl
entries_shift d (refuses n o) = refl

-- those before the end mark
entries_end : (r : Outcome) → Accepts r → (o : ℕ) × (entries r ≡ lexemes r ++ eof o ∷ [])
entries_end (reads e r) a = let t = entries_end r a in (t.0, ap (λ (es : List Entry). e ∷ es) t.1)
entries_end (ends o) a = (o, refl)
entries_end (refuses n o) a = absurd a

-- what answers a count is accepted; and what answers where one goes on in another
answer_accepts : (q : List ℕ) (k n : ℕ) (r : Outcome) → answer_by q k r ≡ Ok n → Accepts r
unfolding answer_by
answer_accepts q k n (reads e r) h = answer_accepts q k n r h
answer_accepts q k n (ends o) h = tt
answer_accepts q k n (refuses m o) h = let z : ◌≡◌ {A = ℕ} 0 1 = cc in absurd (omega arith)

answer_graft : (q : List ℕ) (k : ℕ) (r u : Outcome) → Accepts r → answer_by q k (graft r u) ≡ answer_by q k u
unfolding answer_by
answer_graft q k (reads e r) u a = answer_graft q k r u a
answer_graft q k (ends o) u a = refl
answer_graft q k (refuses n o) u a = absurd a

module _ (r : Reading) (a b : List ℕ) (n : ℕ) (j : Joins r a n) where
  -- what its count says of A: it is text, and its reading is accepted
  text : WellFormed a
  text = ((measured_given r a n).0 j.accepted).0.1

  accepts : Accepts (outcome_of r a)
  unfolding measured
  accepts =
      answer_accepts a (length (entries_of r a)) n (outcome_of r a) (rw ((given_exactly text_limit a).2.1 ((measured_given r a n).0 j.accepted).0) at j.accepted)

  -- all but the end mark
  few : pred (length (entries_of r a)) ≡ length (lexemes (outcome_of r a))
  few =
      let t = entries_end (outcome_of r a) accepts in
      rw t.1 (omega (arith, length-append (lexemes (outcome_of r a)) (eof t.0 ∷ [])))

  front_is : front r a ≡ lexemes (outcome_of r a)
  front_is =
      let t = entries_end (outcome_of r a) accepts in
      rw (few, t.1) (take-append_seam (lexemes (outcome_of r a)) (eof t.0 ∷ []))

  read_is : outcome_of r (joined a b) ≡ graft (outcome_of r a) (shifted (suc (length a)) (outcome_of r b))
  read_is = read_joined r a b (text_bytes a text) accepts (rw front_is at j.plain)

  entries_are : entries_of r (joined a b) ≡ front r a ++ map (moved_entry (suc (length a))) (entries_of r b)
  entries_are =
      rw (front_is, read_is, ← entries_shift)
      (entries_graft (outcome_of r a) (shifted (suc (length a)) (outcome_of r b)) accepts)

  -- the join's text ends where that of the second query does, moved along, and so do places
  prefix_is : prefix_end (joined a b) ≡ suc (length a) + prefix_end b
  prefix_is = omega (arith, prefix_join a (code "\n" ∷ b) text, (ascii_head (code "\n") b (omega arith)).0)

  place_is : (o : ℕ) → place_at (joined a b) (suc (length a) + o) ≡ place (suc (length a) + o) (suc (length (chars_of a)) + char_number b o)
  place_is o =
      let e : suc (length a) + o ≡ length a + suc o = omega arith in
      ap (place (suc (length a) + o))
      (ap (char_number (joined a b)) e ∙ (number_join a (code "\n" ∷ b) text (suc o)).0 ∙ omega (arith, (ascii_head (code "\n") b (omega arith)).1 o))

  answer_shift : (k : ℕ) (u : Outcome) → answer_by (joined a b) (pred n + k) (shifted (suc (length a)) u) ≡ moved_behind a n (answer_by b k u)
  unfolding answer_by
  answer_shift k (reads e u) = answer_shift k u
  answer_shift k (ends o) = refl
  answer_shift k (refuses number o) = ap (λ (p : Place). Err (record { number = number; place = p })) (place_is o)

  -- how many lexemes the join has
  count_is : length (entries_of r (joined a b)) ≡ pred n + length (entries_of r b)
  count_is =
      let u = map (moved_entry (suc (length a))) (entries_of r b) in
      omega (arith, ap (λ (es : List Entry). length es) entries_are, length-append (front r a) u, length-map (entries_of r b) (moved_entry (suc (length a))), ap (λ (es : List Entry). length es) front_is, few, ((measured_given r a n).0 j.accepted).2)

  reading_is : answer_by (joined a b) (length (entries_of r (joined a b))) (outcome_of r (joined a b)) ≡ moved_behind a n (answer_by b (length (entries_of r b)) (outcome_of r b))
  reading_is =
      let u = shifted (suc (length a)) (outcome_of r b) in
      rw (count_is, read_is) (answer_graft (joined a b) (pred n + length (entries_of r b)) (outcome_of r a) u accepts)
      ∙ answer_shift (length (entries_of r b)) (outcome_of r b)

  long : length (joined a b) ≡ suc (length a) + length b
  long = omega (arith, length-append a (code "\n" ∷ b))

  answer : length (joined a b) ≤ text_limit → Dec (WellFormed b) → measured r (joined a b) ≡ moved_behind a n (measured r b)
  unfolding measured
  answer l (yes w) =
      rw ((given_exactly text_limit (joined a b)).2.1 (omega arith, omega (arith, long, prefix_is)), (given_exactly text_limit b).2.1 (omega (arith, long), w))
      reading_is
  answer l (no w) =
      rw ((given_exactly text_limit (joined a b)).1.1 (omega arith, λ v. w (omega (arith, long, prefix_is))), (given_exactly text_limit b).1.1 (omega (arith, long), w), prefix_is)
      (ap (λ (p : Place). Err (not_utf8 p)) (place_is (prefix_end b)))

pub join_answer : JoinAnswer
join_answer r a b n j l = answer r a b n j l (ℕ_discrete (prefix_end b) (length b))

pub join_entries : JoinEntries
join_entries r a b n j = entries_are r a b n j

pub join_roomed : JoinRoomed
unfolding lexed
join_roomed r a b n room j l = ap (roomed room) (join_answer r a b n j l)
