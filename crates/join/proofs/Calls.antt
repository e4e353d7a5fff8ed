-- The join, said of three calls: of whatever answers and contents the promise of `lexer` allows. What an accepted call wrote are the query's lexemes
-- (`writes`), so the laws of the definitions carry over; what the room decides of B's answer and of the join's, it decides of each by itself.
use Prim.Native.Nat.{ℕ, suc, pred, ◌+◌, ◌≤◌, ◌<◌}
use native.Mathlib.Omega.{arith}
use mathlib.Core.Bool.{Bool, true, false, cond}
use mathlib.Core.List.{List, [], ◌∷◌, ◌++◌, map, map-append}
use mathlib.Core.Path.{◌≡◌, refl, sym, ap, ap₂, ◌∙◌}
use borrow.Author.Tests.{le-leb, lt-leb}
use lib.Dec.{leb}
use lib.ListN.{length, take}
use lib.Seq.{take-take}
use Rattle.std.proofs.lemmas.List.{map-id, take-map}
use Rattle.std.specs.Prelude.{Err, Ok, Result}
use Rattle.utf8.specs.declared.Reading.{Reading}
use Rattle.utf8.specs.declared.Refusal.{Refusal}
use Rattle.utf8.specs.Answers.{no_room}
use Rattle.lex.specs.Outcome.{Entry}
use Rattle.lex.specs.Lex.{entries_of, measured, roomed, lexed, kind_of, starts_at, length_of, depth_of}
use Rattle.lex.proofs.Given.{measured_given, lexing_given}
use Rattle.calls.specs.laws.Calls.{room_in}
use Rattle.calls.proofs.Calls.{answered, counted, writes, keeps}
use Rattle.join.specs.laws.Calls.{JoinCalls, JoinsIn, CallsJoin, CallsShort, CallsRefused}
use Rattle.join.specs.laws.Join.{joined, front, moved_entry, moved_behind}
use Rattle.join.proofs.Join.{join_answer, join_entries}

-- a refusal but for want of room is the measure's
room_refused : (room : ℕ) (r : Refusal) (x : Result ℕ Refusal) → (¬ (r.number ≡ no_room.number)) → roomed room x ≡ Err r → x ≡ Err r
room_refused room r (Ok m) d h = go (leb m room) h
  where
    go : (b : Bool) → cond b (Ok m) (Err no_room) ≡ Err r → Ok m ≡ Err r
    go true e = e
    go false e = absurd (d (cc))
room_refused room r (Err s) d e = e

-- numbers of lexemes that are moved along
moved_all : (d : ℕ) (f : Entry → ℕ) (g : ℕ → ℕ) → ((e : Entry) → f (moved_entry d e) ≡ g (f e)) → (es : List Entry) → map f (map (moved_entry d) es) ≡ map g (map f es)
moved_all d f g h [] = refl
moved_all d f g h (e ∷ es) = ap₂ (λ (x : ℕ) (xs : List ℕ). x ∷ xs) (h e) (moved_all d f g h es)

module _ (r : Reading) (a b : List ℕ) (n : ℕ) (j : JoinCalls r a b n) where
  -- the numbers of A's lexemes without its end mark, and of B's behind them, are those of the join
  lists : (f : Entry → ℕ) (g : ℕ → ℕ) → ((x : Entry) → f (moved_entry (suc (length a)) x) ≡ g (f x)) → (us : List ℕ) → take n us ≡ map f (entries_of r a)
      → map f (entries_of r (joined a b)) ≡ take (pred n) us ++ map g (map f (entries_of r b))
  lists f g m us u =
      let c = counted r a j.first n j.accepted in
      ap (map f) (join_entries r a b n (record { accepted = c.0; plain = j.plain }))
      ∙ map-append f (front r a) (map (moved_entry (suc (length a))) (entries_of r b))
      ∙ ap₂ (λ (xs ys : List ℕ). xs ++ ys)
      (ap (λ (i : ℕ). map f (take (pred i) (entries_of r a))) (sym c.1) ∙ sym (take-map f (pred n) (entries_of r a)) ∙ ap (take (pred n)) (sym u) ∙ take-take (pred n) n us (omega arith))
      (moved_all (suc (length a)) f g m (entries_of r b))

  answer : measured r (joined a b) ≡ moved_behind a n (measured r b)
  answer = join_answer r a b n (record { accepted = (counted r a j.first n j.accepted).0; plain = j.plain }) j.limit

  module _ (k : ℕ) (h : measured r b ≡ Ok k) where
    lacks : room_in j.both < pred n + k → j.both.result ≡ Err no_room
    unfolding lexed
    lacks l = answered r (joined a b) j.both ∙ rw (answer, h, lt-leb (pred n + k) (room_in j.both) l)

    counts : pred n + k ≤ room_in j.both → j.both.result ≡ Ok (pred n + k)
    unfolding lexed
    counts l = answered r (joined a b) j.both ∙ rw (answer, h, le-leb (pred n + k) (room_in j.both) l)

    -- a list of numbers that moving along leaves as they are
    same : (f : Entry → ℕ) → ((x : Entry) → f (moved_entry (suc (length a)) x) ≡ f x) → (us ws : List ℕ) → take n us ≡ map f (entries_of r a)
        → take (pred n + k) ws ≡ map f (entries_of r (joined a b)) → take (pred n + k) ws ≡ take (pred n) us ++ map f (entries_of r b)
    same f m us ws u w = w ∙ lists f (λ x. x) m us u ∙ ap (λ (xs : List ℕ). take (pred n) us ++ xs) (map-id (map f (entries_of r b)))

    -- in every room, with B's lexemes
    joins : let es = entries_of r b in JoinsIn j k (map kind_of es) (map starts_at es) (map length_of es) (map depth_of es)
    joins =
        record {
          fits = λ l.
              let A = writes r a j.first n j.accepted in
              let J = writes r (joined a b) j.both (pred n + k) (counts l) in (
                counts l,
                same kind_of (λ x. refl) _ _ A.0 J.0,
                J.1 ∙ lists starts_at (λ x. suc (length a) + x) (λ x. refl) _ A.1,
                same length_of (λ x. refl) _ _ A.2 J.2,
                same depth_of (λ x. refl) _ _ A.3 J.3,
              );
          short = λ l. (lacks l, keeps r (joined a b) j.both _ (lacks l));
        }

pub calls_join : CallsJoin
calls_join r a b n j k h =
    let w = writes r b j.second k h in
    rw (w.0, w.1, w.2, w.3) (joins r a b n j k (counted r b j.second k h).0)

pub calls_short : CallsShort
calls_short r a b n j h =
    let w = (lexing_given r (room_in j.second) b).3.0 (sym (answered r b j.second) ∙ h) in
    (w.2, joins r a b n j _ ((measured_given r b _).1 (w.0, w.1, refl)))

pub calls_refused : CallsRefused
unfolding lexed
calls_refused r a b n j refusal h d =
    let e = answered r (joined a b) j.both ∙ ap (roomed (room_in j.both)) (answer r a b n j ∙ ap (moved_behind a n) (room_refused (room_in j.second) refusal (measured r b) d (sym (answered r b j.second) ∙ h))) in
    (e, keeps r (joined a b) j.both _ e)
