-- What a call of `lexer` answers and writes, by its promise: a count is that of the query's lexemes, which the fronts of the lists then hold.
use Prim.Native.Nat.{ℕ}
use mathlib.Core.Bool.{Bool, true, false, cond}
use mathlib.Core.List.{List, [], ◌∷◌, map}
use mathlib.Core.Path.{◌≡◌, refl, sym, ap, ap₂, ◌∙◌}
use native.Mathlib.Omega.{arith}
use lib.Dec.{leb}
use lib.ListN.{length, take, drop, length-map}
use lib.Seq.{take_at}
use Rattle.utf8.specs.declared.Refusal.{Refusal}
use Rattle.std.specs.Prelude.{Err, Ok, Result}
use Rattle.utf8.specs.declared.Reading.{Reading}
use Rattle.utf8.specs.Answers.{no_room}
use Rattle.lex.specs.Outcome.{Entry}
use Rattle.lex.specs.Lex.{entries_of, measured, roomed, lexed, listed, left_after, kind_of, starts_at, length_of, depth_of}
use Rattle.lex.proofs.Given.{measured_given}
use Rattle.calls.specs.laws.Calls.{LexCall, room_in, kinds_left, starts_left, lengths_left, depths_left, held, CallAnswers, CallCounts, CallWrites, CallLeaves, CallKeeps}

-- a count is the measure's
room_counted : (room n : ℕ) (x : Result ℕ Refusal) → roomed room x ≡ Ok n → x ≡ Ok n
room_counted room n (Ok m) h = go (leb m room) h
  where
    go : (b : Bool) → ◌≡◌ {A = Result ℕ Refusal} (cond b (Ok m) (Err no_room)) (Ok n) → ◌≡◌ {A = Result ℕ Refusal} (Ok m) (Ok n)
    go true e = e
    go false e = let z : ◌≡◌ {A = ℕ} 0 1 = cc in absurd (omega arith)
room_counted room n (Err r) e = let z : ◌≡◌ {A = ℕ} 0 1 = cc in absurd (omega arith)

pub answered : CallAnswers
answered r q c = c.post.0 ∙ ap₂ (λ (s : Reading) (t : List ℕ). lexed s (room_in c) t) c.in_reading c.of_query

pub counted : CallCounts
unfolding lexed
counted r q c n e = let m = room_counted (room_in c) n (measured r q) (sym (answered r q c) ∙ e) in (m, ((measured_given r q n).0 m).2)

-- a list that the call left, by the numbers that it holds
wrote : {r : Reading} {q : List ℕ} (c : LexCall r q) (n : ℕ) → c.result ≡ Ok n → (f : Entry → ℕ) (old new : List ℕ)
    → new ≡ left_after c.result (listed c.args.1.0 f c.args.0.now old) old → take n new ≡ map f (entries_of r q)
wrote {r} {q} c n e f old new h =
    rw (h, e, c.of_query, c.in_reading) (take_at (map f (entries_of r q)) (drop (length (entries_of r q)) old) n (length-map (entries_of r q) f ∙ sym (counted r q c n e).1))

pub writes : CallWrites
writes r q c n e =
    let w = wrote c n e in (
      w kind_of _ (kinds_left c) c.post.1.0,
      w starts_at _ (starts_left c) c.post.1.1.0,
      w length_of _ (lengths_left c) c.post.1.1.1.0,
      w depth_of _ (depths_left c) c.post.1.1.1.1,
    )

held_all : (es : List Entry) → held (map kind_of es) (map starts_at es) (map length_of es) (map depth_of es) ≡ es
held_all [] = refl
held_all (e ∷ es) = ap (λ xs. e ∷ xs) (held_all es)

pub leaves : CallLeaves
leaves r q c n e = let w = writes r q c n e in rw (w.0, w.1, w.2, w.3) (held_all (entries_of r q))

pub keeps : CallKeeps
keeps r q c refusal e = let w = rw e at c.post.1 in (w.0, w.1.0, w.1.1.0, w.1.1.1)
