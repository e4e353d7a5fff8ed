-- Demand 3: "Joining two queries by a newline joins their lexemes". A is accepted, and its last lexeme is no fill word, which would look past the
-- newline; of B nothing is asked. Document 02, L2: it "holds where A, B and the join use one reading"; each statement is for any one, and so L5's "proved again
-- for this reading": a string is read up to its closing sign alone, with escapes or without.
-- `proofs/Join` has the proofs.
use Rattle.std.specs.Prelude.{ℕ, suc, pred, ◌+◌, ◌≤◌, Bool, false, List, [], ◌∷◌, ◌++◌, map, ◌≡◌, length, take, drop, Err, None, Ok, Option, Result, Some}
use Prim.Native.Char.{code}
use Rattle.utf8.specs.declared.Reading.{Reading}
use Rattle.utf8.specs.declared.Refusal.{Refusal}
use Rattle.utf8.specs.Text.{chars_of}
use Rattle.utf8.specs.Answers.{text_limit, place}
use Rattle.token.specs.Words.{keyword_of}
use Rattle.munch.specs.Word.{is_fill}
use Rattle.lex.specs.Outcome.{Entry, entry}
use Rattle.lex.specs.Lex.{entries_of, measured, lexed, roomed}

-- two queries with a newline between
abbrev pub joined : List ℕ → List ℕ → List ℕ
joined a b = a ++ code "\n" ∷ b

-- the lexemes of a query without its end mark
abbrev pub front : Reading → List ℕ → List Entry
front r q = take (pred (length (entries_of r q))) (entries_of r q)

-- a lexeme is the word fill, fill_left or fill_right in any case
abbrev pub is_fill_kind : Option ℕ → Bool
is_fill_kind (Some k) = is_fill k
is_fill_kind None = false

abbrev pub is_fill_word : List ℕ → Entry → Bool
is_fill_word q e = is_fill_kind (keyword_of (take e.length (drop e.start q)))

-- the last of these is not
abbrev pub LastNoFill : List ℕ → List Entry → Type 0
LastNoFill q [] = Unit {0}
LastNoFill q (e ∷ []) = is_fill_word q e ≡ false
LastNoFill q (e ∷ f ∷ es) = LastNoFill q (f ∷ es)

-- "A accepted whose last lexeme before its end mark is not .."
pub record Joins (r : Reading) (a : List ℕ) (n : ℕ) : Type 0 where
  pub accepted : measured r a ≡ Ok n
  pub plain : LastNoFill a (front r a)

-- moved along by so many bytes, and so many characters; document 02, L7: "Demand 3 gives B's depths as they are"
abbrev pub moved_entry : ℕ → Entry → Entry
moved_entry d e = entry e.kind (d + e.start) e.length e.depth

abbrev pub moved_refusal : ℕ → ℕ → Refusal → Refusal
moved_refusal d c r = record { number = r.number; place = place (d + r.place.byte.0) (c + r.place.character.0) }

-- B's answer behind A, which has n lexemes, its end mark among them
abbrev pub moved_behind : List ℕ → ℕ → Result ℕ Refusal → Result ℕ Refusal
moved_behind a n (Ok k) = Ok (pred n + k)
moved_behind a n (Err r) = Err (moved_refusal (suc (length a)) (suc (length (chars_of a))) r)

-- the answer, within the limit
abbrev pub JoinAnswer : Type 0
JoinAnswer =
    (r : Reading) (a b : List ℕ) (n : ℕ) → Joins r a n → length (joined a b) ≤ text_limit → measured r (joined a b) ≡ moved_behind a n (measured r b)

-- the lexemes; of a B that is refused, those before its refusal
abbrev pub JoinEntries : Type 0
JoinEntries =
    (r : Reading) (a b : List ℕ) (n : ℕ) → Joins r a n → entries_of r (joined a b) ≡ front r a ++ map (moved_entry (suc (length a))) (entries_of r b)

-- and in so much room
abbrev pub JoinRoomed : Type 0
JoinRoomed =
    (r : Reading) (a b : List ℕ) (n room : ℕ) → Joins r a n → length (joined a b) ≤ text_limit → lexed r room (joined a b) ≡ roomed room (moved_behind a n (measured r b))
