-- When each answer of reading a literal is given: of any literal and room one of the six rows holds, which gives its own answer, and no two
-- rows give the same (`exactly`). What makes a literal bad is read off the tests, in their order, and where, off its cases (`Faults`).
use Prim.Native.Nat.{ℕ, ◌-◌}
use native.Mathlib.Decide.{dec_lt, ℕ_discrete}
use native.Mathlib.Omega.{arith}
use mathlib.Core.Bool.{Bool, true, false, cond, ◌||◌, not}
use mathlib.Core.List.{List}
use mathlib.Core.Logic.{◌↔◌}
use Rattle.std.specs.Prelude.{Err, None, Ok, Option, Result, Some, unwrap_or}
use Rattle.utf8.specs.declared.Refusal.{Refusal}
use mathlib.Core.Path.{◌≡◌, refl, sym, ap, subst, ◌∙◌}
use lib.Dec.{eqb, ltb}
use lib.ListN.{length}
use borrow.Author.Tests.{le-leb, lt-leb}
use Rattle.scan.specs.Byte.{peek_at, backslash, backquote, is_quote}
use Rattle.proving.proofs.Choice.{exactly}
use Rattle.proving.proofs.Tests.{Tests, affirmed, decided, tests_or, tests_and, tests_not, tests_eq, tests_lt}
use Rattle.scan.proofs.Stands.{tests_has}
use Rattle.utf8.specs.declared.Reading.{Reading}
use Rattle.utf8.specs.Text.{prefix_end, WellFormed}
use Rattle.utf8.specs.Answers.{text_limit, place_at, too_long, not_utf8, no_room}
use Rattle.utf8.specs.laws.Refusals.{TooLong, NotUtf8, NoRoom, Taken}
use Rattle.utf8.proofs.Given.{given_exactly}
use Rattle.string.specs.Tiles.{tiles_of, has_bad}
use Rattle.string.specs.Literal.{sign_of, inner_of, has_newline, fault_of, is_fault, is_bad_literal, has_escape, unquoted, extent_of, bad_literal, unquoting_of}
use Rattle.string.specs.laws.Refusals.{BadLiteral, Fault, FaultAt, WithEscape, UnquotingGiven}
use Rattle.string.proofs.Literals.{good_none}
use Rattle.string.proofs.There.{tests_bad}
use Rattle.string.proofs.Faults.{tests_quote, tests_newline, tells, faults_bad}
use Rattle.string.specs.declared.Unquoted.TheVariants.{Inner, Written}
use Rattle.string.specs.declared.Unquoted.{Unquoted}

-- what makes a literal bad
module _ (xs : List ℕ) where
  abbrev q : ℕ
  q = sign_of xs

  tests_escape : Tests (has_escape q (inner_of xs)) (WithEscape xs)
  unfolding has_escape
  tests_escape = tests_and (tests_not (tests_eq q backquote)) (tests_has backslash (inner_of xs))

  pub tests_literal : Tests (is_bad_literal xs) (BadLiteral xs)
  unfolding fault_of
  tests_literal =
      subst (λ (b : Bool). Tests b (BadLiteral xs)) (sym (any _ _ _ (ltb (length xs) 2) (not (eqb (peek_at xs (length xs - 1)) q)) (not (is_quote q)) (has_newline q (inner_of xs)) (has_bad (tiles_of q (inner_of xs)))))
      (tests_or (tests_lt (length xs) 2) (tests_or (tests_not (tests_eq (peek_at xs (length xs - 1)) q)) (tests_or (tests_not (tests_quote xs)) (tests_or (tests_newline xs) (tests_bad (tiles_of q (inner_of xs)))))))
    where
      any : (k n g : ℕ) (a b c d e : Bool) → is_fault (cond a (Some 0) (cond b (Some k) (cond c (Some 0) (cond d (Some n) (cond e (Some g) None))))) ≡ a || (b || (c || (d || e)))
      any k n g true b c d e = refl
      any k n g false true c d e = refl
      any k n g false false true d e = refl
      any k n g false false false true e = refl
      any k n g false false false false true = refl
      any k n g false false false false false = refl

data Row : Type 0 where
  long : Row
  broken : Row
  bad : Row
  short : Row
  inner : Row
  written : Row

abbrev row_of : Result Unquoted Refusal → Row
row_of (Ok (Inner n)) = inner
row_of (Ok (Written n)) = written
row_of (Err r) = cond (eqb r.number 1) long (cond (eqb r.number 2) broken (cond (eqb r.number 40) bad short))

abbrev fault_at : List ℕ → ℕ
fault_at xs = unwrap_or (fault_of xs) 0

module _ (r : Reading) (room : ℕ) (xs : List ℕ) where
  abbrev Holds : Row → Type 0
  Holds long = TooLong text_limit xs
  Holds broken = (TooLong text_limit xs → ⊥) × NotUtf8 xs
  Holds bad = Taken text_limit xs × BadLiteral xs
  Holds short = Taken text_limit xs × (BadLiteral xs → ⊥) × WithEscape xs × NoRoom room (unquoted r xs)
  Holds inner = Taken text_limit xs × (BadLiteral xs → ⊥) × (WithEscape xs → ⊥)
  Holds written = Taken text_limit xs × (BadLiteral xs → ⊥) × WithEscape xs × (NoRoom room (unquoted r xs) → ⊥)

  abbrev given : Row → Result Unquoted Refusal
  given long = Err too_long
  given broken = Err (not_utf8 (place_at xs (prefix_end xs)))
  given bad = Err (bad_literal xs (fault_at xs))
  given short = Err no_room
  given inner = Ok (Inner (length (inner_of xs)))
  given written = Ok (Written (length (unquoted r xs)))

  back : (w : Row) → row_of (given w) ≡ w
  back long = refl
  back broken = refl
  back bad = refl
  back short = refl
  back inner = refl
  back written = refl

  gives : (w : Row) → Holds w → unquoting_of r room xs ≡ given w
  unfolding unquoting_of extent_of
  gives long h = rw ((given_exactly text_limit xs).0.1 h)
  gives broken h = rw ((given_exactly text_limit xs).1.1 h)
  gives bad h = let (f, (p, a)) = (faults_bad xs h.0.1).0 h.1 in rw ((given_exactly text_limit xs).2.1 h.0, (tells xs f p a).1)
  gives short h =
      rw ((given_exactly text_limit xs).2.1 h.0, good_none xs (affirmed (tests_literal xs) h.1), (tests_escape xs).1 h.2, lt-leb (length (unquoted r xs)) room h.3)
  gives inner h =
      rw ((given_exactly text_limit xs).2.1 h.0, good_none xs (affirmed (tests_literal xs) h.1), affirmed (tests_escape xs) h.2)
  gives written h =
      rw ((given_exactly text_limit xs).2.1 h.0, good_none xs (affirmed (tests_literal xs) h.1), (tests_escape xs).1 h.2, le-leb (length (unquoted r xs)) room (omega (arith, h.3)))

  holding : Dec (TooLong text_limit xs) → Dec (WellFormed xs) → Dec (BadLiteral xs) → Dec (WithEscape xs) → Dec (NoRoom room (unquoted r xs)) → (w : Row) × Holds w
  holding (yes l) w b e d = (long, l)
  holding (no l) (no w) b e d = (broken, (l, w))
  holding (no l) (yes w) (yes b) e d = (bad, ((l, w), b))
  holding (no l) (yes w) (no b) (no e) d = (inner, ((l, w), b, e))
  holding (no l) (yes w) (no b) (yes e) (yes d) = (short, ((l, w), b, e, d))
  holding (no l) (yes w) (no b) (yes e) (no d) = (written, ((l, w), b, e, d))

  which : (w : Row) × Holds w
  which =
      holding (dec_lt text_limit (length xs)) (ℕ_discrete (prefix_end xs) (length xs)) (decided (tests_literal xs)) (decided (tests_escape xs)) (dec_lt room (length (unquoted r xs)))

  only : (w : Row) → unquoting_of r room xs ≡ given w → Holds w
  only w e = exactly row_of given back Holds which.0 which.1 (gives which.0 which.1) w e

  -- 40 is given at one place
  abbrev byte_of : Result Unquoted Refusal → ℕ
  byte_of (Ok t) = 0
  byte_of (Err s) = s.place.byte.0

  bad_given : (p : ℕ) → unquoting_of r room xs ≡ Err (bad_literal xs p) ↔ Taken text_limit xs × ((f : Fault) × FaultAt f xs p)
  bad_given p = (to, from)
    where
      at_fault : (f : Fault) (o : ℕ) → FaultAt f xs o → fault_at xs ≡ o
      at_fault f o a = ap (λ (v : Option ℕ). unwrap_or v 0) (tells xs f o a).1

      to : unquoting_of r room xs ≡ Err (bad_literal xs p) → Taken text_limit xs × ((f : Fault) × FaultAt f xs p)
      to e =
          let w = sym (back which.0) ∙ ap row_of (sym (gives which.0 which.1) ∙ e) in
          let h = subst Holds w which.1 in
          let (f, (o, a)) = (faults_bad xs h.0.1).0 h.1 in
          let s : fault_at xs ≡ p = ap byte_of (sym (gives bad h) ∙ e) in
          (h.0, (f, subst (FaultAt f xs) (sym (at_fault f o a) ∙ s) a))

      from : Taken text_limit xs × ((f : Fault) × FaultAt f xs p) → unquoting_of r room xs ≡ Err (bad_literal xs p)
      from (t, (f, a)) = gives bad (t, (faults_bad xs t.1).1 (f, (p, a))) ∙ ap (λ (o : ℕ). Err (bad_literal xs o)) (at_fault f p a)

pub unquoting_given : UnquotingGiven
unquoting_given r room xs = (
  (only r room xs long, gives r room xs long),
  (only r room xs broken, gives r room xs broken),
  bad_given r room xs,
  (only r room xs short, gives r room xs short),
  (only r room xs inner, gives r room xs inner),
  (only r room xs written, gives r room xs written),
)
