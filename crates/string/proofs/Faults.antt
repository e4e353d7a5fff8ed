-- Where a literal goes wrong, by document 02's six cases: each tells which of them it is by the tests, and the offset that these lead to (`tells`),
-- so no two hold; and a bad literal is so in one of them (`faults_bad`).
use Prim.Native.Nat.{ℕ, zero, suc, ◌-◌, ◌<◌}
use native.Mathlib.Decide.{dec_lt, ℕ_discrete}
use native.Mathlib.Omega.{arith}
use mathlib.Core.Bool.{true, cond, not, true≢false}
use mathlib.Core.List.{List, [], ◌∷◌}
use mathlib.Core.Logic.{◌⊎◌, inl, inr}
use Rattle.std.specs.Prelude.{Option, Some, unwrap_or}
use mathlib.Core.Path.{◌≡◌, refl, sym, ap, ◌∙◌}
use lib.Dec.{eqb, ltb}
use lib.ListN.{length, drop}
use borrow.Author.Tests.{lt-ltb, le-ltb, eq-eqb, ne_eqb}
use Rattle.scan.specs.Byte.{peek_at, backslash, backquote, double_quote, single_quote, is_quote}
use Rattle.scan.specs.Text.{has, Stands}
use Rattle.scan.proofs.Stands.{tests_has}
use Rattle.proving.proofs.Tests.{Tests, affirmed, decided, tests_or, tests_and, tests_not, tests_eq}
use Rattle.utf8.specs.Text.{WellFormed}
use Rattle.string.specs.Tiles.{tiles_of, good_size}
use Rattle.string.specs.Literal.{line_feed, sign_of, inner_of, has_newline, first_of, fault_of}
use Rattle.string.specs.laws.Refusals.{SignsDiffer, NoQuoteSign, Newline, BadAmong, BareSign, BadEscape, BadLiteral, Fault, short, differ, no_sign, newline, bare_sign, bad_escape, Enclosed, FirstIn, FaultAt, FaultsBad, OneFault, FaultWithin}
use Rattle.string.proofs.Literals.{inner_few, inner_well, encloses}
use Rattle.string.proofs.There.{tests_bad, ends_there, bare_bad, escape_bad, bad_there}

-- where a byte stands, it stands for the first time
first_in : (c : ℕ) (ys : List ℕ) → has c ys ≡ true → (first_of c ys < length ys) × FirstIn c ys (first_of c ys)
unfolding has first_of
first_in c [] e = absurd (true≢false (sym e))
first_in c (y ∷ ys) e = go (ℕ_discrete y c) (first_in c ys)
  where
    go : Dec (y ≡ c) → (has c ys ≡ true → (first_of c ys < length ys) × FirstIn c ys (first_of c ys)) → let n = cond (eqb y c) 0 (suc (first_of c ys)) in (n < suc (length ys)) × FirstIn c (y ∷ ys) n
    go (yes s) ih = rw (eq-eqb y c s) (omega arith, (s, λ i k. omega arith))
    go (no s) ih =
        let h = ih (rw (ne_eqb y c s) at e) in
        rw (ne_eqb y c s) (omega (arith, h.0), (h.1.0, earlier h.1.1))
      where
        earlier : ((i : ℕ) → i < first_of c ys → peek_at ys i ≡ c → ⊥) → (i : ℕ) → i < suc (first_of c ys) → peek_at (y ∷ ys) i ≡ c → ⊥
        earlier f zero k = s
        earlier f (suc i) k = f i (omega arith)

stands_at_place : (c : ℕ) (ys : List ℕ) (at : ℕ) → at < length ys → peek_at ys at ≡ c → Stands c ys
stands_at_place c [] at k e = let f : ⊥ = omega arith in absurd f
stands_at_place c (y ∷ ys) zero k e = inl e
stands_at_place c (y ∷ ys) (suc at) k e = inr (stands_at_place c ys at (omega arith) e)

first_one : (c : ℕ) (ys : List ℕ) (p o : ℕ) → FirstIn c ys p → FirstIn c ys o → p ≡ o
first_one c ys p o (a, f) (b, g) = go (dec_lt p o) (dec_lt o p)
  where
    go : Dec (p < o) → Dec (o < p) → p ≡ o
    go (yes l) d = absurd (g p l a)
    go (no l) (yes m) = absurd (f o m b)
    go (no l) (no m) = omega arith

-- the tests of a literal
module _ (xs : List ℕ) where
  abbrev q : ℕ
  q = sign_of xs

  abbrev ys : List ℕ
  ys = inner_of xs

  pub tests_quote : Tests (is_quote q) ((q ≡ double_quote) ⊎ (q ≡ single_quote) ⊎ (q ≡ backquote))
  unfolding is_quote
  tests_quote = tests_or (tests_eq q double_quote) (tests_or (tests_eq q single_quote) (tests_eq q backquote))

  pub tests_newline : Tests (has_newline q ys) (Newline xs)
  unfolding has_newline
  tests_newline = tests_and (tests_not (tests_eq q backquote)) (tests_has line_feed ys)

  -- which case the tests lead to
  pub case_of : Fault
  case_of =
      cond (ltb (length xs) 2) short
      (cond (not (eqb (peek_at xs (length xs - 1)) q)) differ
      (cond (not (is_quote q)) no_sign
      (cond (has_newline q ys) newline
      (cond (eqb (peek_at (drop (good_size (tiles_of q ys)) ys) 0) q) bare_sign bad_escape))))

  -- a quote sign is ASCII, no NUL and no backslash
  pub quote_is : (NoQuoteSign xs → ⊥) → (is_quote q ≡ true) × (q < 0x80) × (0 < q) × (q ≡ backslash → ⊥)
  quote_is n = go (decided tests_quote)
    where
      go : Dec ((q ≡ double_quote) ⊎ (q ≡ single_quote) ⊎ (q ≡ backquote)) → (is_quote q ≡ true) × (q < 0x80) × (0 < q) × (q ≡ backslash → ⊥)
      go (yes (inl e)) = (tests_quote.1 (inl e), omega arith, omega arith, λ b. omega arith)
      go (yes (inr (inl e))) = (tests_quote.1 (inr (inl e)), omega arith, omega arith, λ b. omega arith)
      go (yes (inr (inr e))) = (tests_quote.1 (inr (inr e)), omega arith, omega arith, λ b. omega arith)
      go (no m) = absurd (n m)

  -- what each case leads to
  abbrev pub Leads : Fault → ℕ → Type 0
  Leads f p = (f ≡ case_of) × (fault_of xs ≡ Some p)

  alike : (SignsDiffer xs → ⊥) → eqb (peek_at xs (length xs - 1)) q ≡ true
  alike d = go (ℕ_discrete (peek_at xs (length xs - 1)) q)
    where
      go : Dec (peek_at xs (length xs - 1) ≡ q) → eqb (peek_at xs (length xs - 1)) q ≡ true
      go (yes e) = eq-eqb _ _ e
      go (no n) = absurd (d n)

  there : {p o : ℕ} → p ≡ o → Some o ≡ Some p
  there e = ap (λ (n : ℕ). Some n) (sym e)

  pub tells : (f : Fault) (p : ℕ) → FaultAt f xs p → Leads f p
  unfolding case_of fault_of
  tells short p (s, e) = rw (lt-ltb (length xs) 2 s) (refl, there e)
  tells differ p (s, d, e) = rw (le-ltb (length xs) 2 (omega arith), ne_eqb _ _ d) (refl, there e)
  tells no_sign p (s, d, n, e) = rw (le-ltb (length xs) 2 (omega arith), alike d, affirmed tests_quote n) (refl, there e)
  tells newline p ((s, d, n), b, (at, e, k, f)) =
      let h : has line_feed ys ≡ true = (tests_has line_feed ys).1 (stands_at_place line_feed ys at k f.0) in
      let z = first_one line_feed ys at (first_of line_feed ys) f (first_in line_feed ys h).1 in
      rw (le-ltb (length xs) 2 (omega arith), alike d, (quote_is n).0, tests_newline.1 (b, (tests_has line_feed ys).0 h)) (refl, there (omega arith))
  tells bare_sign p ((s, d, n), b, (at, e, k, r)) =
      let u = quote_is n in
      let (bad, z) = ends_there q u.1 ys at k r.0 (bare_bad q u.2 ys at r) in
      let t : peek_at (drop (good_size (tiles_of q ys)) ys) 0 ≡ q = rw z at r.1 in
      rw (le-ltb (length xs) 2 (omega arith), alike d, u.0, affirmed tests_newline b, bad, eq-eqb _ _ t) (refl, there (omega arith))
  tells bad_escape p ((s, d, n), b, (at, e, k, r)) =
      let u = quote_is n in
      let (bad, z) = ends_there q u.1 ys at k r.0 (escape_bad q u.2 ys at r) in
      let t : peek_at (drop (good_size (tiles_of q ys)) ys) 0 ≡ q → ⊥ = λ v. u.3 (sym v ∙ ap (λ (i : ℕ). peek_at (drop i ys) 0) (sym z) ∙ r.1.0) in
      rw (le-ltb (length xs) 2 (omega arith), alike d, u.0, affirmed tests_newline b, bad, ne_eqb _ _ t) (refl, there (omega arith))

pub one_fault : OneFault
one_fault xs f g p o a b =
    let s = tells xs f p a in
    let t = tells xs g o b in
    (s.0 ∙ sym t.0, ap (λ (v : Option ℕ). unwrap_or v 0) (sym s.1 ∙ t.1))

pub fault_within : FaultWithin
fault_within xs short p (s, e) = inr e
fault_within xs differ p (s, d, e) = inl (omega arith)
fault_within xs no_sign p (s, d, n, e) = inr e
fault_within xs newline p ((s, d, n), b, (at, e, k, f)) = inl (omega (arith, inner_few xs))
fault_within xs bare_sign p ((s, d, n), b, (at, e, k, f)) = inl (omega (arith, inner_few xs))
fault_within xs bad_escape p ((s, d, n), b, (at, e, k, f)) = inl (omega (arith, inner_few xs))

-- a literal that goes wrong is bad
goes_bad : (xs : List ℕ) (f : Fault) (p : ℕ) → FaultAt f xs p → BadLiteral xs
goes_bad xs short p a = inl a.0
goes_bad xs differ p a = inr (inl a.1)
goes_bad xs no_sign p a = inr (inr (inl a.2))
goes_bad xs newline p (n, b, (at, e, k, f)) = inr (inr (inr (inl (b, stands_at_place line_feed (inner_of xs) at k f.0))))
goes_bad xs bare_sign p ((s, d, n), b, (at, e, k, r)) =
    let u = quote_is xs n in
    inr (inr (inr (inr ((tests_bad _).0 (ends_there (sign_of xs) u.1 (inner_of xs) at k r.0 (bare_bad (sign_of xs) u.2 (inner_of xs) at r)).0))))
goes_bad xs bad_escape p ((s, d, n), b, (at, e, k, r)) =
    let u = quote_is xs n in
    inr (inr (inr (inr ((tests_bad _).0 (ends_there (sign_of xs) u.1 (inner_of xs) at k r.0 (escape_bad (sign_of xs) u.2 (inner_of xs) at r)).0))))

-- and a bad one goes wrong, in one of the six cases
module _ (xs : List ℕ) (w : WellFormed xs) where
  abbrev Somewhere : Type 0
  Somewhere = (f : Fault) × ((p : ℕ) × FaultAt f xs p)

  within : Enclosed xs → (Newline xs → ⊥) → BadAmong (tiles_of (sign_of xs) (inner_of xs)) → Somewhere
  within (s, d, n) l b =
      let u = quote_is xs n in
      let v = inner_well xs (encloses xs (omega arith) (alike xs d) u.0) w in
      go ((bad_there (sign_of xs) (inner_of xs) u.1 u.2 v).0 b)
    where
      go : (at : ℕ) × (at < length (inner_of xs)) × (BareSign (sign_of xs) (inner_of xs) at ⊎ BadEscape (sign_of xs) (inner_of xs) at) → Somewhere
      go (at, k, inl r) = (bare_sign, (suc at, ((s, d, n), l, (at, refl, k, r))))
      go (at, k, inr r) = (bad_escape, (suc at, ((s, d, n), l, (at, refl, k, r))))

  enclosed : Enclosed xs → Dec (Newline xs) → BadLiteral xs → Somewhere
  enclosed n (yes (b, l)) r =
      let f = first_in line_feed (inner_of xs) ((tests_has line_feed (inner_of xs)).1 l) in
      (newline, (suc (first_of line_feed (inner_of xs)), (n, b, (first_of line_feed (inner_of xs), refl, f.0, f.1))))
  enclosed n (no l) (inl s) = absurd (n.0 s)
  enclosed n (no l) (inr (inl d)) = absurd (n.1 d)
  enclosed n (no l) (inr (inr (inl q))) = absurd (n.2 q)
  enclosed n (no l) (inr (inr (inr (inl r)))) = absurd (l r)
  enclosed n (no l) (inr (inr (inr (inr b)))) = within n l b

  somewhere : Dec (length xs < 2) → Dec (peek_at xs (length xs - 1) ≡ sign_of xs) → Dec ((sign_of xs ≡ double_quote) ⊎ (sign_of xs ≡ single_quote) ⊎ (sign_of xs ≡ backquote)) → BadLiteral xs → Somewhere
  somewhere (yes s) d n b = (short, (0, (s, refl)))
  somewhere (no s) (no d) n b = (differ, (length xs - 1, (s, d, refl)))
  somewhere (no s) (yes d) (no n) b = (no_sign, (0, (s, (λ f. f d), n, refl)))
  somewhere (no s) (yes d) (yes n) b = enclosed (s, (λ f. f d), λ f. f n) (decided (tests_newline xs)) b

pub faults_bad : FaultsBad
faults_bad xs w = (somewhere xs w (dec_lt (length xs) 2) (ℕ_discrete (peek_at xs (length xs - 1)) (sign_of xs)) (decided (tests_quote xs)), λ (f, (p, a)). goes_bad xs f p a)
