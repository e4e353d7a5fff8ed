-- A backquoted string of the documented reading goes to the next backquote, so that none stands between its signs; and a literal between backquotes has no
-- other fault. It is a text, since both its signs are characters of the query's.
use Prim.Native.Nat.{ℕ, zero, suc, ◌-◌, ◌<◌, ◌≤◌}
use native.Mathlib.Nat.{add-zero}
use native.Mathlib.Numerals.{add-one}
use native.Mathlib.Omega.{arith}
use mathlib.Core.Bool.{true}
use mathlib.Core.List.{List, [], ◌∷◌, ◌++◌}
use mathlib.Core.Logic.{inr, ⊎_elim}
use mathlib.Core.Path.{◌≡◌, refl, sym, ap, ap₂, subst, ◌∙◌}
use lib.Dec.{eqb}
use lib.Seq.{drop-cons, drop-drop, get_or-drop, take-append_seam, get_or-append_seam, length-take-le, take-take, get_or-take}
use lib.ListN.{length, get_or, take, drop, length-append, length-take, length-drop}
use borrow.Author.Tests.{eqb-true, lt-ltb}
use Rattle.scan.specs.Byte.{end, peek_at, backquote, is_quote, is_within}
use Rattle.scan.specs.Language.{One, one}
use Rattle.utf8.specs.declared.Reading.{Reading}
use Rattle.utf8.specs.declared.Reading.TheVariants.{Documented}
use Rattle.utf8.specs.Table.{is_tail}
use Rattle.utf8.specs.Text.{WellFormed, char_number}
use Rattle.utf8.proofs.Cuts.{text_cut, boundary, ascii_boundary}
use Rattle.scan.proofs.Edges.{ascii_inside}
use Rattle.utf8.specs.Answers.{text_limit}
use Rattle.utf8.specs.laws.Refusals.{TooLong, Taken}
use Rattle.quoted.specs.Texts.{Piece, plain, escape, Content, none, more}
use Rattle.quoted.specs.laws.Texts.{IsString}
use Rattle.munch.specs.laws.Step.{Past, Goes}
use Rattle.munch.proofs.Goes.{step_goes}
use Rattle.munch.proofs.Given.{strings_given}
use Rattle.string.specs.declared.Unquoted.TheVariants.{Inner}
use Rattle.string.specs.Literal.{inner_of, unquoted, unquoting_of, text_by, part_of}
use Rattle.string.specs.laws.ReadBack.{is_read}
use Rattle.string.proofs.Readings.{part_is_text}
use Rattle.token.specs.Kinds.{string}
use Rattle.munch.specs.declared.Mode.{Mode}
use Rattle.munch.specs.declared.Step.TheVariants.{Lexeme}
use Rattle.munch.specs.Munch.{munched}
use Rattle.lex.specs.Outcome.{Entry}
use Rattle.lex.proofs.Comes.{entry_is_step}
use Rattle.string.specs.laws.Refusals.{BadLiteral, Fault, short, differ, no_sign, newline, bare_sign, bad_escape, FaultAt, WithEscape}
use Rattle.string.proofs.Faults.{faults_bad}
use Rattle.string.proofs.Given.{unquoting_given}
use Rattle.literals.specs.laws.Literals.{both_signs, literal_of, between_signs, BackquotedGood}
use Rattle.std.specs.Prelude.{Ok}

-- no backquote stands in the content of a backquoted string
one_byte : (u : List ℕ) → Piece Documented backquote u → (x : ℕ) × (u ≡ x ∷ []) × (x ≡ backquote → ⊥)
one_byte _ (plain x s b) = (x, refl, s)
one_byte _ (escape x h e) = absurd (h refl)

none_in : (u : List ℕ) → Content Documented backquote u → (j : ℕ) → peek_at u j ≡ backquote → ⊥
none_in _ none zero e = absurd (omega (arith, e))
none_in _ none (suc j) e = absurd (omega (arith, e))
none_in _ (more u v p c) zero e = let b = one_byte u p in b.2 (sym (ap (λ (t : List ℕ). peek_at (t ++ v) 0) b.1) ∙ e)
none_in _ (more u v p c) (suc j) e = let b = one_byte u p in none_in v c j (sym (ap (λ (t : List ℕ). peek_at (t ++ v) (suc j)) b.1) ∙ e)

-- such a literal has none of the faults
module _ (u : List ℕ) (c : Content Documented backquote u) where
  inner : inner_of (backquote ∷ u ++ (backquote ∷ [])) ≡ u
  inner =
      let l : suc (length (u ++ (backquote ∷ []))) - 2 ≡ length u = omega (arith, length-append u (backquote ∷ [])) in
      ap (λ (n : ℕ). take n (u ++ (backquote ∷ []))) l ∙ take-append_seam u (backquote ∷ [])

  last : peek_at (backquote ∷ u ++ (backquote ∷ [])) (length (backquote ∷ u ++ (backquote ∷ [])) - 1) ≡ backquote
  last =
      let l : suc (length (u ++ (backquote ∷ []))) - 1 ≡ suc (length u) = omega (arith, length-append u (backquote ∷ [])) in
      ap (peek_at (backquote ∷ u ++ (backquote ∷ []))) l ∙ get_or-append_seam u backquote [] end

  no_fault : (f : Fault) (p : ℕ) → FaultAt f (backquote ∷ u ++ (backquote ∷ [])) p → ⊥
  no_fault short p h = omega (arith, h.0, length-append u (backquote ∷ []))
  no_fault differ p h = h.1 last
  no_fault no_sign p h = h.2 (inr (inr refl))
  no_fault newline p h = h.1 refl
  no_fault bare_sign p h =
      let at = h.2.0 in
      none_in u c at (ap (peek_at u) (sym (add-zero at)) ∙ sym (get_or-drop at u 0 end) ∙ ap (λ (t : List ℕ). peek_at (drop at t) 0) (sym inner) ∙ h.2.3.1)
  no_fault bad_escape p h = h.2.3.1.1 refl

-- from an ASCII byte of a text through another is a text
slice_well : (q : List ℕ) (i n : ℕ) → WellFormed q → peek_at q i ≡ backquote → peek_at (drop i q) n ≡ backquote → WellFormed (take (suc n) (drop i q))
unfolding is_within
slice_well q i n w e f =
    let b = boundary q w i (omega (arith, ascii_inside q i (omega (arith, e)))) (ap is_tail e) in
    let v : WellFormed (drop i q) = subst (λ (k : ℕ). WellFormed (drop k q)) b (text_cut q w (char_number q i)).1 in
    let a = ascii_boundary (drop i q) v n (ascii_inside (drop i q) n (omega (arith, f))) (omega (arith, f)) in
    subst (λ (k : ℕ). WellFormed (take k (drop i q))) a (text_cut (drop i q) v (char_number (drop i q) (suc n))).0

-- a string of so many bytes behind its opening sign
module _ (q : List ℕ) (i n : ℕ) (t : Taken text_limit q) (e : peek_at q i ≡ backquote) where
  abbrev GoodThere : Type 0
  GoodThere = (inner_of (take (suc (suc n)) (drop i q)) ≡ take n (drop (suc i) q)) × ((r : Reading) (room : ℕ) → unquoting_of r room (take (suc (suc n)) (drop i q)) ≡ Ok (Inner n))

  good_there : (u v : List ℕ) → Content Documented backquote u → One (λ x. eqb x backquote) v → take (suc n) (drop (suc i) q) ≡ u ++ v → suc n ≤ length (drop (suc i) q) → GoodThere
  good_there u _ d (one x y) w l =
      let x-is : x ≡ backquote = eqb-true x backquote y in
      let inside : i < length q = ascii_inside q i (omega (arith, e)) in
      let here : drop i q ≡ backquote ∷ drop (suc i) q = drop-cons q i end inside ∙ ap (λ (z : ℕ). z ∷ drop (suc i) q) e in
      let all : take (suc n) (drop (suc i) q) ≡ u ++ (backquote ∷ []) = w ∙ ap (λ (z : ℕ). u ++ (z ∷ [])) x-is in
      let literal : take (suc (suc n)) (drop i q) ≡ backquote ∷ u ++ (backquote ∷ []) = ap (λ (ys : List ℕ). take (suc (suc n)) ys) here ∙ ap (λ (ys : List ℕ). backquote ∷ ys) all in
      let size : length u ≡ n = omega (arith, ap (λ (ys : List ℕ). length ys) all, length-append u (backquote ∷ []), length-take-le (suc n) (drop (suc i) q) l) in
      let content : u ≡ take n (drop (suc i) q) =
      sym (take-append_seam u (backquote ∷ [])) ∙ ap₂ (λ (k : ℕ) (ys : List ℕ). take k ys) size (sym all) ∙ take-take n (suc n) (drop (suc i) q) (omega arith) in
      let last-is : peek_at (drop i q) (suc n) ≡ backquote =
      ap (λ (ys : List ℕ). peek_at ys (suc n)) here ∙ sym (get_or-take (suc n) (drop (suc i) q) n end (omega arith)) ∙ ap₂ (λ (ys : List ℕ) (k : ℕ). get_or ys k end) all (sym size) ∙ get_or-append_seam u backquote [] end in
      let well : WellFormed (take (suc (suc n)) (drop i q)) = slice_well q i (suc n) t.1 e last-is in
      let short-enough : TooLong text_limit (take (suc (suc n)) (drop i q)) → ⊥ =
      λ k. t.0 (omega (arith, k, length-take (suc (suc n)) (drop i q), length-drop i q)) in
      let bad : BadLiteral (take (suc (suc n)) (drop i q)) → ⊥ =
      λ k. let f = (faults_bad (take (suc (suc n)) (drop i q)) well).0 k in no_fault u d f.0 f.1.0 (subst (λ (ys : List ℕ). FaultAt f.0 ys f.1.0) literal f.1.1) in
      let plain-text : WithEscape (take (suc (suc n)) (drop i q)) → ⊥ = λ k. k.0 (ap (λ (ys : List ℕ). peek_at ys 0) literal) in
      let inside_is : inner_of (take (suc (suc n)) (drop i q)) ≡ u = ap inner_of literal ∙ inner u d in (
        inside_is ∙ content,
        λ r room. (unquoting_given r room (take (suc (suc n)) (drop i q))).4.1 ((short-enough, well), bad, plain-text) ∙ ap (λ (k : ℕ). Ok (Inner k)) (ap (λ (ys : List ℕ). length ys) inside_is ∙ size),
      )

-- a step of lexing that is one
abbrev StepGood : List ℕ → ℕ → ℕ → Type 0
StepGood q i n =
    (both_signs ≤ n) × (n ≤ length (drop i q)) × (inner_of (take n (drop i q)) ≡ take (n - both_signs) (drop (suc i) q)) × ((r : Reading) (room : ℕ) → unquoting_of r room (take n (drop i q)) ≡ Ok (Inner (n - both_signs)))

goes_there : (q : List ℕ) (i n : ℕ) (m m' : Mode) → munched Documented m (drop i q) ≡ Lexeme string n m' → Past (drop i q) n
goes_there q i n m m' c = subst (Goes m (drop i q)) c (step_goes Documented m (drop i q))

step_good : (q : List ℕ) (i n : ℕ) (m m' : Mode) → Taken text_limit q → peek_at q i ≡ backquote → munched Documented m (drop i q) ≡ Lexeme string n m' → StepGood q i n
unfolding is_quote
step_good q i zero m m' t e c = absurd (omega (arith, (goes_there q i zero m m' c).some))
step_good q i (suc k) m m' t e c = sized k (goes_there q i (suc k) m m' c).within ((strings_given Documented m m' (drop i q) k quote).0 c).1
  where
    first_is : peek_at (drop i q) 0 ≡ backquote
    first_is = get_or-drop i q 0 end ∙ ap (peek_at q) (add-zero i) ∙ e

    quote : is_quote (peek_at (drop i q) 0) ≡ true
    quote = ap is_quote first_is

    behind_sign_ends : drop 1 (drop i q) ≡ drop (suc i) q
    behind_sign_ends = drop-drop 1 i q ∙ ap (λ (j : ℕ). drop j q) (add-one i)

    sized : (k : ℕ) → suc k ≤ length (drop i q) → IsString Documented (peek_at (drop i q) 0) (drop 1 (drop i q)) k → StepGood q i (suc k)
    sized k l s = by_size k l (subst (λ (ys : List ℕ). IsString Documented backquote ys k) behind_sign_ends (subst (λ (y : ℕ). IsString Documented y (drop 1 (drop i q)) k) first_is s))
      where
        by_size : (k : ℕ) → suc k ≤ length (drop i q) → IsString Documented backquote (drop (suc i) q) k → StepGood q i (suc k)
        by_size zero l s = absurd (no_sign_stands s.1.front s.1.back s.1.second s.1.whole)
          where
            no_sign_stands : (u v : List ℕ) → One (λ x. eqb x backquote) v → [] ≡ u ++ v → ⊥
            no_sign_stands u _ (one x y) f = omega (arith, ap (λ (ys : List ℕ). length ys) f, length-append u (x ∷ []))
        by_size (suc n) l s =
            let g = good_there q i n t e s.1.front s.1.back s.1.first s.1.second s.1.whole s.0 in
            let f : suc (suc n) - both_signs ≡ n = omega arith in
            (omega arith, l, rw f g.0, rw f g.1)

-- the part that is handed back of such a literal
inner_part : (xs d : List ℕ) (n : ℕ) → both_signs ≤ length xs → n ≡ length xs - both_signs → part_of (Ok (Inner n)) xs d ≡ inner_of xs
unfolding part_of
inner_part xs d n l e = rw (lt-ltb n (length xs) (omega (arith, l, e))) (ap (λ (k : ℕ). take k (drop 1 xs)) e)

module _ (q : List ℕ) (e : Entry) (g : StepGood q e.start e.length) where
  size : length (literal_of q e) ≡ e.length
  size = length-take-le e.length (drop e.start q) g.1

  handed : (d : List ℕ) → part_of (Ok (Inner (e.length - both_signs))) (literal_of q e) d ≡ between_signs q e
  handed d = inner_part (literal_of q e) d (e.length - both_signs) (omega (arith, size, g.0)) (omega (arith, size)) ∙ g.2

  text : (r : Reading) (d : List ℕ) → unquoted r (literal_of q e) ≡ between_signs q e
  text r d =
      let u = g.3 r (length d) in
      sym (part_is_text r (literal_of q e) d (ap is_read u)) ∙ ap (λ v. part_of v (literal_of q e) (text_by v (unquoted r (literal_of q e)) d)) u ∙ handed d

pub backquoted_good : BackquotedGood
backquoted_good q e t a k f =
    ⊎_elim (λ z. absurd (omega (arith, z, k)))
    (λ w. let g = step_good q e.start e.length w.mode w.next t f (w.step ∙ ap (λ (j : ℕ). Lexeme j e.length w.next) k) in
    (g.0, λ r d. (g.3 r (length d), text q e g r d, ap (λ v. part_of v (literal_of q e) d) (g.3 r (length d)) ∙ handed q e g d)))
    (entry_is_step Documented q e a)
