-- A sign and a run of digits, as places cut them out of a text: a sign is told from what comes behind one, which is no sign, and a run ends
-- where no digit stands. A cut is known by what stands from its place on, and found both ways, from the part and from the place.
use Prim.Native.Nat.{ℕ, suc, ◌+◌, ◌-◌, ◌<◌, ◌≤◌}
use Prim.Native.Char.{code}
use native.Mathlib.Numerals.{add-one}
use native.Mathlib.Nat.{add-zero}
use native.Mathlib.Omega.{arith}
use mathlib.Core.Bool.{Bool, true, false, cond}
use mathlib.Core.List.{List, [], ◌∷◌, ◌++◌}
use mathlib.Core.Logic.{◌↔◌, ◌⊎◌, inl, inr}
use mathlib.Core.Path.{◌≡◌, refl, sym, ap, subst, ◌∙◌}
use lib.ListN.{length, take, drop, take-append-drop, length-take, length-drop}
use lib.Seq.{get_or-drop, drop-drop, drop-cons, take-append_seam, drop-append_seam}
use borrow.Author.Tests.{eq-eqb, ne_eqb, eqb-true}
use Rattle.scan.specs.Ascii.{ascii}
use Rattle.scan.specs.declared.byte.Class.TheVariants.{Digit}
use Rattle.scan.specs.Byte.{end, peek_at, is_in}
use Rattle.scan.specs.Run.{run_length, run_end}
use Rattle.proving.proofs.Choice.{either}
use Rattle.scan.proofs.Runs.{inside, run_within}
use Rattle.proving.proofs.Tests.{tests_or, tests_eq}
use Rattle.scan.specs.Sign.{is_sign, past_sign, is_minus}
use Rattle.decimal.specs.Grammar.{between}
use Rattle.decimal.specs.laws.Spelling.{Sign, SignCut, SignFound, Digits, SomeDigits}

-- the signs come before the point
pub sign_no : (c : ℕ) → code "." ≤ c → is_sign c ≡ false
unfolding is_sign
sign_no c h = rw (ne_eqb c (code "+") (λ e. omega arith), ne_eqb c (code "-") (λ e. omega arith))

sign_is : (c : ℕ) → is_sign c ≡ true → (c ∷ [] ≡ ascii "+") ⊎ (c ∷ [] ≡ ascii "-")
unfolding is_sign
sign_is c e = go ((tests_or (tests_eq c (code "+")) (tests_eq c (code "-"))).0 e)
  where
    go : (c ≡ code "+") ⊎ (c ≡ code "-") → (c ∷ [] ≡ ascii "+") ⊎ (c ∷ [] ≡ ascii "-")
    go (inl f) = inl (ap (λ (c : ℕ). c ∷ []) f)
    go (inr f) = inr (ap (λ (c : ℕ). c ∷ []) f)

-- where the digits from a place on end
abbrev pub digits_to : List ℕ → ℕ → ℕ
digits_to xs n = run_end (is_in Digit) xs n

-- these digits stand from a place on, and behind them that
abbrev pub Stand : List ℕ → ℕ → List ℕ → List ℕ → Type 0
Stand xs n a ys = (between xs n (digits_to xs n) ≡ a) × (drop (digits_to xs n) xs ≡ ys)

run_of : (a ys : List ℕ) → Digits a → is_in Digit (peek_at ys 0) ≡ false → run_length (is_in Digit) (a ++ ys) ≡ length a
unfolding run_length
run_of [] [] d h = refl
run_of [] (y ∷ ys) d h = rw h
run_of (x ∷ a) ys (e, d) h = rw e (ap suc (run_of a ys d h))

run_digits : (ys : List ℕ) → Digits (take (run_length (is_in Digit) ys) ys)
unfolding run_length
run_digits [] = tt
run_digits (y ∷ ys) = either (λ n. Digits (take n (y ∷ ys))) (is_in Digit y) (λ e. (e, run_digits ys)) (λ e. tt)

module _ (xs : List ℕ) (n : ℕ) where
  -- what stands from a place on: up to a further one, and from that on
  pub split : (m : ℕ) → n ≤ m → drop n xs ≡ between xs n m ++ drop m xs
  split m h =
      let k : n + (m - n) ≡ m = omega arith in
      sym (take-append-drop (m - n) (drop n xs)) ∙ ap (λ (l : List ℕ). between xs n m ++ l) (drop-drop (m - n) n xs ∙ ap (λ (k : ℕ). drop k xs) k)

  pub between_some : (m : ℕ) → 0 < length (between xs n m) → n < m
  between_some m l = omega (arith, length-take (m - n) (drop n xs))

  pub between_none : between xs n n ≡ []
  between_none = let z : n - n ≡ 0 = omega arith in rw z

  -- what stands at a place begins what stands from it on
  pub there : (ys : List ℕ) → drop n xs ≡ ys → peek_at xs n ≡ peek_at ys 0
  there ys h = ap (peek_at xs) (sym (add-zero n)) ∙ sym (get_or-drop n xs 0 end) ∙ ap (λ (l : List ℕ). peek_at l 0) h

  pub found : (p : ℕ → Bool) → p end ≡ false → p (peek_at xs n) ≡ true → drop n xs ≡ peek_at xs n ∷ drop (suc n) xs
  found p z t = drop-cons xs n end (inside p z xs n t)

  behind : (a ys : List ℕ) → drop n xs ≡ a ++ ys → drop (n + length a) xs ≡ ys
  behind a ys h = sym (drop-drop (length a) n xs) ∙ ap (drop (length a)) h ∙ drop-append_seam a ys

  pub next : (c : ℕ) (ys : List ℕ) → drop n xs ≡ c ∷ ys → drop (suc n) xs ≡ ys
  next c ys h = ap (λ (k : ℕ). drop k xs) (sym (add-one n)) ∙ behind (c ∷ []) ys h

  -- digits
  pub digits_cut : (a ys : List ℕ) → Digits a → is_in Digit (peek_at ys 0) ≡ false → drop n xs ≡ a ++ ys → Stand xs n a ys
  digits_cut a ys d h e =
      let r : run_length (is_in Digit) (drop n xs) ≡ length a = ap (run_length (is_in Digit)) e ∙ run_of a ys d h in
      let k : digits_to xs n - n ≡ length a = omega arith in
      (ap (λ (k : ℕ). take k (drop n xs)) k ∙ ap (take (length a)) e ∙ take-append_seam a ys, ap (λ (k : ℕ). drop (n + k) xs) r ∙ behind a ys e)

  pub digits_found : Digits (between xs n (digits_to xs n))
  digits_found =
      let k : run_length (is_in Digit) (drop n xs) ≡ digits_to xs n - n = omega arith in
      subst (λ (k : ℕ). Digits (take k (drop n xs))) k (run_digits (drop n xs))

  pub some_found : n < digits_to xs n → SomeDigits (between xs n (digits_to xs n))
  some_found l = (digits_found, omega (arith, run_within (is_in Digit) xs n, length-take (digits_to xs n - n) (drop n xs), length-drop n xs))

-- a sign
module _ (xs : List ℕ) (n : ℕ) (s ys : List ℕ) (g : Sign s) (h : code "." ≤ peek_at ys 0) (e : drop n xs ≡ s ++ ys) where
  written : {r : List ℕ} → s ≡ r → drop n xs ≡ r ++ ys
  written u = e ∙ ap (λ (l : List ℕ). l ++ ys) u

  one : (c : ℕ) → is_sign c ≡ true → s ≡ c ∷ [] → drop (past_sign xs n) xs ≡ ys
  one c t u = rw (there xs n (c ∷ ys) (written u), t) (next xs n c ys (written u))

  cut : Sign s → drop (past_sign xs n) xs ≡ ys
  cut (inl u) = rw (there xs n ys (written u), sign_no (peek_at ys 0) h) (written u)
  cut (inr (inl u)) = one (code "+") (unfold is_sign in refl) u
  cut (inr (inr u)) = one (code "-") (unfold is_sign in refl) u

  minus : Sign s → peek_at xs n ≡ code "-" → s ≡ ascii "-"
  minus (inl u) t = let f : ⊥ = omega (arith, there xs n ys (written u)) in absurd f
  minus (inr (inl u)) t = let f : ⊥ = omega (arith, there xs n (ascii "+" ++ ys) (written u)) in absurd f
  minus (inr (inr u)) t = u

  told : is_minus xs n ≡ true ↔ s ≡ ascii "-"
  told = ((λ t. minus g (eqb-true (peek_at xs n) (code "-") t)), λ u. eq-eqb (peek_at xs n) (code "-") (there xs n (ascii "-" ++ ys) (written u)))

pub sign_cut : SignCut
sign_cut xs n s ys g h e = (cut xs n s ys g h e g, told xs n s ys g h e)

pub sign_found : SignFound
sign_found xs n = go (is_sign (peek_at xs n)) refl
  where
    go : (b : Bool) → is_sign (peek_at xs n) ≡ b → (s : List ℕ) × Sign s × (drop n xs ≡ s ++ drop (cond b (suc n) n) xs)
    go true f = (peek_at xs n ∷ [], inr (sign_is (peek_at xs n) f), found xs n is_sign (sign_no end (omega arith)) f)
    go false f = ([], inl refl, refl)
