-- What the table of leads says of a byte. Below 256 it is the byte's lead, and a test of it is a test of the byte's class: by one computed test
-- of all bytes. From 256 on it is 0, which no test passes, as no class takes such a byte.
use Prim.Native.Nat.{ℕ, zero, suc, ◌+◌, ◌<◌, ◌≤◌}
use Prim.Native.Char.{code}
use native.Mathlib.Nat.{add-zero, le_of_suc-le-suc, not-suc-le-zero}
use native.Mathlib.Decide.{dec_lt}
use native.Mathlib.Omega.{arith}
use mathlib.Core.Bool.{Bool, true, false, cond, not}
use mathlib.Core.Path.{◌≡◌, refl, sym, ap, ◌∙◌}
use lib.Dec.{eqb, leb, ltb}
use lib.ListN.{length, get_or, get_or-eq_default}
use borrow.Author.Tests.{ltb-true, ne_eqb}
use Rattle.proving.proofs.Below.{all_below, below}
use Rattle.proving.proofs.Tests.{itself, affirmed}
use Rattle.scan.specs.declared.byte.Class.TheVariants.{Space, Alpha, Digit, AlphaNumeric, Word}
use Rattle.scan.specs.Byte.{is_within, is_space, is_alpha, is_digit, is_quote, is_alpha_numeric, is_word, is_in}
use Rattle.scan.specs.laws.Edge.{AsciiAlone}
use Rattle.scan.proofs.Edges.{class_ascii}
use Rattle.munch.specs.steps.Leads.{quote_lead, other_lead, white_lead, colon_lead, digit_lead, letter_lead, sign_lead, lead_of, leads_from, lead_table, lead_in, is_from}
use Rattle.munch.proofs.Starts.{quote_ascii}

leads_length : (n c : ℕ) → length (leads_from n c) ≡ n
unfolding leads_from
leads_length zero c = refl
leads_length (suc n) c = ap suc (leads_length n (suc c))

lead_at : (n c i : ℕ) → i < n → get_or (leads_from n c) i 0 ≡ lead_of (c + i)
unfolding leads_from
lead_at zero c i l = absurd (not-suc-le-zero l)
lead_at (suc n) c zero l = rw add-zero
lead_at (suc n) c (suc i) l = lead_at n (suc c) i (le_of_suc-le-suc l) ∙ (let m : suc c + i ≡ c + suc i = omega arith in rw m)

-- how many bytes there are
abbrev bytes : ℕ
bytes = 256

lead_below : (c : ℕ) → c < bytes → lead_in lead_table c ≡ lead_of c
unfolding lead_table
lead_below c l = lead_at bytes 0 c l ∙ (let z : 0 + c ≡ c = omega arith in rw z)

lead_above : (c : ℕ) → bytes ≤ c → lead_in lead_table c ≡ 0
unfolding lead_table
lead_above c l = get_or-eq_default (leads_from bytes 0) 0 (omega (arith, leads_length bytes 0))

-- a test that ASCII bytes alone pass fails above
none_above : (p : ℕ → Bool) → AsciiAlone p → (c : ℕ) → bytes ≤ c → p c ≡ false
none_above p a c l = affirmed (itself (p c)) (λ e. omega (arith, a c e))

-- nothing begins above
other_above : (c : ℕ) → bytes ≤ c → lead_of c ≡ other_lead
unfolding lead_of sign_lead is_in
other_above c l =
    rw (none_above is_alpha (class_ascii Alpha refl) c l, none_above is_digit (class_ascii Digit refl) c l, far (code ":") refl, none_above is_space (class_ascii Space refl) c l, none_above is_quote quote_ascii c l)
    (simp (far (code "(") refl, far (code ")") refl, far (code "{") refl, far (code "[") refl, far (code ",") refl, far (code "+") refl, far (code "-") refl, far (code "*") refl, far (code "/") refl, far (code "%") refl, far (code "^") refl, far (code "@") refl))
  where
    far : (y : ℕ) → ltb y bytes ≡ true → eqb c y ≡ false
    far y t = ne_eqb c y (omega (arith, ltb-true y bytes t))

-- so whatever takes the two leads of nothing alike takes the table's lead as the byte's
pub lead_same : {A : Type 0} (f : ℕ → A) → f 0 ≡ f other_lead → (c : ℕ) → f (lead_in lead_table c) ≡ f (lead_of c)
lead_same f z c = go (dec_lt c bytes)
  where
    go : Dec (c < bytes) → f (lead_in lead_table c) ≡ f (lead_of c)
    go (yes l) = ap f (lead_below c l)
    go (no l) = let h : bytes ≤ c = omega arith in ap f (lead_above c h) ∙ z ∙ sym (ap f (other_above c h))

-- the tests of a lead, and the classes that they are tests of
abbrev alike : Bool → Bool → Bool
alike a b = cond a b (not b)

are_alike : (a b : Bool) → alike a b ≡ true → a ≡ b
are_alike true true e = refl
are_alike true false e = sym e
are_alike false true e = e
are_alike false false e = refl

abbrev agree : (ℕ → Bool) → (ℕ → Bool) → Bool
agree p q = all_below (λ c. alike (p (lead_of c)) (q c)) bytes

abbrev is_lead : ℕ → ℕ → Bool
is_lead l x = eqb x l

agreed : (agree (is_lead white_lead) is_space ≡ true) × (agree (is_lead letter_lead) is_alpha ≡ true) × (agree (is_lead quote_lead) is_quote ≡ true) × (agree (leb digit_lead) (is_in AlphaNumeric) ≡ true) × (agree (leb colon_lead) (is_in Word) ≡ true)
unfolding lead_of sign_lead is_in is_word is_alpha_numeric is_quote is_space is_alpha is_within
agreed = (refl, refl, refl, refl, refl)

tells : (p q : ℕ → Bool) → agree p q ≡ true → p 0 ≡ false → AsciiAlone q → (c : ℕ) → p (lead_in lead_table c) ≡ q c
tells p q t z a c = go (dec_lt c bytes)
  where
    go : Dec (c < bytes) → p (lead_in lead_table c) ≡ q c
    go (yes l) = rw (lead_below c l) (are_alike _ _ (below (λ c. alike (p (lead_of c)) (q c)) bytes t c l))
    go (no l) = let h : bytes ≤ c = omega arith in rw (lead_above c h) (z ∙ sym (none_above q a c h))

module _ (c : ℕ) where
  pub white_tells : eqb (lead_in lead_table c) white_lead ≡ is_space c
  unfolding is_in
  white_tells = tells (is_lead white_lead) is_space agreed.0 refl (class_ascii Space refl) c

  pub letter_tells : eqb (lead_in lead_table c) letter_lead ≡ is_alpha c
  unfolding is_in
  letter_tells = tells (is_lead letter_lead) is_alpha agreed.1 refl (class_ascii Alpha refl) c

  pub quote_tells : eqb (lead_in lead_table c) quote_lead ≡ is_quote c
  quote_tells = tells (is_lead quote_lead) is_quote agreed.2 refl quote_ascii c

  pub label_tells : is_from lead_table digit_lead c ≡ is_in AlphaNumeric c
  label_tells = tells (leb digit_lead) (is_in AlphaNumeric) agreed.3 refl (class_ascii AlphaNumeric refl) c

  pub word_tells : is_from lead_table colon_lead c ≡ is_in Word c
  word_tells = tells (leb colon_lead) (is_in Word) agreed.4 refl (class_ascii Word refl) c
