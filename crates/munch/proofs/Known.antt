-- A step by the table of leads, and outside by that of the words, is the step: by the classes and the signs in the order of `lead_of`. Each class
-- has its row (`word_by_tables` has the words), a sign's row is that of its byte, and what is left is looked for in rows that the tables share.
use Prim.Native.Nat.{ℕ}
use Prim.Native.Char.{code}
use mathlib.Core.Bool.{true, false}
use mathlib.Core.List.{List}
use mathlib.Core.Path.{◌≡◌, refl, sym, ap, subst, ◌∙◌}
use lib.Dec.{eqb}
use borrow.Author.Tests.{eqb-true}
use Rattle.proving.proofs.Choice.{either}
use Rattle.scan.specs.Byte.{end, peek_at, is_within, is_space, is_alpha, is_digit, is_quote}
use Rattle.utf8.specs.declared.Reading.{Reading}
use Rattle.token.specs.Kinds.{left_paren, right_paren, left_brace, left_bracket, comma, add, sub, mul, div, modulo, pow, at_sign}
use Rattle.token.specs.steps.WordRows.{word_table}
use Rattle.munch.specs.Word.{is_word_start}
use Rattle.munch.specs.declared.Inside.TheVariants.{Nothing, Braces}
use Rattle.munch.specs.declared.Mode.{Mode}
use Rattle.munch.specs.declared.Step.{Step}
use Rattle.munch.specs.declared.Step.TheVariants.{Space, Refused}
use Rattle.munch.specs.Munch.{mode, number_step, quoted_step, end_step, outside_table, brace_table, is, is_end, step_for, step_in, munched}
use Rattle.munch.specs.steps.Leads.{quote_lead, other_lead, white_lead, colon_lead, digit_lead, letter_lead, sign_lead, lead_of, lead_table, lead_in, is_sign_lead, starts_word}
use Rattle.munch.specs.steps.Lent.{word_step_by, sign_step, other_table, brace_signs, outside_led, brace_led, outside_by, brace_by}
use Rattle.munch.specs.laws.Step.{OutsideByTables, BracesByTable}
use Rattle.munch.proofs.Starts.{digit_outside}
use Rattle.munch.proofs.Classes.{lead_same, white_tells, letter_tells, quote_tells}
use Rattle.munch.proofs.Labels.{word_by_tables, brace_word_by_table}

module _ (r : Reading) (d : ℕ) (xs : List ℕ) where
  abbrev here : Mode
  here = mode d Nothing

  -- what the lead of a letter, a colon, a digit, white space, a quote, nothing, and of no byte leads to
  abbrev led : ℕ → Step
  led = outside_led r lead_table word_table d xs

  class_leads : (led letter_lead ≡ word_step_by lead_table word_table here xs) × (led colon_lead ≡ word_step_by lead_table word_table here xs) × (led digit_lead ≡ number_step r here xs) × (led white_lead ≡ Space here) × (led quote_lead ≡ quoted_step r here xs) × (led other_lead ≡ step_for (other_table r here) 19 (peek_at xs 0) xs) × (led 0 ≡ led other_lead)
  unfolding outside_led is_sign_lead starts_word is_within
  class_leads = (refl, refl, refl, refl, refl, refl, refl)

  -- and that of each sign: to the step of its byte
  abbrev Gives : ℕ → ℕ → Type 0
  Gives l c = led l ≡ step_in r d Nothing c xs

  sign_leads : Gives left_paren (code "(") × Gives right_paren (code ")") × Gives left_brace (code "{") × Gives left_bracket (code "[") × Gives comma (code ",") × Gives add (code "+") × Gives sub (code "-") × Gives mul (code "*") × Gives div (code "/") × Gives modulo (code "%") × Gives pow (code "^") × Gives at_sign (code "@")
  unfolding outside_led is_sign_lead sign_step step_in outside_table is_word_start is_quote is_space is_alpha is_within
  sign_leads = (refl, refl, refl, refl, refl, refl, refl, refl, refl, refl, refl, refl)

  module _ (c : ℕ) (e : peek_at xs 0 ≡ c) where
    sign : (l y : ℕ) → Gives l y → eqb c y ≡ true → Gives l c
    sign l y g t = subst (Gives l) (sym (eqb-true c y t)) g

    starts : is_word_start c ≡ true → is_word_start (peek_at xs 0) ≡ true
    starts s = rw e s

    by_lead : is_end c ≡ false → Gives (lead_of c) c
    unfolding lead_of sign_lead step_in outside_table other_table is_word_start
    by_lead n =
        let P : ℕ → Type 0 = λ l. Gives l c in
        let k = class_leads in
        let s = sign_leads in
        either P (is_alpha c) (λ a. k.0 ∙ rw a (word_by_tables here xs (starts (rw a)))) (λ a.
        either P (is_digit c) (λ g. k.2 ∙ sym (ap (λ f. f xs) (digit_outside r d c g))) (λ g.
        either P (is ":" c) (λ l. k.1 ∙ rw (a, l) (word_by_tables here xs (starts (rw (a, l))))) (λ l.
        either P (is_space c) (λ w. k.3 ∙ rw (a, l, w)) (λ w.
        either P (is_quote c) (λ q. k.4 ∙ rw (a, l, w, q)) (λ q.
        either P (is "(" c) (sign left_paren (code "(") s.0) (λ s0.
        either P (is ")" c) (sign right_paren (code ")") s.1) (λ s1.
        either P (is "{" c) (sign left_brace (code "{") s.2) (λ s2.
        either P (is "[" c) (sign left_bracket (code "[") s.3) (λ s3.
        either P (is "," c) (sign comma (code ",") s.4) (λ s4.
        either P (is "+" c) (sign add (code "+") s.5) (λ s5.
        either P (is "-" c) (sign sub (code "-") s.6) (λ s6.
        either P (is "*" c) (sign mul (code "*") s.7) (λ s7.
        either P (is "/" c) (sign div (code "/") s.8) (λ s8.
        either P (is "%" c) (sign modulo (code "%") s.9) (λ s9.
        either P (is "^" c) (sign pow (code "^") s.10) (λ s10.
        either P (is "@" c) (sign at_sign (code "@") s.11) (λ s11.
        k.5 ∙ rw (e, a, g, l, w, q, n, s0, s1, s2, s3, s4, s5, s6, s7, s8, s9, s10, s11))))))))))))))))))

-- at the end
module _ (r : Reading) (d : ℕ) (xs : List ℕ) (c : ℕ) (e : is_end c ≡ true) where
  end_outside : end_step d ≡ step_in r d Nothing c xs
  unfolding step_in outside_table is_word_start is_quote is_space is_alpha is_within
  end_outside = rw (eqb-true c end e)

  end_in_braces : Refused 27 0 ≡ step_in r d Braces c xs
  unfolding step_in brace_table is_quote is_space is_alpha is_within
  end_in_braces = rw (eqb-true c end e)

pub outside_by_tables : OutsideByTables
unfolding outside_by munched
outside_by_tables r d xs =
    either (λ s. s ≡ step_in r d Nothing (peek_at xs 0) xs) (is_end (peek_at xs 0)) (end_outside r d xs (peek_at xs 0))
    (λ n. lead_same (outside_led r lead_table word_table d xs) (class_leads r d xs).6 (peek_at xs 0) ∙ by_lead r d xs (peek_at xs 0) refl n)

-- white space is no letter
no_letter : (c : ℕ) → is_space c ≡ true → is_alpha c ≡ false
no_letter c w = sym (letter_tells c) ∙ ap (λ (l : ℕ). eqb l letter_lead) (eqb-true (lead_in lead_table c) white_lead (white_tells c ∙ w))

in_braces_mode : (r : Reading) (d : ℕ) (xs : List ℕ) (c : ℕ) → peek_at xs 0 ≡ c → is_end c ≡ false → brace_led r lead_table d xs (lead_in lead_table c) ≡ step_in r d Braces c xs
unfolding brace_led step_in brace_table brace_signs
in_braces_mode r d xs c e n =
    let P : Step → Type 0 = λ s. s ≡ step_in r d Braces c xs in
    rw (white_tells c, letter_tells c, quote_tells c, e)
    (either P (is_space c) (λ w. rw (no_letter c w, w)) (λ w.
    either P (is_alpha c) (λ a. rw a (brace_word_by_table (mode d Braces) xs (rw e a))) (λ a.
    either P (is_quote c) (λ q. rw (a, w, q)) (λ q. rw (a, w, q, n)))))

pub braces_by_table : BracesByTable
unfolding brace_by munched
braces_by_table r d xs =
    either (λ s. s ≡ step_in r d Braces (peek_at xs 0) xs) (is_end (peek_at xs 0)) (end_in_braces r d xs (peek_at xs 0)) (in_braces_mode r d xs (peek_at xs 0) refl)
