-- A step by tables of leads and of words that are lent, as the code makes it. That with the two tables of document 01 it is the step of
-- `specs/Munch` is a law (`specs/laws/Step`).
use Rattle.std.specs.Prelude.{ℕ, true, false, cond, List, [], ◌∷◌, eqb, ltb, take, None, Option, Some}
use Rattle.scan.specs.Byte.{peek_at}
use Rattle.scan.specs.Run.{run_end}
use Rattle.utf8.specs.declared.Reading.{Reading}
use Rattle.token.specs.Kinds.{identifier, metric_identifier, left_paren, right_paren, left_brace, right_brace, left_bracket, comma, lte, lss, gte, gtr}
use Rattle.token.specs.steps.WordRows.{keyword_in}
use Rattle.munch.specs.Word.{rule_by, brace_rule, kind_by}
use Rattle.munch.specs.declared.Inside.TheVariants.{Nothing, Braces, Brackets}
use Rattle.munch.specs.declared.Mode.{Mode}
use Rattle.munch.specs.declared.Step.{Step}
use Rattle.munch.specs.declared.Step.TheVariants.{Lexeme, Space, Refused}
use Rattle.munch.specs.Munch.{mode, deeper, sign, refuse, number_step, dot_step, quoted_step, comment_step, equals_step, bang_step, compare_step, right_paren_step, end_step, brace_equals, brace_bang, Opening, row, is, is_end, step_for}
use Rattle.munch.specs.steps.Leads.{quote_lead, white_lead, colon_lead, digit_lead, letter_lead, lead_in, is_from, is_sign_lead, starts_word}

-- the kind of a word without a colon, by that which it has of its own
abbrev pub kind_from : Option ℕ → List ℕ → ℕ → ℕ
kind_from (Some k) xs n = kind_by (rule_by (Some k) xs n)
kind_from None xs n = identifier

-- a word outside braces: a colon stands in it where it goes on behind its first letters and digits
unfoldable pub word_step_by : List ℕ → List ℕ → Mode → List ℕ → Step
word_step_by leads words m xs =
    let label = run_end (is_from leads digit_lead) xs 0 in
    let n = run_end (is_from leads colon_lead) xs label in
    cond (ltb label n) (Lexeme metric_identifier n m) (Lexeme (kind_from (keyword_in words (take n xs)) xs n) n m)

unfoldable pub brace_word_by : List ℕ → Mode → List ℕ → Step
brace_word_by leads m xs = let n = run_end (is_from leads digit_lead) xs 0 in Lexeme (kind_by (brace_rule xs n)) n m

-- a sign that is whole with its one byte outside, by its kind
unfoldable pub sign_step : ℕ → ℕ → Step
sign_step kind d =
    cond (eqb kind left_paren) (Lexeme kind 1 (mode (deeper d) Nothing))
    (cond (eqb kind right_paren) (right_paren_step d)
    (cond (eqb kind left_brace) (Lexeme kind 1 (mode d Braces))
    (cond (eqb kind left_bracket) (Lexeme kind 1 (mode d (Brackets false true)))
    (Lexeme kind 1 (mode d Nothing)))))

-- the rows of the table outside that are for no class, nor for such a sign; and those in braces that are for a sign
unfoldable pub other_table : Reading → Mode → List Opening
other_table r here =
    row (is "#") comment_step
    ∷ row (is ".") (dot_step r here)
    ∷ row (is "}") (refuse 17)
    ∷ row (is "]") (refuse 18)
    ∷ row (is "=") (equals_step here)
    ∷ row (is "!") (bang_step here)
    ∷ row (is "<") (compare_step lte lss here)
    ∷ row (is ">") (compare_step gte gtr here)
    ∷ []

unfoldable pub brace_signs : ℕ → List Opening
brace_signs d =
    let here = mode d Braces in
    row (is "#") comment_step
    ∷ row (is "{") (refuse 25)
    ∷ row (is "}") (sign right_brace (mode d Nothing))
    ∷ row (is ",") (sign comma here)
    ∷ row (is "=") (brace_equals here)
    ∷ row (is "!") (brace_bang here)
    ∷ []

-- by the lead of the first byte
unfoldable pub outside_led : Reading → List ℕ → List ℕ → ℕ → List ℕ → ℕ → Step
outside_led r leads words d xs lead =
    let here = mode d Nothing in
    cond (eqb lead white_lead) (Space here)
    (cond (is_sign_lead lead) (sign_step lead d)
    (cond (starts_word lead) (word_step_by leads words here xs)
    (cond (eqb lead digit_lead) (number_step r here xs)
    (cond (eqb lead quote_lead) (quoted_step r here xs)
    (step_for (other_table r here) 19 (peek_at xs 0) xs)))))

unfoldable pub brace_led : Reading → List ℕ → ℕ → List ℕ → ℕ → Step
brace_led r leads d xs lead =
    let here = mode d Braces in
    cond (eqb lead white_lead) (Space here)
    (cond (eqb lead letter_lead) (brace_word_by leads here xs)
    (cond (eqb lead quote_lead) (quoted_step r here xs)
    (step_for (brace_signs d) 26 (peek_at xs 0) xs)))

-- a step outside, and one in braces
unfoldable pub outside_by : Reading → List ℕ → List ℕ → ℕ → List ℕ → Step
outside_by r leads words d xs = cond (is_end (peek_at xs 0)) (end_step d) (outside_led r leads words d xs (lead_in leads (peek_at xs 0)))

unfoldable pub brace_by : Reading → List ℕ → ℕ → List ℕ → Step
brace_by r leads d xs = cond (is_end (peek_at xs 0)) (Refused 27 0) (brace_led r leads d xs (lead_in leads (peek_at xs 0)))
