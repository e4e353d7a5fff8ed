-- The table of leads as the code has it, to be lent: what each byte may begin, as one number, which is its class or the kind of its sign. That a step
-- by this table is the step of `specs/Munch` is a law (`specs/laws/Step`).
use Rattle.std.specs.Prelude.{ℕ, zero, suc, Bool, cond, ◌||◌, List, [], ◌∷◌, eqb, leb, get_or}
use Prim.Native.Char.{code}
use Rattle.scan.specs.Byte.{is_within, is_space, is_alpha, is_digit, is_quote}
use Rattle.token.specs.Kinds.{left_paren, right_paren, left_brace, left_bracket, comma, add, sub, mul, div, modulo, pow, at_sign}
use Rattle.munch.specs.Munch.{is}

-- the classes; what a word goes on with comes last
abbrev pub quote_lead : ℕ
quote_lead = code "'"

abbrev pub other_lead : ℕ
other_lead = code "-"

abbrev pub white_lead : ℕ
white_lead = code "."

abbrev pub colon_lead : ℕ
colon_lead = code ":"

abbrev pub digit_lead : ℕ
digit_lead = code "D"

abbrev pub letter_lead : ℕ
letter_lead = code "L"

-- the kind of a sign that is whole with its one byte, outside braces and brackets
unfoldable pub sign_lead : ℕ → ℕ
sign_lead c =
    cond (is "(" c) left_paren
    (cond (is ")" c) right_paren
    (cond (is "{" c) left_brace
    (cond (is "[" c) left_bracket
    (cond (is "," c) comma
    (cond (is "+" c) add
    (cond (is "-" c) sub
    (cond (is "*" c) mul
    (cond (is "/" c) div
    (cond (is "%" c) modulo
    (cond (is "^" c) pow
    (cond (is "@" c) at_sign
    other_lead)))))))))))

unfoldable pub lead_of : ℕ → ℕ
lead_of c =
    cond (is_alpha c) letter_lead
    (cond (is_digit c) digit_lead
    (cond (is ":" c) colon_lead
    (cond (is_space c) white_lead
    (cond (is_quote c) quote_lead
    (sign_lead c)))))

-- those of n bytes from c on, and of all
unfoldable pub leads_from : ℕ → ℕ → List ℕ
leads_from zero c = []
leads_from (suc n) c = lead_of c ∷ leads_from n (suc c)

unfoldable pub lead_table : List ℕ
lead_table = leads_from 256 0

-- what a table says of a byte, and whether that is at least so much
abbrev pub lead_in : List ℕ → ℕ → ℕ
lead_in leads c = get_or leads c 0

abbrev pub is_from : List ℕ → ℕ → ℕ → Bool
is_from leads least c = leb least (lead_in leads c)

-- whether a lead is the kind of a sign, and whether it begins a word outside braces
unfoldable pub is_sign_lead : ℕ → Bool
is_sign_lead l = is_within left_paren at_sign l

unfoldable pub starts_word : ℕ → Bool
starts_word l = eqb l colon_lead || eqb l letter_lead
