-- What the C functions over `token` answer, by cases over `token`'s answers.
use Rattle.std.specs.Prelude.{ℕ, ◌+◌, ◌^◌, Bool, cond, None, Option, Some}
use Rattle.token.specs.Classes.{is_operator, is_comparison_operator, is_set_operator, is_aggregator, is_aggregator_with_param}

-- the kind of a word, or a number that no kind has
abbrev pub keyword_code : Option ℕ → ℕ
keyword_code (Some k) = k
keyword_code None = 2 ^ 16

-- so much where a test says so
abbrev pub flag : Bool → ℕ → ℕ
flag b n = cond b n 0

-- a bit for each class
abbrev pub classes_code : ℕ → ℕ
classes_code k =
    flag (is_operator k) 1
    + flag (is_comparison_operator k) 2
    + flag (is_set_operator k) 4
    + flag (is_aggregator k) 8
    + flag (is_aggregator_with_param k) 16
