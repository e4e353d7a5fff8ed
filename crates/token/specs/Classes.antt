-- The classes of kinds: document 01's "Kinds", "operators are 20 to 38, aggregators 40 to 53", and the tests of token.rs's `TokenType`
-- within them. A number that is no kind is in none.
use Rattle.std.specs.Prelude.{ℕ, Bool}
use Rattle.scan.specs.Byte.{is_within}
use Rattle.token.specs.Kinds.{add, eqlc, gtr, land, lunless, atan2, sum, topk, limit_ratio}

-- `+` to atan2
abbrev pub is_operator : ℕ → Bool
is_operator k = is_within add atan2 k

-- `== != <= < >= >`
abbrev pub is_comparison_operator : ℕ → Bool
is_comparison_operator k = is_within eqlc gtr k

-- and, or, unless
abbrev pub is_set_operator : ℕ → Bool
is_set_operator k = is_within land lunless k

-- sum to limit_ratio
abbrev pub is_aggregator : ℕ → Bool
is_aggregator k = is_within sum limit_ratio k

-- topk, bottomk, count_values, quantile, limitk, limit_ratio
abbrev pub is_aggregator_with_param : ℕ → Bool
is_aggregator_with_param k = is_within topk limit_ratio k
