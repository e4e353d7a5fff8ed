-- The 35 words and their kinds: document 01, "Kinds", in the order of the Rust's KEYWORDS.
use Rattle.std.specs.Prelude.{ℕ, cond, List, [], ◌∷◌, map, None, Option, Some}
use Prim.Native.String.{String}
use Rattle.scan.specs.Ascii.{ascii}
use Rattle.scan.specs.Byte.{lowered}
use Rattle.scan.specs.Text.{same_text}
use Rattle.utf8.specs.Text.{codes_of, is_well_formed}
use Rattle.token.specs.Kinds.{number, land, lor, lunless, atan2, sum, avg, count_kind, min, max, group, stddev, stdvar, topk, bottomk, count_values, quantile, limitk, limit_ratio, offset, by, without, on, ignoring, group_left, group_right, bool, smoothed, anchored, fill, fill_left, fill_right, start, end_kind}

-- a text, and the kind that has it
pub record KindText : Type 0 where
  pub text : List ℕ
  pub kind : ℕ

infix 90 ◌names◌
abbrev pub ◌names◌ : String → ℕ → KindText
s names k = record { text = ascii s; kind = k }

-- "and, or, unless, atan2"; "sum to limit_ratio", "offset to fill_right", "start", "end"; "inf and nan are NUMBER"
unfoldable pub words : List KindText
words =
    "and" names land
    ∷ "or" names lor
    ∷ "unless" names lunless
    ∷ "atan2" names atan2
    ∷ "sum" names sum
    ∷ "avg" names avg
    ∷ "count" names count_kind
    ∷ "min" names min
    ∷ "max" names max
    ∷ "group" names group
    ∷ "stddev" names stddev
    ∷ "stdvar" names stdvar
    ∷ "topk" names topk
    ∷ "bottomk" names bottomk
    ∷ "count_values" names count_values
    ∷ "quantile" names quantile
    ∷ "limitk" names limitk
    ∷ "limit_ratio" names limit_ratio
    ∷ "offset" names offset
    ∷ "by" names by
    ∷ "without" names without
    ∷ "on" names on
    ∷ "ignoring" names ignoring
    ∷ "group_left" names group_left
    ∷ "group_right" names group_right
    ∷ "bool" names bool
    ∷ "smoothed" names smoothed
    ∷ "anchored" names anchored
    ∷ "fill" names fill
    ∷ "fill_left" names fill_left
    ∷ "fill_right" names fill_right
    ∷ "start" names start
    ∷ "end" names end_kind
    ∷ "inf" names number
    ∷ "nan" names number
    ∷ []

-- the kind of the row whose text a word is
unfoldable pub kind_in : List KindText → List ℕ → Option ℕ
kind_in [] w = None
kind_in (e ∷ es) w = cond (same_text w e.text) (Some e.kind) (kind_in es w)

-- "A word of the table, in any case, has its kind": its characters, letters lowered, are the text of a row
unfoldable pub keyword_of : List ℕ → Option ℕ
keyword_of xs = cond (is_well_formed xs) (kind_in words (map lowered (codes_of xs))) None
