-- Labels, as the Rust's `is_label` has them: not empty, a letter or `_` first, then letters, digits and `_`; no colon.
use Rattle.std.specs.Prelude.{ℕ, Bool, true, false, cond, ◌&&◌, List, [], ◌∷◌}
use Rattle.scan.specs.Byte.{is_alpha, is_alpha_numeric}
use Rattle.utf8.specs.Text.{codes_of, is_well_formed}

abbrev pub every : (ℕ → Bool) → List ℕ → Bool
every p [] = true
every p (c ∷ cs) = p c && every p cs

abbrev pub named : List ℕ → Bool
named [] = false
named (c ∷ cs) = is_alpha c && every is_alpha_numeric cs

-- said of the characters; bytes that are not UTF-8 are no label
unfoldable pub is_label : List ℕ → Bool
is_label xs = cond (is_well_formed xs) (named (codes_of xs)) false
