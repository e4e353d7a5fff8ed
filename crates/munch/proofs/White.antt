-- A white byte makes a step of white space in every mode: it begins no word, and white space is the next row of each table, or the first.
use Prim.Native.Nat.{ℕ, ◌<◌}
use mathlib.Core.Bool.{Bool, true, false, cond, ◌||◌, not}
use mathlib.Core.Path.{◌≡◌, refl}
use Rattle.scan.specs.declared.byte.Class.TheVariants as class
use Rattle.scan.specs.Byte.{peek_at, is_within, is_space, is_alpha, is_in}
use Rattle.scan.proofs.Edges.{class_ascii}
use Rattle.proving.proofs.Below.{below}
use Rattle.munch.specs.Word.{is_word_start}
use Rattle.munch.specs.declared.Inside.{Inside}
use Rattle.munch.specs.declared.Inside.TheVariants.{Nothing, Braces, Brackets}
use Rattle.munch.specs.declared.Step.TheVariants.{Space}
use Rattle.munch.specs.Munch.{mode, outside_table, brace_table, bracket_table, step_in, munched}
use Rattle.munch.specs.laws.Modes.{past}
use Rattle.munch.specs.laws.Marks.{WhiteSpace}

-- outside and in braces
no_word : (c : ℕ) → c < 0x80 → cond (is_space c) (not (is_word_start c || is_alpha c)) true ≡ true
unfolding is_space is_word_start is_alpha is_within
no_word = below (λ c. cond (is_space c) (not (is_word_start c || is_alpha c)) true) 0x80 refl

white_is : (c : ℕ) → is_space c ≡ true → (is_word_start c ≡ false) × (is_alpha c ≡ false)
white_is c e = go (is_word_start c) (is_alpha c) (rw e at (no_word c (unfold is_in in class_ascii class.Space refl c e)))
  where
    go : (a d : Bool) → not (a || d) ≡ true → (a ≡ false) × (d ≡ false)
    go true d h = (cc, cc)
    go false true h = (cc, cc)
    go false false h = (refl, refl)

pub white_space : WhiteSpace
unfolding munched step_in outside_table brace_table bracket_table
white_space r m xs e = go m.inside
  where
    go : (i : Inside) → step_in r m.depth i (peek_at xs 0) xs ≡ Space (mode m.depth (past i))
    go Nothing = rw ((white_is (peek_at xs 0) e).0, e)
    go Braces = rw ((white_is (peek_at xs 0) e).1, e)
    go (Brackets seen fresh) = rw e
