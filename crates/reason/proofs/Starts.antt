-- Where a word outside braces begins, a byte stands: what it begins with is ASCII, and the end is not.
use Prim.Native.Nat.{ℕ, ◌<◌}
use Prim.Native.Char.{code}
use native.Mathlib.Omega.{arith}
use mathlib.Core.Bool.{true}
use mathlib.Core.List.{List}
use mathlib.Core.Path.{◌≡◌, refl}
use lib.ListN.{length}
use Rattle.scan.specs.declared.byte.Class.TheVariants.{Alpha}
use Rattle.scan.specs.Byte.{peek_at, is_in}
use Rattle.scan.proofs.Edges.{ascii_inside, class_ascii, one_ascii, or_ascii}
use Rattle.munch.specs.Word.{is_word_start}

pub start_inside : (xs : List ℕ) → is_word_start (peek_at xs 0) ≡ true → 0 < length xs
unfolding is_word_start is_in
start_inside xs e = ascii_inside xs 0 (or_ascii _ _ (class_ascii Alpha refl) (one_ascii (code ":") (omega arith)) (peek_at xs 0) e)
