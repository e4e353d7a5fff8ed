-- A word is shown as itself: one test over all words, which the check computes of the two tables.
use Prim.Native.Nat.{ℕ, ◌<◌}
use native.Mathlib.Omega.{arith}
use mathlib.Core.Bool.{Bool, true, false, ◌||◌}
use mathlib.Core.Path.{◌≡◌, refl}
use lib.Dec.{eqb}
use borrow.Author.Tests.{eqb-true}
use Rattle.scan.specs.Text.{same_text}
use Rattle.proving.proofs.Below.{below}
use Rattle.scan.proofs.Same.{same_is_equal}
use Rattle.token.specs.Display.{wordless, own_kinds, displays, text_in, display_of}
use Rattle.token.specs.Words.{words}
use Rattle.token.specs.steps.WordRows.{word_count}
use Rattle.token.specs.Kinds.{number}
use Rattle.token.specs.laws.Words.{word_at}
use Rattle.token.specs.laws.Display.{WordShown}
use Rattle.token.proofs.Table.{counted}

abbrev is_shown : ℕ → Bool
is_shown i = eqb (word_at i).kind number || same_text (display_of (word_at i).kind) (word_at i).text

all_shown : (i : ℕ) → i < word_count → is_shown i ≡ true
unfolding words wordless own_kinds displays text_in same_text
all_shown i h = below is_shown word_count refl i h

pub word_shown : WordShown
word_shown i h n = go (eqb (word_at i).kind number) refl (all_shown i (omega (arith, counted)))
  where
    go : (t : Bool) → eqb (word_at i).kind number ≡ t → t || same_text (display_of (word_at i).kind) (word_at i).text ≡ true → display_of (word_at i).kind ≡ (word_at i).text
    go true e s = absurd (n (eqb-true (word_at i).kind number e))
    go false e s = (same_is_equal (display_of (word_at i).kind) (word_at i).text).0 s
