-- Laws of the table of texts, by one test that the check computes: each kind is another than each that follows, and each text is short.
use Prim.Native.Nat.{ℕ, ◌≤◌}
use mathlib.Core.Bool.{Bool, true, ◌&&◌, not}
use mathlib.Core.Path.{◌≡◌, refl, sym, ◌∙◌}
use mathlib.Core.List.{List}
use lib.Dec.{leb, eqb, lit≤}
use lib.ListN.{length}
use borrow.Author.Tests.{leb-true, eq-eqb, eqb-true, eqb-false, not-true}
use Rattle.proving.proofs.Choice.{and_left, and_right}
use Rattle.token.specs.Words.{KindText, ◌names◌, words}
use Rattle.token.specs.Display.{wordless, own_kinds, displays, text_in}
use Rattle.token.specs.laws.Display.{shown_at, KindsDistinct, KindShown, OtherUnknown, text_size, DisplayShort}
use Rattle.token.proofs.Every.{every, distinct, Search, each_found, none_hit, one_hit, hit_found}

abbrev is_shown : KindText → Bool
is_shown e = leb (length e.text) text_size

-- the search for a kind, which is not both of two that differ
abbrev differs : KindText → KindText → Bool
differs e f = not (eqb e.kind f.kind)

abbrev searched : ℕ → Search KindText (List ℕ)
searched k =
    record {
      is_hit = λ e. eqb e.kind k;
      value = λ e. e.text;
      find = λ es. text_in es k;
      turn = λ e es. unfold text_in in refl;
      unlike = differs;
      apart = λ e f u p q. eqb-false e.kind f.kind (not-true (eqb e.kind f.kind) u) (eqb-true e.kind k p ∙ sym (eqb-true f.kind k q));
    }

tested : every is_shown displays && distinct differs displays ≡ true
unfolding displays wordless own_kinds words
tested = refl

entries : every is_shown displays ≡ true
entries = and_left _ _ tested

apart : distinct differs displays ≡ true
apart = and_right (every is_shown displays) _ tested

-- the three laws of the table
pub kinds_distinct : KindsDistinct
kinds_distinct i j h l q =
    one_hit (searched (shown_at j).kind) ("" names 0) displays apart i j h l (eq-eqb (shown_at i).kind (shown_at j).kind q) (eq-eqb (shown_at j).kind (shown_at j).kind refl)

pub kind_shown : KindShown
kind_shown i h = hit_found (searched (shown_at i).kind) ("" names 0) displays apart i h (eq-eqb (shown_at i).kind (shown_at i).kind refl)

pub other_unknown : OtherUnknown
unfolding text_in
other_unknown k n = none_hit (searched k) ("" names 0) displays (λ i h e. n i h (eqb-true (shown_at i).kind k e))

pub short : DisplayShort
unfolding text_in
short k =
    each_found (searched k) is_shown (λ xs. length xs ≤ text_size) (lit≤ tt)
    (λ e t s. leb-true _ _ t) displays entries
