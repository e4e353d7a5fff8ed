-- std compares names in any case of their letters: it lowers the letters that `lowered` does, so that its test is that of the definition.
use Prim.Native.Nat.{ℕ, ◌<◌}
use native.Mathlib.Decide.{dec_lt}
use native.Mathlib.Omega.{arith}
use mathlib.Core.Bool.{Bool, true, false, true≢false}
use mathlib.Core.List.{List, map}
use mathlib.Core.Path.{◌≡◌, refl, sym, ap, ◌∙◌}
use borrow.Author.Tests.{lt-ltb, le-ltb}
use Rattle.std.specs.Prelude.{IsTrue, ◌↔◌}
use Rattle.std.specs.Char.{to_ascii_lowercase}
use Rattle.proving.proofs.Tests.{affirmed}
use Rattle.scan.specs.Byte.{lowered}
use Rattle.scan.specs.Text.{same_text}
use Rattle.scan.proofs.Same.{same_is_equal}
use Rattle.scan.proofs.byte.Classes.{within_yes, above_not, below_not}

lowers : (c : ℕ) → lowered c ≡ to_ascii_lowercase c
unfolding lowered
lowers c = go (dec_lt c 65) (dec_lt c 91)
  where
    go : Dec (c < 65) → Dec (c < 91) → lowered c ≡ to_ascii_lowercase c
    go (yes l) d = rw (below_not 65 90 c l, lt-ltb c 65 l)
    go (no l) (yes h) = rw (within_yes 65 90 c (omega arith) (omega arith), le-ltb c 65 (omega arith), lt-ltb c 91 h)
    go (no l) (no h) = rw (above_not 65 90 c (omega arith), le-ltb c 65 (omega arith), le-ltb c 91 (omega arith))

lowers_all : (w : List ℕ) → map lowered w ≡ map to_ascii_lowercase w
lowers_all w = ap (λ (f : ℕ → ℕ). map f w) (λ i c. lowers c i)

-- the test of a name whose letters are small
pub told : (r : Bool) (w name : List ℕ) → map to_ascii_lowercase name ≡ name → (IsTrue r ↔ (map to_ascii_lowercase w ≡ map to_ascii_lowercase name)) → r ≡ same_text (map lowered w) name
told true w name n h = sym ((same_is_equal (map lowered w) name).1 (lowers_all w ∙ h.0 refl ∙ n))
told false w name n h = sym (affirmed (same_is_equal (map lowered w) name) (λ e. true≢false (sym (h.1 (sym (lowers_all w) ∙ e ∙ sym n)))))
