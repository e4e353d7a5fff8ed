-- Laws of edges: each is within the text, and a run of ASCII bytes goes from one to another, since its last byte is ASCII.
use Prim.Native.Nat.{ℕ, zero, suc, ◌+◌, ◌<◌}
use Prim.Native.Char.{code}
use native.Mathlib.Omega.{arith}
use native.Mathlib.Nat.{add-zero}
use mathlib.Core.Bool.{Bool, true, false, ◌||◌, true≢false}
use mathlib.Core.Path.{◌≡◌, refl, sym, subst}
use lib.Dec.{ltb}
use lib.ListN.{drop}
use borrow.Author.Tests.{eqb-true, lt-ltb}
use Rattle.scan.specs.declared.byte.Class.TheVariants.{Space, Alpha, Digit, HexDigit, AlphaNumeric, Word, Line}
use Rattle.scan.specs.Byte.{peek_at, is_within, is_space, is_alpha, is_digit, is_hex_digit, is_alpha_numeric, is_word, is_in}
use Rattle.scan.specs.laws.Edge.{Edge, first, last, behind, EdgeWithin, AsciiAlone, EdgeRun, ClassAscii, OneAscii, OrAscii}
use Rattle.scan.specs.laws.Inside.{AsciiInside}
use Rattle.scan.specs.Run.{run_length}
use Rattle.scan.proofs.byte.Classes.{within_bounds}
use Rattle.scan.proofs.Runs.{inside, run_passes}

-- an ASCII byte stands within the text
pub ascii_inside : AsciiInside
ascii_inside xs n h = inside (λ c. ltb c 0x80) refl xs n (lt-ltb _ _ h)

pub edge_within : EdgeWithin
edge_within xs _ first = omega arith
edge_within xs _ last = omega arith
edge_within xs _ (behind n h) = ascii_inside xs n h

-- a run that has bytes ends behind the last of them, which passes the test
pub edge_run : EdgeRun
edge_run p a xs n h = go (run_length p (drop n xs)) refl
  where
    go : (k : ℕ) → run_length p (drop n xs) ≡ k → Edge xs (n + k)
    go zero e = subst (Edge xs) (sym (add-zero n)) h
    go (suc k) e = subst (Edge xs) (omega arith) (behind (n + k) (a (peek_at xs (n + k)) (run_passes p xs n (n + k) (omega arith) (omega arith))))

-- tests that ASCII bytes alone pass: of one of them, of those between two, and of either of two tests
pub one_ascii : OneAscii
one_ascii y h c e = omega (arith, eqb-true c y e)

within_ascii : (lo hi : ℕ) → hi < 0x80 → AsciiAlone (is_within lo hi)
within_ascii lo hi h c e = omega (arith, within_bounds lo hi c e)

pub or_ascii : OrAscii
or_ascii p q a b c e = go (p c) refl e
  where
    go : (t : Bool) → p c ≡ t → t || q c ≡ true → c < 0x80
    go true f g = a c f
    go false f g = b c g

-- so those of the classes, but for a comment's
digit_ascii : AsciiAlone is_digit
digit_ascii = within_ascii (code "0") (code "9") (omega arith)

alpha_ascii : AsciiAlone is_alpha
unfolding is_alpha
alpha_ascii = or_ascii _ _ (within_ascii (code "a") (code "z") (omega arith)) (or_ascii _ _ (within_ascii (code "A") (code "Z") (omega arith)) (one_ascii (code "_") (omega arith)))

hex_ascii : AsciiAlone is_hex_digit
unfolding is_hex_digit
hex_ascii = or_ascii _ _ digit_ascii (or_ascii _ _ (within_ascii (code "a") (code "f") (omega arith)) (within_ascii (code "A") (code "F") (omega arith)))

space_ascii : AsciiAlone is_space
unfolding is_space
space_ascii = or_ascii _ _ (one_ascii 9 (omega arith)) (or_ascii _ _ (one_ascii 10 (omega arith)) (or_ascii _ _ (one_ascii 12 (omega arith)) (or_ascii _ _ (one_ascii 13 (omega arith)) (one_ascii 32 (omega arith)))))

alpha_numeric_ascii : AsciiAlone is_alpha_numeric
unfolding is_alpha_numeric
alpha_numeric_ascii = or_ascii _ _ alpha_ascii digit_ascii

word_ascii : AsciiAlone is_word
unfolding is_word
word_ascii = or_ascii _ _ alpha_numeric_ascii (one_ascii (code ":") (omega arith))

pub class_ascii : ClassAscii
unfolding is_in
class_ascii Space t = space_ascii
class_ascii Alpha t = alpha_ascii
class_ascii Digit t = digit_ascii
class_ascii HexDigit t = hex_ascii
class_ascii AlphaNumeric t = alpha_numeric_ascii
class_ascii Word t = word_ascii
class_ascii Line t = absurd (true≢false (sym t))
