-- Steps at the seam. At a byte of white space the step is that byte, in each mode; so behind a lexeme with nothing but white space after it
-- no lexeme follows. At the end of an accepted query the step is its last, outside all, and a newline there is a step of white space.
use Prim.Native.Nat.{ℕ, suc, ◌+◌}
use Prim.Native.Char.{code}
use native.Mathlib.Omega.{arith}
use mathlib.Core.Bool.{Bool, true, false, cond}
use mathlib.Core.List.{List, [], ◌∷◌}
use mathlib.Core.Path.{◌≡◌, refl}
use lib.ListN.{length}
use Rattle.scan.specs.declared.byte.Class.TheVariants as class
use Rattle.scan.specs.Byte.{is_within, is_space, is_alpha, is_in}
use Rattle.scan.specs.Run.{run_length}
use Rattle.utf8.specs.declared.Reading.{Reading}
use Rattle.munch.specs.Word.{is_word_start}
use Rattle.munch.specs.declared.Mode.{Mode}
use Rattle.munch.specs.declared.Step.{Step}
use Rattle.munch.specs.declared.Step.TheVariants.{Lexeme, Space, Comment, Refused, Finished}
use Rattle.munch.specs.Munch.{mode, outside, outside_table, step_in, munched}
use Rattle.munch.specs.laws.Modes.{past}
use Rattle.munch.specs.laws.Step.{Goes}
use Rattle.munch.proofs.Goes.{step_goes}
use Rattle.munch.proofs.White.{white_space}
use Rattle.lex.specs.Outcome.{steps_past, Entry, Outcome, reads, ends, refuses, read_from}
use Rattle.lex.proofs.Steps.{steps_at}

-- a reading that is not refused, and its lexemes
abbrev pub Accepts : Outcome → Type 0
Accepts (reads e r) = Accepts r
Accepts (ends o) = Unit {0}
Accepts (refuses n o) = ⊥

abbrev pub lexemes : Outcome → List Entry
lexemes (reads e r) = e ∷ lexemes r
lexemes (ends o) = []
lexemes (refuses n o) = []

pub line_step : (r : Reading) (xs : List ℕ) → munched r outside (code "\n" ∷ xs) ≡ Space outside
unfolding munched step_in outside_table is_word_start is_alpha is_space is_within
line_step r xs = refl

-- at the end no lexeme is left
none_left : (r : Reading) (m : Mode) (at : ℕ) → lexemes (read_from at (steps_past r 0 m [])) ≡ []
unfolding steps_past read_from
none_left r m at = go (munched r m []) (step_goes r m [])
  where
    go : (s : Step) → Goes m [] s → lexemes (read_from at (s ∷ [])) ≡ []
    go (Lexeme k n m') g = absurd (omega (arith, g.some, g.within))
    go (Space m') g = refl
    go (Comment n) g = refl
    go (Refused number o) g = refl
    go Finished g = refl

-- and where the query is accepted, it ends there, outside all
pub ended : (r : Reading) (m : Mode) (at : ℕ) → Accepts (read_from at (steps_past r 0 m [])) → (read_from at (steps_past r 0 m []) ≡ ends at) × (m ≡ outside)
unfolding steps_past read_from
ended r m at = go (munched r m []) (step_goes r m [])
  where
    go : (s : Step) → Goes m [] s → Accepts (read_from at (s ∷ [])) → (read_from at (s ∷ []) ≡ ends at) × (m ≡ outside)
    go (Lexeme k n m') g a = absurd (omega (arith, g.some, g.within))
    go (Space m') g a = absurd (omega (arith, g.within))
    go (Comment n) g a = absurd (omega (arith, g.some, g.within))
    go (Refused number o) g a = absurd a
    go Finished g a = (refl, g.1)

-- a run of a whole list takes its head
run_head : (p : ℕ → Bool) (x : ℕ) (xs : List ℕ) → run_length p (x ∷ xs) ≡ suc (length xs) → (p x ≡ true) × (run_length p xs ≡ length xs)
unfolding run_length
run_head p x xs = go (p x)
  where
    go : (b : Bool) → cond b (suc (run_length p xs)) 0 ≡ suc (length xs) → (b ≡ true) × (run_length p xs ≡ length xs)
    go true e = (refl, omega arith)
    go false e = absurd (omega arith)

pub blank : (r : Reading) (xs : List ℕ) (m : Mode) (at : ℕ) → run_length (is_in class.Space) xs ≡ length xs → lexemes (read_from at (steps_past r 0 m xs)) ≡ []
unfolding read_from is_in
blank r [] m at e = none_left r m at
blank r (x ∷ xs) m at e =
    let h = run_head (is_in class.Space) x xs e in
    rw (steps_at r (x ∷ xs) 0 m _ (white_space r m (x ∷ xs) h.0)) (blank r xs (mode m.depth (past m.inside)) (at + 1) h.1)
