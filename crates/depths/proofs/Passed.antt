-- From a place that the reading reaches to the next: the lexemes between the two, of which there is one at most, are added to those before (`entries_divided`).
use Prim.Native.Nat.{ℕ, ◌+◌, ◌≤◌, ◌<◌}
use native.Mathlib.Omega.{arith}
use mathlib.Core.List.{List, [], ◌∷◌, ◌++◌, map, append-nil}
use mathlib.Core.Path.{◌≡◌, refl, sym, ap, ◌∙◌}
use lib.ListN.{length, drop, length-drop}
use borrow.Author.Tests.{lt-ltb, le-ltb}
use Rattle.utf8.specs.declared.Reading.{Reading}
use Rattle.munch.specs.declared.Mode.{Mode}
use Rattle.munch.specs.declared.Step.{Step}
use Rattle.munch.specs.declared.Step.TheVariants.{Lexeme, Space, Comment}
use Rattle.munch.specs.Munch.{munched}
use Rattle.munch.specs.laws.Step.{Past, Goes}
use Rattle.munch.proofs.Goes.{step_goes}
use Rattle.lex.specs.Outcome.{step_length, step_mode, followed, steps_past, Entry, entry, depth_by, read_from}
use Rattle.lex.specs.Lex.{entries, entries_of, kind_of}
use Rattle.lex.specs.laws.Refusals.{Reaches}
use Rattle.lex.specs.laws.Before.{AllEnded, AllLater, entries_from, Divided}
use Rattle.lex.proofs.Steps.{steps_at}
use Rattle.lex.proofs.Before.{entries_divided}
use Rattle.depths.specs.laws.Modes.{kinds_before}

-- the kinds before a place are of those that ended, and none of the later
kinds_ended : (i j : ℕ) → i ≤ j → (es fs : List Entry) → AllEnded i es → kinds_before j (es ++ fs) ≡ map kind_of es ++ kinds_before j fs
kinds_ended i j l [] fs h = refl
kinds_ended i j l (e ∷ es) fs h = rw (lt-ltb e.start j (omega (arith, h.0, h.1)), kinds_ended i j l es fs h.2)

pub kinds_later : (at : ℕ) (es : List Entry) → AllLater at es → kinds_before at es ≡ []
kinds_later at [] h = refl
kinds_later at (e ∷ es) h = rw (le-ltb e.start at h.0) (kinds_later at es h.1)

kinds_at : (at : ℕ) (es fs : List Entry) → AllEnded at es → AllLater at fs → kinds_before at (es ++ fs) ≡ map kind_of es
kinds_at at es fs h g = kinds_ended at at (omega arith) es fs h ∙ rw (kinds_later at fs g) (append-nil _)

module _ (r : Reading) (q : List ℕ) where
  -- a step from one place to another, and the lexemes between them
  pub record Passes (i : ℕ) (m : Mode) (j : ℕ) (m' : Mode) (fs : List Entry) : Type 0 where
    pub on : i < j
    pub within : j ≤ length q
    pub between : entries_from r q i m ≡ fs ++ entries_from r q j m'
    pub ended : AllEnded j fs

  module _ (i : ℕ) (m : Mode) where
    goes : {s : Step} → munched r m (drop i q) ≡ s → Goes m (drop i q) s
    goes e = rw e at (step_goes r m (drop i q))

    read : {s : Step} → munched r m (drop i q) ≡ s → entries_from r q i m ≡ entries (read_from i (followed s (steps_past r 0 (step_mode m s) (drop (i + step_length s) q))))
    read {s} e = ap (λ t. entries (read_from i t)) (steps_at r q i m s e)

    passed : {n : ℕ} {m' : Mode} {fs : List Entry} → Past (drop i q) n → entries_from r q i m ≡ fs ++ entries_from r q (i + n) m' → AllEnded (i + n) fs → Passes i m (i + n) m' fs
    passed g e f = record { on = omega (arith, g.some); within = omega (arith, g.some, g.within, length-drop i q); between = e; ended = f }

    pub lexed : {k n : ℕ} {m' : Mode} → munched r m (drop i q) ≡ Lexeme k n m' → Passes i m (i + n) m' (entry k i n (depth_by k m') ∷ [])
    unfolding read_from
    lexed e = passed (goes e) (read e) ((goes e).some, omega arith, tt)

    pub spaced : {m' : Mode} → munched r m (drop i q) ≡ Space m' → Passes i m (i + 1) m' []
    unfolding read_from
    spaced e = passed (goes e) (read e) tt

    pub commented : {n : ℕ} → munched r m (drop i q) ≡ Comment n → Passes i m (i + n) m []
    unfolding read_from
    commented e = passed (goes e) (read e) tt

  module _ {i j : ℕ} {m m' : Mode} (g : Reaches r q i m) (h : Reaches r q j m') where
    parts : Divided r q i m
    parts = entries_divided r q i m g

    pub kinds_more : {fs : List Entry} → Passes i m j m' fs → kinds_before j (entries_of r q) ≡ kinds_before i (entries_of r q) ++ map kind_of fs
    kinds_more {fs} p =
        ap (kinds_before j) parts.all
        ∙ kinds_ended i j (omega (arith, p.on)) parts.before (entries_from r q i m) parts.ended
        ∙ ap (λ es. map kind_of parts.before ++ kinds_before j es) p.between
        ∙ ap (λ ks. map kind_of parts.before ++ ks) (kinds_at j fs (entries_from r q j m') p.ended (entries_divided r q j m' h).later)
        ∙ ap (λ ks. ks ++ map kind_of fs) (sym (ap (kinds_before i) parts.all ∙ kinds_at i parts.before (entries_from r q i m) parts.ended parts.later))
