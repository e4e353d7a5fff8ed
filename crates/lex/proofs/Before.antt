-- The lexemes of a query before a place that the reading reaches, and those behind it: by the steps that it is reached in. Each adds its lexeme, if it is one, to
-- those before (`steps_at`), and takes one byte at least (`goes_at`); what steps say from an offset on begins there or later, since offsets grow alone.
use Prim.Native.Nat.{ℕ, ◌+◌, ◌≤◌}
use native.Mathlib.Omega.{arith}
use mathlib.Core.List.{List, [], ◌∷◌, ◌++◌, append_assoc}
use mathlib.Core.Path.{◌≡◌, refl, ap, ◌∙◌}
use lib.ListN.{drop}
use Rattle.utf8.specs.declared.Reading.{Reading}
use Rattle.munch.specs.declared.Mode.{Mode}
use Rattle.munch.specs.declared.Step.{Step}
use Rattle.munch.specs.declared.Step.TheVariants.{Lexeme, Space, Comment, Refused, Finished}
use Rattle.munch.specs.Munch.{outside, munched}
use Rattle.lex.specs.Outcome.{step_length, step_mode, followed, steps_past, Entry, read_from}
use Rattle.lex.specs.Lex.{entries}
use Rattle.lex.specs.laws.Refusals.{Reaches, start, lexeme, space, comment}
use Rattle.lex.specs.laws.Before.{AllEnded, AllLater, entries_from, Divided, EntriesDivided}
use Rattle.lex.proofs.Steps.{steps_at, goes_at}

all_later : (at from : ℕ) → at ≤ from → (t : List Step) → AllLater at (entries (read_from from t))
unfolding read_from
all_later at from h [] = (h, tt)
all_later at from h (Lexeme k n m ∷ t) = (h, all_later at (from + n) (omega arith) t)
all_later at from h (Space m ∷ t) = all_later at (from + 1) (omega arith) t
all_later at from h (Comment n ∷ t) = all_later at (from + n) (omega arith) t
all_later at from h (Refused number o ∷ t) = tt
all_later at from h (Finished ∷ t) = (h, tt)

-- those that ended have ended later on, and so with more of them
ended_on : (i j : ℕ) → i ≤ j → (es fs : List Entry) → AllEnded i es → AllEnded j fs → AllEnded j (es ++ fs)
ended_on i j h [] fs a b = b
ended_on i j h (e ∷ es) fs a b = (a.0, omega (arith, a.1), ended_on i j h es fs a.2 b)

module _ (r : Reading) (q : List ℕ) where
  from_there : (at : ℕ) (m : Mode) → AllLater at (entries_from r q at m)
  from_there at m = all_later at at (omega arith) (steps_past r 0 m (drop at q))

  -- from a place to another, with the lexemes between them
  onward : {i j : ℕ} {m m' : Mode} → Divided r q i m → (fs : List Entry) → entries_from r q i m ≡ fs ++ entries_from r q j m' → i ≤ j → AllEnded j fs → Divided r q j m'
  onward {i} {j} {m} {m'} d fs e h f =
      record {
        before = d.before ++ fs;
        all = d.all ∙ rw (e, append_assoc);
        ended = ended_on i j h d.before fs d.ended f;
        later = from_there j m';
      }

  read : (i : ℕ) (m : Mode) {s : Step} → munched r m (drop i q) ≡ s → entries_from r q i m ≡ entries (read_from i (followed s (steps_past r 0 (step_mode m s) (drop (i + step_length s) q))))
  read i m {s} e = ap (λ t. entries (read_from i t)) (steps_at r q i m s e)

  divided : {at : ℕ} {m : Mode} → Reaches r q at m → Divided r q at m
  unfolding read_from
  divided start = record { before = []; all = refl; ended = tt; later = from_there 0 outside }
  divided (lexeme i k n m m' h e) = onward (divided h) (_ ∷ []) (read i m e) (omega arith) ((goes_at r q i m _ e).some, omega arith, tt)
  divided (space i m m' h e) = onward (divided h) [] (read i m e) (omega arith) tt
  divided (comment i n m h e) = onward (divided h) [] (read i m e) (omega arith) tt

pub entries_divided : EntriesDivided
entries_divided r q at m h = divided r q h
