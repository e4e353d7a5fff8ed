-- Where a comment ends: behind a CR or an LF, as no other byte is outside the class of a line's bytes, or at the end. A newline behind the
-- bytes is outside it too: it ends a comment that nothing ended before, and changes no other.
use Prim.Native.Nat.{ℕ, suc, ◌<◌, ◌≤◌}
use Prim.Native.Char.{code}
use native.Mathlib.Omega.{arith}
use mathlib.Core.Bool.{false, ◌||◌}
use mathlib.Core.List.{List, ◌∷◌, ◌++◌}
use mathlib.Core.Logic.{◌⊎◌, inl, inr}
use mathlib.Core.Path.{◌≡◌, refl, sym, ap, subst}
use lib.Dec.{ltb}
use lib.ListN.{length, length-append}
use borrow.Author.Tests.{lt-ltb, ltb-true, ltb-false}
use Rattle.scan.specs.declared.byte.Class.TheVariants.{Line}
use Rattle.scan.specs.Byte.{end, is_in, is_line, peek_at}
use Rattle.scan.specs.laws.Edge.{Edge, last, behind}
use Rattle.scan.specs.Run.{run_end}
use Rattle.proving.proofs.Below.{below}
use Rattle.proving.proofs.Choice.{either}
use Rattle.scan.proofs.byte.Classes.{end_in_none}
use Rattle.scan.proofs.Runs.{run_within, run_stopped, run_append}
use Rattle.quoted.specs.Quoted.{comment_end}
use Rattle.quoted.specs.laws.Quoted.{CommentWithin, CommentSeam}

-- a byte outside the class, by one test of them all
line_end : (c : ℕ) → c < end → is_in Line c ≡ false → c < 0x80
unfolding is_in is_line
line_end c h e = ltb-true c 0x80 (rw e at (below (λ b. is_in Line b || ltb b 0x80) end refl c h))

line_within : (xs : List ℕ) → run_end (is_in Line) xs 0 ≤ length xs
line_within xs = omega (arith, run_within (is_in Line) xs 0)

to_the_end : (xs : List ℕ) → ltb (run_end (is_in Line) xs 0) (length xs) ≡ false → run_end (is_in Line) xs 0 ≡ length xs
to_the_end xs e = omega (arith, ltb-false (run_end (is_in Line) xs 0) (length xs) e, line_within xs)

comment_few : (xs : List ℕ) → comment_end xs ≤ length xs
unfolding comment_end
comment_few xs =
    let n = run_end (is_in Line) xs 0 in
    either (λ m. m ≤ length xs) (ltb n (length xs)) (λ e. ltb-true n (length xs) e) (λ e. line_within xs)

pub comment_within : CommentWithin
unfolding comment_end
comment_within xs =
    let n = run_end (is_in Line) xs 0 in (
      comment_few xs,
      λ b. either (Edge xs) (ltb n (length xs))
          (λ e. behind n (line_end (peek_at xs n) (b n (ltb-true n (length xs) e)) (run_stopped (is_in Line) (end_in_none Line) xs 0)))
          (λ e. subst (Edge xs) (sym (to_the_end xs e)) last),
    )

-- with a newline behind the bytes, a comment takes in the byte that ends it
newline_ends : (xs ys : List ℕ) → comment_end (xs ++ code "\n" ∷ ys) ≡ suc (run_end (is_in Line) xs 0)
unfolding comment_end is_in is_line
newline_ends xs ys =
    rw
    (run_append (is_in Line) xs (code "\n") ys refl 0 (omega arith), lt-ltb (run_end (is_in Line) xs 0) (length (xs ++ code "\n" ∷ ys)) (omega (arith, line_within xs, length-append xs (code "\n" ∷ ys))))

pub comment_seam : CommentSeam
unfolding comment_end
comment_seam xs ys =
    let n = run_end (is_in Line) xs 0 in
    rw newline_ends
    (either (λ m. (suc n ≡ m) ⊎ ((m ≡ length xs) × (suc n ≡ suc (length xs)))) (ltb n (length xs)) (λ e. inl refl)
    (λ e. inr (to_the_end xs e, ap suc (to_the_end xs e))))
