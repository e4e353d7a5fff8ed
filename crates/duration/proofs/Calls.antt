-- The round trip, said of the calls: whatever answers and contents their promises allow. What `display_duration` wrote is the text of the duration,
-- which both readings read back (`reads_again`).
use Prim.Native.Nat.{ℕ, ◌≤◌}
use native.Mathlib.Omega.{arith}
use mathlib.Core.List.{List, ◌++◌}
use mathlib.Core.Path.{◌≡◌, sym, ap, ap₂, subst, ◌∙◌}
use contract.Lifetimes.{Lfts}
use borrow.Fn.Kinds.{Dens, res_t, ended_of}
use denote.Triple.Clauses.{AtExit}
use lib.ListN.{length, take, drop}
use lib.Seq.{take-append_seam}
use Rattle.utf8.specs.declared.Refusal.{Refusal}
use Rattle.std.specs.Prelude.{Ok, Result}
use Rattle.utf8.specs.Writing.{left_by}
use Rattle.duration.specs.declared.span.Duration.{Duration}
use Rattle.duration.specs.declared.Oversized.TheVariants as oversized
use Rattle.duration.specs.Display.{duration_text, displaying_of}
use Rattle.duration.specs.Duration.{timing_of, exact_timing_of}
use Rattle.duration.specs.laws.Display.{DisplayTells}
use Rattle.duration.specs.laws.Exact.{Recoverable}
use Rattle.duration.proofs.Back.{reads_again}
use Rattle.duration.proofs.display.Answers.{display_answers}
use Rattle.duration.proofs.display.Given.{displaying_given}
use Rattle.duration.proofs.parse_duration.Kinds as parse
use Rattle.duration.proofs.parse_duration.Reads as parse_reads
use Rattle.duration.proofs.parse_duration_exact.Kinds as exact
use Rattle.duration.proofs.parse_duration_exact.Reads as exact_reads
use Rattle.duration.proofs.display.display_duration.Kinds as display
use Rattle.duration.proofs.display.display_duration.Reads as display_reads

-- a call of `display_duration` that keeps its promise, with a buffer of so many bytes
pub record DisplayCall (d : Duration) (room : ℕ) : Type 0 where
  pub κs : Lfts 1
  pub args : Dens κs display.ps
  pub result : (res_t display.r κs).Denot
  pub exit : AtExit (ended_of 1 display.ps display.r) κs
  pub post : display_reads.Post κs args result exit
  pub of_duration : args.0 ≡ d
  pub in_room : length args.1.0.now ≡ room

-- calls of the two readings on a text
pub record ParseCall (xs : List ℕ) : Type 0 where
  pub κs : Lfts 1
  pub args : Dens κs parse.ps
  pub result : (res_t parse.r κs).Denot
  pub exit : AtExit (ended_of 1 parse.ps parse.r) κs
  pub post : parse_reads.Post κs args result exit
  pub of_text : args.0.now ≡ xs

pub record ExactCall (xs : List ℕ) : Type 0 where
  pub κs : Lfts 1
  pub args : Dens κs exact.ps
  pub result : (res_t exact.r κs).Denot
  pub exit : AtExit (ended_of 1 exact.ps exact.r) κs
  pub post : exact_reads.Post κs args result exit
  pub of_text : args.0.now ≡ xs

-- an accepted call has written the text of its duration, whatever room there was
module _ (d : Duration) (w : Recoverable d) (room n : ℕ) (c : DisplayCall d room) (e : c.result ≡ Ok n) where
  whole : n ≡ length (duration_text d)
  whole = (subst (DisplayTells room d) (sym (ap₂ displaying_of c.in_room c.of_duration) ∙ sym c.post.0 ∙ e) (display_answers room d)).0

  front : take n c.exit.1.0.now ≡ duration_text d
  front =
      let out = c.args.1.0.now in
      let l : c.exit.1.0.now ≡ duration_text d ++ drop n out = c.post.1 ∙ ap₂ (λ (v : Result ℕ Refusal) (f : Duration). left_by v (duration_text f) out) e c.of_duration in
      ap (take n) l ∙ rw whole (take-append_seam (duration_text d) (drop (length (duration_text d)) out))

  -- which reads back, by both
  pub parsed : (p : ParseCall (take n c.exit.1.0.now)) → p.result ≡ Ok d
  parsed p = p.post ∙ ap timing_of (p.of_text ∙ front) ∙ reads_again oversized.Ignored d w

  pub parsed_exactly : (p : ExactCall (take n c.exit.1.0.now)) → p.result ≡ Ok d
  parsed_exactly p = p.post ∙ ap exact_timing_of (p.of_text ∙ front) ∙ reads_again oversized.Refused d w

-- and a call is accepted where there is room for the text
pub written : (d : Duration) → Recoverable d → (room : ℕ) → length (duration_text d) ≤ room → (c : DisplayCall d room) → c.result ≡ Ok (length (duration_text d))
written d w room h c =
    c.post.0
    ∙ ap₂ displaying_of c.in_room c.of_duration
    ∙ (displaying_given room d).2.1 ((λ o. omega (arith, w.in_range)), λ m. omega arith)
