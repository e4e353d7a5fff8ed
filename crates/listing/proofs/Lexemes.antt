-- Laws of lexemes in four lists: what the lists hold are the lexemes that were written there, and the text of one more of them stands behind
-- the text of those before it.
use Prim.Native.Nat.{ℕ, zero, suc, ◌+◌, ◌≤◌, ◌<◌}
use native.Mathlib.Numerals.{add-one}
use native.Mathlib.Omega.{arith}
use mathlib.Core.Path.{◌≡◌, refl, sym, ap, ◌∙◌}
use mathlib.Core.List.{List, [], ◌∷◌, ◌++◌, map}
use lib.ListN.{length, take, drop, get_or, length-map}
use lib.Seq.{take-suc, take_all, take_at, length-take-le}
use Rattle.std.proofs.lemmas.List.{flat_map_more}
use Rattle.utf8.specs.declared.Refusal.{Refusal}
use Rattle.std.specs.Prelude.{Ok, Result}
use Rattle.utf8.specs.declared.Reading.TheVariants.{Crate}
use Rattle.lex.specs.Outcome.{Entry, entry}
use Rattle.lex.specs.Lex.{entries_of, lexed, listed, left_after, kind_of, starts_at, length_of, depth_of, shortest}
use Rattle.lex.specs.steps.Pass.{Alike}
use Rattle.lex.proofs.Given.{lexing_given}
use Rattle.listing.specs.Listing.{lexeme_text, lexemes_text, zipped}

-- four lists that hold the numbers of lexemes hold the lexemes
zipped_back : (es : List Entry) → zipped (map kind_of es) (map starts_at es) (map length_of es) (map depth_of es) ≡ es
zipped_back [] = refl
zipped_back (e ∷ es) = ap (λ (t : List Entry). e ∷ t) (zipped_back es)

listed_front : (f : Entry → ℕ) (q d : List ℕ) (n : ℕ) → n ≡ length (entries_of Crate q) → take n (listed Crate f q d) ≡ map f (entries_of Crate q)
listed_front f q d n h = take_at (map f (entries_of Crate q)) (drop (length (entries_of Crate q)) d) n (length-map (entries_of Crate q) f ∙ sym h)

-- an accepted query has no more lexemes than there is room for
pub no_more : (room : ℕ) (q : List ℕ) (n : ℕ) → ◌≡◌ {A = Result ℕ Refusal} (Ok n) (lexed Crate room q) → n ≤ room
no_more room q n told = (((lexing_given Crate room q).4 n).0 (sym told)).3

-- so that each list has as many at its front
pub ruleset fronts = (no_more, length-take-le)

-- what `lexer` promises of an accepted query is that the first entries of the four lists are its lexemes
pub lists_hold : (q ks ss ls ds : List ℕ) {x : Result ℕ Refusal} {n : ℕ} {ks' ss' ls' ds' : List ℕ}
    → (x ≡ lexed Crate (shortest (length ks) (length ss) (length ls) (length ds)) q)
    × ((ks' ≡ left_after x (listed Crate kind_of q ks) ks)
    × ((ss' ≡ left_after x (listed Crate starts_at q ss) ss)
    × ((ls' ≡ left_after x (listed Crate length_of q ls) ls) × (ds' ≡ left_after x (listed Crate depth_of q ds) ds))))
    → x ≡ Ok n
    → zipped (take n ks') (take n ss') (take n ls') (take n ds') ≡ entries_of Crate q
lists_hold q ks ss ls ds {x} {n} p told =
    let w = ((lexing_given Crate (shortest (length ks) (length ss) (length ls) (length ds)) q).4 n).0 (sym p.0 ∙ told) in
    rw (holds kind_of ks w.2 p.1.0, holds starts_at ss w.2 p.1.1.0, holds length_of ls w.2 p.1.1.1.0, holds depth_of ds w.2 p.1.1.1.1) (zipped_back (entries_of Crate q))
  where
    holds : (f : Entry → ℕ) (d : List ℕ) → n ≡ length (entries_of Crate q) → {d' : List ℕ} → d' ≡ left_after x (listed Crate f q d) d → take n d' ≡ map f (entries_of Crate q)
    holds f d h e = ap (take n) (e ∙ ap (λ y. left_after y (listed Crate f q d) d) told) ∙ listed_front f q d n h

zipped_length : (ks ss ls ds : List ℕ) → Alike ks ss ls ds → length (zipped ks ss ls ds) ≡ length ks
zipped_length [] ss ls ds h = refl
zipped_length (k ∷ ks) [] ls ds h = absurd (omega (arith, h))
zipped_length (k ∷ ks) (s ∷ ss) [] ds h = absurd (omega (arith, h))
zipped_length (k ∷ ks) (s ∷ ss) (l ∷ ls) [] h = absurd (omega (arith, h))
zipped_length (k ∷ ks) (s ∷ ss) (l ∷ ls) (d ∷ ds) h = ap suc (zipped_length ks ss ls ds (omega (arith, h), omega (arith, h), omega (arith, h)))

zipped_at : (ks ss ls ds : List ℕ) (i : ℕ) → Alike ks ss ls ds → i < length ks
    → get_or (zipped ks ss ls ds) i (entry 0 0 0 0) ≡ entry (get_or ks i 0) (get_or ss i 0) (get_or ls i 0) (get_or ds i 0)
zipped_at [] ss ls ds i h l = absurd (omega arith)
zipped_at (k ∷ ks) [] ls ds i h l = absurd (omega (arith, h))
zipped_at (k ∷ ks) (s ∷ ss) [] ds i h l = absurd (omega (arith, h))
zipped_at (k ∷ ks) (s ∷ ss) (n ∷ ls) [] i h l = absurd (omega (arith, h))
zipped_at (k ∷ ks) (s ∷ ss) (n ∷ ls) (d ∷ ds) zero h l = refl
zipped_at (k ∷ ks) (s ∷ ss) (n ∷ ls) (d ∷ ds) (suc i) h l = zipped_at ks ss ls ds i (omega (arith, h), omega (arith, h), omega (arith, h)) (omega arith)

module _ (ks ss ls ds : List ℕ) (h : Alike ks ss ls ds) where
  -- the text of one more
  pub text_more : (i : ℕ) → i < length ks
      → lexemes_text (take (i + 1) (zipped ks ss ls ds)) ≡ lexemes_text (take i (zipped ks ss ls ds)) ++ lexeme_text (entry (get_or ks i 0) (get_or ss i 0) (get_or ls i 0) (get_or ds i 0))
  unfolding lexemes_text
  text_more i l =
      let es = zipped ks ss ls ds in
      let inside : i < length es = omega (arith, zipped_length ks ss ls ds h) in
      rw (add-one, take-suc es i (entry 0 0 0 0) inside, ← flat_map_more lexeme_text [] (take i es) (get_or es i (entry 0 0 0 0)), zipped_at ks ss ls ds i h l)

  -- and of all
  pub text_all : (i : ℕ) → length ks ≤ i → lexemes_text (take i (zipped ks ss ls ds)) ≡ lexemes_text (zipped ks ss ls ds)
  text_all i l = ap lexemes_text (take_all i (zipped ks ss ls ds) (omega (arith, zipped_length ks ss ls ds h)))
