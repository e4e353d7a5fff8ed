-- The rows by what their modes tell (`mode_tells`): each stands at the offset that the reading has come to, so that what is said of the mode there is said of
-- the kinds and the byte before it. Brackets that were just opened have no colon (`unseen`).
use Prim.Native.Nat.{ℕ, pred, ◌≤◌, ◌<◌}
use native.Mathlib.Nat.{add-zero}
use native.Mathlib.Decide.{dec_lt}
use native.Mathlib.Omega.{arith}
use mathlib.Core.Bool.{true, false, true≢false}
use mathlib.Core.List.{List}
use mathlib.Core.Logic.{◌↔◌, ⊎_elim}
use mathlib.Core.Path.{◌≡◌, refl, sym, ap, ◌∙◌}
use lib.ListN.{length, drop, get_or-eq_default}
use lib.Seq.{get_or-drop}
use Rattle.scan.specs.Byte.{end, peek_at}
use Rattle.scan.specs.laws.Edge.{Bytes}
use Rattle.utf8.specs.declared.Reading.{Reading}
use Rattle.utf8.specs.Answers.{text_limit}
use Rattle.utf8.proofs.Bytes.{text_bytes}
use Rattle.munch.specs.declared.Inside.{Inside}
use Rattle.munch.specs.declared.Inside.TheVariants.{Nothing, Braces, Brackets}
use Rattle.munch.specs.declared.Mode.{Mode}
use Rattle.munch.specs.laws.Modes.{Opens, Behind}
use Rattle.munch.specs.laws.Rows.{Outside, ParenOpenAtEnd, UnmatchedParen, SecondColon, ColonFirst, Row, row10, row16, row28, row29}
use Rattle.lex.specs.Lex.{entries_of}
use Rattle.lex.specs.laws.Refusals.{Reaches, start, lexeme, space, comment, RowAt}
use Rattle.depths.specs.laws.Modes.{Tells}
use Rattle.depths.specs.laws.Rows.{before, NoneInside, ParenOpenTold, UnmatchedParenTold, SecondColonTold, ColonFirstTold}
use Rattle.lex.specs.steps.Pass.{in_braces, has_colon}
use Rattle.depths.proofs.Flags.{in_brackets, fresh_in, past_flags}
use Rattle.depths.proofs.Modes.{mode_tells, reached_within, leads}

-- the conditions of the rows, and their offsets
module _ (r : Reading) (m : Mode) (xs : List ℕ) where
  is10 : (o : ℕ) → Row r m xs 10 o → (o ≡ 0) × ParenOpenAtEnd m xs
  is10 _ (row10 h) = (refl, h)

  is16 : (o : ℕ) → Row r m xs 16 o → (o ≡ 0) × UnmatchedParen m xs
  is16 _ (row16 h) = (refl, h)

  is28 : (o : ℕ) → Row r m xs 28 o → (o ≡ 0) × SecondColon m xs
  is28 _ (row28 h) = (refl, h)

  is29 : (o : ℕ) → Row r m xs 29 o → (o ≡ 0) × ColonFirst m xs
  is29 _ (row29 h) = (refl, h)

not_seen : (i : Inside) → Opens i → has_colon i ≡ false
not_seen Nothing h = refl
not_seen Braces h = refl
not_seen (Brackets seen fresh) h = h.0

-- a lexeme that leaves brackets just opened stands outside them
unseen_behind : (d : ℕ) (i : Inside) (m : Mode) → Behind d i m → fresh_in m.inside ≡ true → has_colon m.inside ≡ false
unseen_behind d Nothing m h f = not_seen m.inside h
unseen_behind d Braces m h f = ⊎_elim (λ e. rw e refl) (λ e. rw e refl) h
unseen_behind d (Brackets seen fresh) m h f =
    ⊎_elim (λ e. rw e refl) (λ n. absurd (true≢false (sym f ∙ ap (λ (x : Mode). fresh_in x.inside) n.1))) h

unseen : (r : Reading) (q : List ℕ) {at : ℕ} {m : Mode} → Reaches r q at m → fresh_in m.inside ≡ true → has_colon m.inside ≡ false
unseen r q start f = refl
unseen r q (lexeme i k n m m' g e) f = unseen_behind m.depth m.inside m' (leads r q i m e) f
unseen r q (space i m m' g e) f =
    absurd (true≢false (sym f ∙ ap (λ (x : Mode). fresh_in x.inside) (leads r q i m e) ∙ (past_flags m.inside).2))
unseen r q (comment i n m g e) f = unseen r q g f

-- a condition of a row that stands where the reading has come to
record There (r : Reading) (q : List ℕ) (p : ℕ) (C : Mode → List ℕ → Type 0) : Type 0 where
  mode : Mode
  reached : Reaches r q p mode
  there : C mode (drop p q)

module _ (r : Reading) (q : List ℕ) (p : ℕ) where
  comes : (C : Mode → List ℕ → Type 0) {number : ℕ} → ((m : Mode) (xs : List ℕ) (o : ℕ) → Row r m xs number o → (o ≡ 0) × C m xs) → RowAt r q number p
      → There r q p C
  comes C f a =
      let h = f a.mode (drop a.step q) a.offset a.row in
      let e : a.step ≡ p = omega (arith, a.place, h.0) in
      record { mode = a.mode; reached = rw e at a.reached; there = rw e at h.1 }

  stands : {number : ℕ} (m : Mode) → Reaches r q p m → Row r m (drop p q) number 0 → RowAt r q number p
  stands m g h = record { step = p; mode = m; offset = 0; reached = g; row = h; place = omega arith }

  first_byte : peek_at (drop p q) 0 ≡ peek_at q p
  first_byte = get_or-drop p q 0 end ∙ ap (peek_at q) (add-zero p)

  at_end : Bytes q → p ≤ length q → peek_at q p ≡ end → p ≡ length q
  at_end b l e = go (dec_lt p (length q))
    where
      go : Dec (p < length q) → p ≡ length q
      go (yes h) = absurd (omega (arith, b p h, e))
      go (no h) = omega arith

  module _ (l : length q ≤ text_limit) (m : Mode) (g : Reaches r q p m) where
    tells : Tells q (entries_of r q) p m
    tells = mode_tells r q p m l g

    -- outside is where neither braces nor brackets are open
    outside_told : Outside m ↔ NoneInside (before r q p)
    outside_told = (
      (λ o. (
        (λ s. true≢false (sym (ap in_braces (tells.braces.1 s)) ∙ ap in_braces o)),
        λ s. true≢false (sym (ap in_brackets (tells.brackets.1 s).there) ∙ ap in_brackets o),
      )),
      go m.inside refl,
    )
      where
        go : (i : Inside) → m.inside ≡ i → NoneInside (before r q p) → m.inside ≡ Nothing
        go Nothing e n = e
        go Braces e n = absurd (n.0 (tells.braces.0 e))
        go (Brackets seen fresh) e n = absurd (n.1 (tells.brackets.0 (record { seen = seen; fresh = fresh; there = e })))

pub paren_open_told : ParenOpenTold
paren_open_told r q p l w = (
  (λ a.
      let h = comes r q p ParenOpenAtEnd (is10 r) a in
      let m = h.mode in
      let g = h.reached in (
        (m, g),
        at_end r q p (text_bytes q w) (reached_within r q p m l g) (sym (first_byte r q p) ∙ h.there.1),
        (outside_told r q p l m g).0 h.there.0,
        (pred m.depth, omega (arith, (tells r q p l m g).parens, h.there.2)),
      )),
  λ x.
      let m = x.0.0 in
      let g = x.0.1 in
      let b = first_byte r q p ∙ get_or-eq_default q end {n = p} (omega (arith, x.1)) in
      stands r q p m g (row10 ((outside_told r q p l m g).1 x.2, b, omega (arith, (tells r q p l m g).parens, x.3.1))),
)

pub unmatched_paren_told : UnmatchedParenTold
unmatched_paren_told r q p l = (
  (λ a.
      let h = comes r q p UnmatchedParen (is16 r) a in
      let m = h.mode in
      let g = h.reached in
      ((m, g), sym (first_byte r q p) ∙ h.there.1, (outside_told r q p l m g).0 h.there.0, omega (arith, (tells r q p l m g).parens, h.there.2))),
  λ x.
      let m = x.0.0 in
      let g = x.0.1 in
      stands r q p m g (row16 ((outside_told r q p l m g).1 x.2, first_byte r q p ∙ x.1, omega (arith, (tells r q p l m g).parens, x.3))),
)

pub second_colon_told : SecondColonTold
second_colon_told r q p l = (
  (λ a.
      let h = comes r q p SecondColon (is28 r) a in
      let t = tells r q p l h.mode h.reached in
      let b = h.there.0 in
      ((h.mode, h.reached), sym (first_byte r q p) ∙ h.there.2, t.brackets.0 b, (t.seen _ _ b.there).0 h.there.1)),
  λ x.
      let t = tells r q p l x.0.0 x.0.1 in
      let b = t.brackets.1 x.2 in
      stands r q p x.0.0 x.0.1 (row28 (b, (t.seen _ _ b.there).1 x.3, first_byte r q p ∙ x.1)),
)

pub colon_first_told : ColonFirstTold
colon_first_told r q p l = (
  (λ a.
      let h = comes r q p ColonFirst (is29 r) a in
      let t = tells r q p l h.mode h.reached in
      let b = h.there.0 in
      ((h.mode, h.reached), sym (first_byte r q p) ∙ h.there.3, t.brackets.0 b, (t.directly _ _ b.there).0 h.there.2)),
  λ x.
      let t = tells r q p l x.0.0 x.0.1 in
      let b = t.brackets.1 x.2 in
      let f = (t.directly _ _ b.there).1 x.3 in
      let s = sym (ap has_colon b.there) ∙ unseen r q x.0.1 (ap fresh_in b.there ∙ f) in
      stands r q p x.0.0 x.0.1 (row29 (b, s, f, first_byte r q p ∙ x.1)),
)
