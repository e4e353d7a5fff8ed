-- Whatever pieces a query is made of, the gaps are the same. Two lists of pieces are gone through side by side. Where both are at one place, they have the same gap
-- there, or the same string, or lexemes of bare bytes, which begin neither (`Bares`). Where one is behind, all bytes up to the other are bare, and it goes on by a lexeme.
use Prim.Native.Nat.{ℕ, zero, suc, ◌+◌, ◌-◌, ◌≤◌, ◌<◌}
use Prim.Native.Char.{code}
use native.Mathlib.Decide.{dec_lt}
use native.Mathlib.Omega.{arith}
use mathlib.Core.Bool.{Bool, true, false, ◌&&◌, ◌||◌, not, true≢false}
use mathlib.Core.List.{List, [], ◌∷◌}
use mathlib.Core.Logic.{◌⊎◌, inl, inr}
use mathlib.Core.Path.{◌≡◌, refl, sym, ap, subst, ◌∙◌}
use lib.Dec.{eqb}
use lib.ListN.{length, drop}
use lib.Seq.{get_or-drop}
use borrow.Author.Tests.{eq-eqb}
use Rattle.proving.proofs.Below.{below}
use Rattle.scan.specs.declared.byte.Class.TheVariants.{Space}
use Rattle.scan.specs.Byte.{peek_at, is_quote, is_space, is_in}
use Rattle.scan.proofs.Edges.{class_ascii}
use Rattle.utf8.specs.declared.Reading.{Reading}
use Rattle.numeral.specs.laws.Texts.{is_apart}
use Rattle.quoted.specs.laws.Texts.{IsString}
use Rattle.quoted.proofs.Texts.{string_given}
use Rattle.munch.specs.laws.Text.{TextOf, quoted, left, right, bare}
use Rattle.pieces.specs.Pieces.{lexeme, white, comment, Piece, piece, White, Comment, Tiled, none, then_lexeme, then_white, then_comment, gaps_in}
use Rattle.pieces.specs.laws.Pieces.{SameGaps}
use Rattle.pieces.proofs.Tiled.{first_at, longer, same_white, same_comment, not_both, within}

-- a byte that begins neither a gap nor a string
abbrev Bare : ℕ → Type 0
Bare c = (is_space c ≡ false) × (is_quote c ≡ false) × (¬ (c ≡ code "#"))

not_apart : (c : ℕ) → is_apart c ≡ false → Bare c
unfolding is_apart
not_apart c e = go (is_space c) (is_quote c) (eqb c (code "#")) _ refl e
  where
    go : (a b d t : Bool) → eqb c (code "#") ≡ d → (a || (b || (d || t))) ≡ false → (a ≡ false) × (b ≡ false) × (¬ (c ≡ code "#"))
    go true b d t f e = absurd (true≢false e)
    go false true d t f e = absurd (true≢false e)
    go false false true t f e = absurd (true≢false e)
    go false false false t f e = (refl, refl, λ h. true≢false (sym (eq-eqb c _ h) ∙ f))

bracket_bare : (Bare (code "[")) × (Bare (code "]"))
unfolding is_space is_quote
bracket_bare = ((refl, refl, λ e. omega (arith, e)), (refl, refl, λ e. omega (arith, e)))

-- a quote sign begins no gap
quote_no_gap : (c : ℕ) → is_quote c ≡ true → (is_space c ≡ false) × (¬ (c ≡ code "#"))
unfolding is_space is_quote is_in
quote_no_gap c e = (go (is_space c) refl, λ h. true≢false (sym e ∙ ap is_quote h))
  where
    go : (b : Bool) → is_space c ≡ b → is_space c ≡ false
    go true f = absurd (true≢false (sym (rw (f, e) at (below (λ x. not (is_space x && is_quote x)) 0x80 refl c (class_ascii Space refl c f)))))
    go false f = f

module _ (r : Reading) (q : List ℕ) where
  abbrev Bares : ℕ → ℕ → Type 0
  Bares from to = (i : ℕ) → from ≤ i → i < to → Bare (peek_at q i)

  -- a lexeme at an offset, of so many bytes: a string, or bare bytes
  record IsQuoted (from n : ℕ) : Type 0 where
    k : ℕ
    sign : is_quote (peek_at (drop from q) 0) ≡ true
    string : IsString r (peek_at (drop from q) 0) (drop 1 (drop from q)) k
    whole : n ≡ suc k

  alone : (from : ℕ) {c : ℕ} → Bare c → peek_at (drop from q) 0 ≡ c → Bares from (from + 1)
  alone from a e i l h = let z : i ≡ from = omega (arith, l, h) in rw (z, ← first_at q from, e) a

  of_text : (from : ℕ) {k n : ℕ} → TextOf r (drop from q) k n → IsQuoted from n ⊎ Bares from (from + n)
  of_text from (quoted n h s) = inl (record { k = n; sign = h; string = s; whole = refl })
  of_text from (left e) = inr (alone from bracket_bare.0 e)
  of_text from (right e) = inr (alone from bracket_bare.1 e)
  of_text from (bare k n a) = inr bares
    where
      bares : Bares from (from + n)
      bares i l h =
          let z : from + (i - from) ≡ i = omega (arith, l) in
          rw (get_or-drop, z) at (not_apart (peek_at (drop from q) (i - from)) (a (i - from) (omega (arith, l, h))))

  one_string : {from n n' : ℕ} → IsQuoted from n → IsQuoted from n' → n ≡ n'
  one_string {from} a b =
      let g = string_given r (peek_at (drop from q) 0) a.sign (drop 1 (drop from q)) in
      let z : a.k ≡ b.k = cc ((g a.k).0.1 a.string, (g b.k).0.1 b.string) in
      omega (arith, a.whole, b.whole, z)

  -- no gap begins where a lexeme does
  no_gap : {from n : ℕ} → 0 < n → IsQuoted from n ⊎ Bares from (from + n) → (is_space (peek_at q from) ≡ false) × (¬ (peek_at q from ≡ code "#"))
  no_gap {from} l (inl s) = quote_no_gap (peek_at q from) (rw first_at at s.sign)
  no_gap {from} l (inr b) = let w = b from (omega arith) (omega (arith, l)) in (w.0, w.2)

  module _ {from to : ℕ} where
    not_white : (is_space (peek_at q from) ≡ false) × (¬ (peek_at q from ≡ code "#")) → White q from to → ⊥
    not_white n w = true≢false (sym (w.all from (omega arith) w.some) ∙ n.0)

    not_comment : (is_space (peek_at q from) ≡ false) × (¬ (peek_at q from ≡ code "#")) → Comment q from to → ⊥
    not_comment n c = n.1 c.begins

  -- what is left behind two offsets
  abbrev left_of : ℕ → ℕ → ℕ
  left_of a d = (length q - a) + (length q - d)

  -- the bytes between them are bare, and so the gaps behind them are the same, where less is left than so much
  abbrev More : ℕ → Type 0
  More m =
      (b c : Bool) (a d : ℕ) (ps rs : List Piece) → left_of a d < m → Bares a d → Bares d a → Tiled r q b a ps → Tiled r q c d rs → gaps_in ps ≡ gaps_in rs

  -- a place before bare bytes goes on by a lexeme of them
  record Ahead (a : ℕ) (ps : List Piece) : Type 0 where
    brackets : Bool
    to : ℕ
    rest : List Piece
    later : a < to
    bares : Bares a to
    tiled : Tiled r q brackets to rest
    same : gaps_in ps ≡ gaps_in rest

  ahead : {b : Bool} {a d : ℕ} {ps : List Piece} → a < d → d ≤ length q → Bares a d → Tiled r q b a ps → Ahead a ps
  ahead l w h (none b) = absurd (omega (arith, l, w))
  ahead l w h (then_lexeme b k from n ps s x t) = go (of_text from x)
    where
      go : IsQuoted from n ⊎ Bares from (from + n) → Ahead from (piece (lexeme k) from (from + n) ∷ ps)
      go (inl v) = absurd (true≢false (sym (rw first_at at v.sign) ∙ (h from (omega arith) l).1))
      go (inr v) = record { brackets = _; to = from + n; rest = ps; later = omega (arith, s); bares = v; tiled = t; same = refl }
  ahead l w h (then_white b from to ps v t) = let n = h from (omega arith) l in absurd (not_white (n.0, n.2) v)
  ahead l w h (then_comment from to ps v t) = let n = h from (omega arith) l in absurd (not_comment (n.0, n.2) v)

  behind : {b c : Bool} {a d : ℕ} {ps rs : List Piece} → a < d → Bares a d → Tiled r q b a ps → Tiled r q c d rs → More (left_of a d) → gaps_in ps ≡ gaps_in rs
  behind {a = a} {d} {ps} {rs} l h t u more =
      let w = ahead l (within rs u) h t in
      w.same
      ∙ more _ _ _ _ _ _ (omega (arith, w.later, within w.rest w.tiled)) (λ i f g. h i (omega (arith, f, w.later)) g) (λ i f g. w.bares i (omega (arith, f, l)) g)
      w.tiled u

  none_between : (a : ℕ) → Bares a a
  none_between a i f g = absurd (omega (arith, f, g))

  at_end : {c : Bool} {a : ℕ} {rs : List Piece} → a ≡ length q → Tiled r q c a rs → gaps_in [] ≡ gaps_in rs
  at_end e (none c) = refl
  at_end e (then_lexeme c k _ n rs s x u) = absurd (omega (arith, e, s, within rs u))
  at_end e (then_white c _ to rs v u) = absurd (omega (arith, e, v.some, within rs u))
  at_end e (then_comment _ to rs v u) = absurd (omega (arith, e, longer v, within rs u))

  level : {b c : Bool} {a : ℕ} {ps rs : List Piece} → Tiled r q b a ps → Tiled r q c a rs → More (left_of a a) → gaps_in ps ≡ gaps_in rs
  level (none b) u more = at_end refl u
  level (then_lexeme b k _ n ps s x t) (none c) more = absurd (omega (arith, s, within ps t))
  level (then_lexeme b k from n ps s x t) (then_lexeme c k' _ n' rs s' x' u) more = go (of_text from x) (of_text from x')
    where
      less : left_of (from + n) (from + n') < left_of from from
      less = omega (arith, s, s', within ps t, within rs u)

      go : IsQuoted from n ⊎ Bares from (from + n) → IsQuoted from n' ⊎ Bares from (from + n') → gaps_in ps ≡ gaps_in rs
      go (inl v) (inl w) = let e = one_string v w in more _ _ _ _ _ _ less (λ i f g. absurd (omega (arith, e, f, g))) (λ i f g. absurd (omega (arith, e, f, g))) t u
      go (inl v) (inr w) = absurd (true≢false (sym (rw first_at at v.sign) ∙ (w from (omega arith) (omega (arith, s'))).1))
      go (inr v) (inl w) = absurd (true≢false (sym (rw first_at at w.sign) ∙ (v from (omega arith) (omega (arith, s))).1))
      go (inr v) (inr w) = more _ _ _ _ _ _ less (λ i f g. w i (omega (arith, f, s)) g) (λ i f g. v i (omega (arith, f, s')) g) t u
  level (then_lexeme b k from n ps s x t) (then_white c _ to rs v u) more = absurd (not_white (no_gap s (of_text from x)) v)
  level (then_lexeme b k from n ps s x t) (then_comment _ to rs v u) more = absurd (not_comment (no_gap s (of_text from x)) v)
  level (then_white b _ to ps v t) (none c) more = absurd (omega (arith, v.some, within ps t))
  level (then_white b _ to ps v t) (then_lexeme c k from n rs s x u) more = absurd (not_white (no_gap s (of_text from x)) v)
  level (then_white b from to ps v t) (then_white c _ to' rs w u) more =
      let e : to ≡ to' = same_white v w in
      let u' : Tiled r q c to rs = rw e u in
      rw (← e) (ap (λ xs. piece white from to ∷ xs) (more _ _ _ _ _ _ (omega (arith, v.some, within ps t)) (none_between to) (none_between to) t u'))
  level (then_white b from to ps v t) (then_comment _ to' rs w u) more = absurd (not_both v w)
  level (then_comment _ to ps v t) (none c) more = absurd (omega (arith, longer v, within ps t))
  level (then_comment _ to ps v t) (then_lexeme c k from n rs s x u) more = absurd (not_comment (no_gap s (of_text from x)) v)
  level (then_comment from to ps v t) (then_white c _ to' rs w u) more = absurd (not_both w v)
  level (then_comment from to ps v t) (then_comment _ to' rs w u) more =
      let e : to ≡ to' = same_comment v w in
      let u' : Tiled r q false to rs = rw e u in
      rw (← e) (ap (λ xs. piece comment from to ∷ xs) (more _ _ _ _ _ _ (omega (arith, longer v, within ps t)) (none_between to) (none_between to) t u'))

  -- the one that is behind goes on, or both do
  onward : {b c : Bool} {a d : ℕ} {ps rs : List Piece} → Bares a d → Bares d a → Tiled r q b a ps → Tiled r q c d rs → More (left_of a d) → gaps_in ps ≡ gaps_in rs
  onward {b} {c} {a} {d} {ps} {rs} h g t u more = go (dec_lt a d) (dec_lt d a)
    where
      turned : More (left_of d a)
      turned b c a' d' ps rs x h g t u = more b c a' d' ps rs (omega (arith, x)) h g t u

      go : Dec (a < d) → Dec (d < a) → gaps_in ps ≡ gaps_in rs
      go (yes e) f = behind e h t u more
      go (no e) (yes f) = sym (behind f g u t turned)
      go (no e) (no f) =
          let z : d ≡ a = omega arith in
          level t (subst (λ (n : ℕ). Tiled r q c n rs) z u) (λ b c a' d' ps rs x. more b c a' d' ps rs (omega (arith, x, z)))

  side_by_side : (m : ℕ) → More m
  side_by_side zero b c a d ps rs l h g t u = absurd (omega (arith, l))
  side_by_side (suc m) b c a d ps rs l h g t u =
      onward h g t u (λ b' c' a' d' ps' rs' x. side_by_side m b' c' a' d' ps' rs' (omega (arith, x, l)))

pub same_gaps : SameGaps
same_gaps r q ps rs t u = side_by_side r q (suc (left_of r q 0 0)) _ _ 0 0 ps rs (omega arith) (none_between r q 0) (none_between r q 0) t u
