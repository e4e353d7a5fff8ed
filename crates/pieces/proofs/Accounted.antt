-- An accepted query is all accounted for: from each place that the reading reaches, step by step to the end. A step of a lexeme makes a piece, and so does a
-- comment; a step of white space makes one, or makes the one behind it longer by a byte. So it is known of the pieces from a place that they begin with white
-- space, or that no white byte is there (`Shape`).
use Prim.Native.Nat.{ℕ, zero, suc, ◌+◌, ◌-◌, ◌<◌, ◌≤◌}
use Prim.Native.Char.{code}
use native.Mathlib.Decide.{dec_lt, ℕ_discrete}
use native.Mathlib.Omega.{arith}
use mathlib.Core.Bool.{Bool, true, false, not, true≢false}
use mathlib.Core.List.{List, [], ◌∷◌, ◌++◌, map}
use mathlib.Core.Logic.{◌⊎◌, inl, inr}
use mathlib.Core.Path.{◌≡◌, refl, sym, ap, subst, ◌∙◌}
use lib.Dec.{ltb}
use lib.ListN.{length, drop, length-drop}
use lib.Seq.{get_or-drop, drop-drop}
use borrow.Author.Tests.{ltb-true, ltb-false, ne_eqb}
use Rattle.scan.specs.declared.byte.Class.TheVariants as class
use Rattle.scan.specs.Byte.{end, peek_at, is_quote, is_space, is_line, is_in}
use Rattle.scan.specs.Run.{run_end}
use Rattle.scan.specs.Text.{has}
use Rattle.scan.specs.laws.Edge.{Bytes}
use Rattle.scan.proofs.byte.Classes.{end_in_none}
use Rattle.scan.proofs.Runs.{run_within, run_passes, run_stopped}
use Rattle.proving.proofs.Choice.{told, either}
use Rattle.utf8.specs.declared.Reading.{Reading}
use Rattle.utf8.proofs.Bytes.{text_bytes}
use Rattle.numeral.specs.laws.Texts.{is_apart}
use Rattle.token.specs.Kinds.{eof_kind}
use Rattle.quoted.specs.Quoted.{comment_end}
use Rattle.munch.specs.declared.Inside.{Inside}
use Rattle.munch.specs.declared.Inside.TheVariants.{Nothing, Braces, Brackets}
use Rattle.munch.specs.declared.Mode.{Mode}
use Rattle.munch.specs.declared.Step.{Step}
use Rattle.munch.specs.declared.Step.TheVariants.{Lexeme, Space, Refused, Finished}
use Rattle.munch.specs.declared.Step.TheVariants as step
use Rattle.munch.specs.Munch.{outside, munched}
use Rattle.munch.specs.laws.Modes.{past, Commented, LeadsTo}
use Rattle.munch.specs.laws.Marks.{marks, Does, opens_paren, closes_paren, opens_brace, closes_brace, opens_bracket, closes_bracket, first_colon, other}
use Rattle.munch.proofs.Given.{rows_given}
use Rattle.munch.proofs.Marks.{step_does, space_white, comment_is, none_ends}
use Rattle.munch.specs.laws.Text.{TextOf, quoted, left, right, bare}
use Rattle.munch.proofs.Text.{lexeme_text_holds}
use Rattle.munch.proofs.White.{white_space}
use Rattle.munch.proofs.Modes.{step_leads}
use Rattle.lex.specs.Outcome.{Entry, entry, depth_by, read_from}
use Rattle.lex.specs.Lex.{eof, entries_of, kind_of}
use Rattle.lex.specs.laws.Refusals.{Reaches, Ends}
use Rattle.lex.specs.laws.Refusals as reached
use Rattle.lex.specs.laws.Before.{entries_from}
use Rattle.lex.proofs.Steps.{steps_at, goes_at}
use Rattle.lex.proofs.Given.{measured_given, no_row_at_end}
use Rattle.pieces.specs.Pieces.{All, White, EndsAt, Comment, lexeme, white, comment, Piece, piece, brackets_by, Tiled, none, then_lexeme, then_white, then_comment, lexemes_in}
use Rattle.pieces.specs.laws.Pieces.{stands_at, MadeOf, QueryAccounted}
use Rattle.pieces.proofs.Tiled.{first_at, of_one}
use Rattle.pieces.proofs.Order.{in_order}

-- where the step is another than white space, no white byte is there
abbrev whites : Step → ℕ
whites (Lexeme k n m) = 0
whites (Space m) = 1
whites (step.Comment n) = 0
whites (Refused number o) = 0
whites Finished = 0

plain_at : (r : Reading) (m : Mode) (q : List ℕ) (i : ℕ) (s : Step) → munched r m (drop i q) ≡ s → whites s ≡ 0 → is_space (peek_at q i) ≡ false
plain_at r m q i s f z = rw first_at at (go (is_space (peek_at (drop i q) 0)) refl)
  where
    go : (b : Bool) → is_space (peek_at (drop i q) 0) ≡ b → is_space (peek_at (drop i q) 0) ≡ false
    go true e = told whites (white_space r m (drop i q) e) f (λ x. omega (arith, x, z))
    go false e = e

-- pieces from a place on
pub data Shape (r : Reading) (q : List ℕ) (b : Bool) (i : ℕ) : List Piece → Type 0 where
  spaced : (to : ℕ) (ps : List Piece) → White q i to → Tiled r q b to ps → Shape r q b i (piece white i to ∷ ps)
  plain : (ps : List Piece) → is_space (peek_at q i) ≡ false → Tiled r q b i ps → Shape r q b i ps

tiled_of : {r : Reading} {q : List ℕ} {b : Bool} {i : ℕ} {ps : List Piece} → Shape r q b i ps → Tiled r q b i ps
tiled_of (spaced to ps w t) = then_white _ _ to ps w t
tiled_of (plain ps n t) = t

-- with a white byte before them
longer : (q : List ℕ) (i to : ℕ) → is_space (peek_at q i) ≡ true → All is_space q (i + 1) to → All is_space q i to
longer q i to e a j l h = go (ℕ_discrete j i)
  where
    go : Dec (j ≡ i) → is_space (peek_at q j) ≡ true
    go (yes z) = rw z e
    go (no z) = a j (omega (arith, l, z)) h

pub record Grown (r : Reading) (q : List ℕ) (b : Bool) (i : ℕ) (ps : List Piece) : Type 0 where
  pub pieces : List Piece
  pub shape : Shape r q b i pieces
  pub same : lexemes_in pieces ≡ lexemes_in ps

grown : {r : Reading} {q : List ℕ} {b : Bool} (i : ℕ) {ps : List Piece} → is_space (peek_at q i) ≡ true → Shape r q b (i + 1) ps → Grown r q b i ps
grown {q = q} i e (spaced to ps w t) =
    record {
      pieces = piece white i to ∷ ps;
      shape = spaced to ps (record { some = omega (arith, w.some); all = longer q i to e w.all; whole = w.whole }) t;
      same = refl;
    }
grown {q = q} i e (plain ps n t) =
    record {
      pieces = piece white i (i + 1) ∷ ps;
      shape = spaced (i + 1) ps (record { some = omega arith; all = longer q i (i + 1) e (λ j l h. absurd (omega (arith, l, h))); whole = n }) t;
      same = refl;
    }

-- a byte that is not of a line ends it
line_break : (c : ℕ) → c < end → is_line c ≡ false → (c ≡ code "\r") ⊎ (c ≡ code "\n")
unfolding is_line
line_break c l e = go (ℕ_discrete c (code "\r")) (ℕ_discrete c (code "\n"))
  where
    go : Dec (c ≡ code "\r") → Dec (c ≡ code "\n") → (c ≡ code "\r") ⊎ (c ≡ code "\n")
    go (yes a) b = inl a
    go (no a) (yes b) = inr b
    go (no a) (no b) = absurd (true≢false (rw (ne_eqb c _ a, ne_eqb c _ b, ne_eqb c end (λ z. omega (arith, l, z))) at e))

-- a comment, by its sign and where it ends
module _ (q ys : List ℕ) (bytes : Bytes q) (i : ℕ) (l : i < length q) (e : ys ≡ drop (i + 1) q) where
  behind_sign_ends : (j : ℕ) → peek_at ys j ≡ peek_at q (i + 1 + j)
  behind_sign_ends j = rw e (get_or-drop (i + 1) q j end)

  size : i + 1 + length ys ≡ length q
  size = omega (arith, ap length e, length-drop (i + 1) q, l)

  -- where its line ends
  abbrev line : ℕ
  line = run_end (is_in class.Line) ys 0

  on_line : All is_line q (suc i) (i + 1 + line)
  unfolding is_in
  on_line j f t =
      let z : i + 1 + (j - (i + 1)) ≡ j = omega (arith, f) in
      rw (behind_sign_ends, z) at (run_passes (is_in class.Line) ys 0 (j - (i + 1)) (omega arith) (omega (arith, f, t)))

  off_line : is_line (peek_at q (i + 1 + line)) ≡ false
  unfolding is_in
  off_line = rw behind_sign_ends at (run_stopped (is_in class.Line) (end_in_none class.Line) ys 0)

  line_ends : EndsAt q (i + 1 + line) (i + suc (comment_end ys))
  unfolding comment_end
  line_ends =
      either (λ n. EndsAt q (i + 1 + line) (i + suc n)) (ltb line (length ys))
      (λ f. inl (line_break (peek_at q (i + 1 + line)) (bytes (i + 1 + line) (omega (arith, ltb-true line (length ys) f, size))) off_line, omega arith))
      (λ f. inr (omega (arith, ltb-false line (length ys) f, run_within (is_in class.Line) ys 0, size), omega arith))

  commented : peek_at q i ≡ code "#" → Comment q i (i + suc (comment_end ys))
  commented b = record { stop = i + 1 + line; begins = b; some = omega arith; line = on_line; ends = line_ends }

-- whether brackets are open in a mode
abbrev in_brackets : Inside → Bool
in_brackets Nothing = false
in_brackets Braces = false
in_brackets (Brackets seen fresh) = true

abbrev brackets : Mode → Bool
brackets m = in_brackets m.inside

brackets_past : (i : Inside) → in_brackets (past i) ≡ in_brackets i
brackets_past Nothing = refl
brackets_past Braces = refl
brackets_past (Brackets seen fresh) = refl

-- a comment stands where none are
none_open : (i : Inside) → Commented i → in_brackets i ≡ false
none_open Nothing c = refl
none_open Braces c = refl
none_open (Brackets seen fresh) c = absurd c

-- a byte that is no bracket leaves them as they are
left_as_is : (b : Bool) (c : ℕ) → (p : ℕ → Bool) → p (code "[") ≡ false → p (code "]") ≡ false → p c ≡ true → b ≡ brackets_by b c
left_as_is b c p x y e =
    rw (ne_eqb c (code "[") (λ z. true≢false (sym e ∙ ap p z ∙ x)), ne_eqb c (code "]") (λ z. true≢false (sym e ∙ ap p z ∙ y)))

-- behind a lexeme, by its first byte
other_behind : {r : Reading} {xs : List ℕ} {k n : ℕ} (b : Bool) → 0 < n → has k marks ≡ false → TextOf r xs k n → b ≡ brackets_by b (peek_at xs 0)
unfolding has is_apart is_space is_quote
other_behind {xs = xs} b l h (quoted n q s) = left_as_is b (peek_at xs 0) is_quote refl refl q
other_behind b l h (left e) = absurd (true≢false h)
other_behind b l h (right e) = absurd (true≢false h)
other_behind {xs = xs} b l h (bare k n a) = left_as_is b (peek_at xs 0) (λ c. not (is_apart c)) refl refl (ap not (a 0 l))

brackets_behind : {r : Reading} {xs : List ℕ} {m m' : Mode} {k n : ℕ} → 0 < n → Does xs m k n m' → TextOf r xs k n → brackets m' ≡ brackets_by (brackets m) (peek_at xs 0)
brackets_behind l (opens_paren o b) t = rw (o, b)
brackets_behind l (closes_paren d o b e) t = rw (o, b)
brackets_behind l (opens_brace o b) t = rw (o, b)
brackets_behind l (closes_brace o b) t = rw (o, b)
brackets_behind l (opens_bracket o b) t = rw b
brackets_behind l (closes_bracket o b) t = rw b
brackets_behind l (first_colon o b) t = rw (o, b)
brackets_behind {m = m} l (other k n h) t = brackets_past m.inside ∙ other_behind (brackets m) l h t

-- the lexemes from a place on, and the pieces
pub record Rest (r : Reading) (q : List ℕ) (i : ℕ) (m : Mode) : Type 0 where
  pub lexemes : List Entry
  pub pieces : List Piece
  pub all : entries_from r q i m ≡ lexemes ++ eof (length q) ∷ []
  pub others : has eof_kind (map kind_of lexemes) ≡ false
  pub shape : Shape r q (brackets m) i pieces
  pub same : lexemes_in pieces ≡ map stands_at lexemes

module _ (r : Reading) (q : List ℕ) (bytes : Bytes q) (ended : Ends r q) where
  -- where the reading is at the end, so is the query
  at_end : (i : ℕ) → i ≤ length q → peek_at (drop i q) 0 ≡ end → i ≡ length q
  at_end i l e = go (dec_lt i (length q))
    where
      go : Dec (i < length q) → i ≡ length q
      go (yes h) = absurd (omega (arith, bytes i h, first_at q i, e))
      go (no h) = omega (arith, h, l)

  leads : (i : ℕ) (m : Mode) {s : Step} → munched r m (drop i q) ≡ s → LeadsTo m.depth m.inside s
  leads i m f = subst (LeadsTo m.depth m.inside) f (step_leads r m.depth m.inside (drop i q))

  one_step : (i : ℕ) (m : Mode) → Reaches r q i m → i ≤ length q → ((j : ℕ) (m' : Mode) → i < j → j ≤ length q → Reaches r q j m' → Rest r q j m') → Rest r q i m
  unfolding read_from has
  one_step i m h l more = go (munched r m (drop i q)) refl
    where
      go : (s : Step) → munched r m (drop i q) ≡ s → Rest r q i m
      go (Lexeme k n m') f =
          let g = goes_at r q i m _ f in
          let w = more (i + n) m' (omega (arith, g.some)) (omega (arith, g.within, length-drop i q, g.some)) (reached.lexeme i k n m m' h f) in
          let x = lexeme_text_holds r m m' (drop i q) k n f in
          let z : brackets m' ≡ brackets_by (brackets m) (peek_at q i) = rw first_at at (brackets_behind g.some (step_does r m m' (drop i q) k n f) x) in
          record {
            lexemes = entry k i n (depth_by k m') ∷ w.lexemes;
            pieces = piece (lexeme k) i (i + n) ∷ w.pieces;
            all = rw (steps_at r q i m _ f, w.all);
            others = rw (none_ends r m m' (drop i q) k n f, w.others);
            shape = plain _ (plain_at r m q i _ f refl) (then_lexeme (brackets m) k i n w.pieces g.some x (subst (λ (b : Bool). Tiled r q b (i + n) w.pieces) z (tiled_of w.shape)));
            same = rw w.same;
          }
      go (Space m') f =
          let g = goes_at r q i m _ f in
          let w = more (i + 1) m' (omega arith) (omega (arith, g.within, length-drop i q)) (reached.space i m m' h f) in
          let z : brackets m' ≡ brackets m = ap brackets (leads i m f) ∙ brackets_past m.inside in
          let x = grown i (rw first_at at (space_white r m m' (drop i q) f)) (subst (λ (b : Bool). Shape r q b (i + 1) w.pieces) z w.shape) in
          record {
            lexemes = w.lexemes;
            pieces = x.pieces;
            all = rw (steps_at r q i m _ f, w.all);
            others = w.others;
            shape = x.shape;
            same = x.same ∙ w.same;
          }
      go (step.Comment n) f =
          let g = goes_at r q i m _ f in
          let w = more (i + n) m (omega (arith, g.some)) (omega (arith, g.within, length-drop i q, g.some)) (reached.comment i n m h f) in
          let c = comment_is r m (drop i q) n f in
          let o = none_open m.inside (leads i m f) in
          let t : Comment q i (i + n) = rw c.1 (commented q (drop 1 (drop i q)) bytes i (omega (arith, g.some, g.within, length-drop i q)) (drop-drop 1 i q) (rw first_at at c.0)) in
          let u : Tiled r q (brackets m) i (piece comment i (i + n) ∷ w.pieces) = rw o (then_comment i (i + n) w.pieces t (rw o at (tiled_of w.shape))) in
          record {
            lexemes = w.lexemes;
            pieces = piece comment i (i + n) ∷ w.pieces;
            all = rw (steps_at r q i m _ f, w.all);
            others = w.others;
            shape = plain _ (plain_at r m q i _ f refl) u;
            same = w.same;
          }
      go (Refused number o) f =
          absurd
          (no_row_at_end r q number (i + o)
          (record { step = i; mode = m; offset = o; reached = h; row = (rows_given r m (drop i q) number o).0 f; place = refl }) ended)
      go Finished f =
          let e = at_end i l (goes_at r q i m _ f).0 in
          record {
            lexemes = [];
            pieces = [];
            all = rw (steps_at r q i m _ f, e);
            others = refl;
            shape = plain [] (plain_at r m q i _ f refl) (subst (λ (n : ℕ). Tiled r q (brackets m) n []) (sym e) (none _));
            same = refl;
          }

  all_steps : (k i : ℕ) (m : Mode) → Reaches r q i m → i ≤ length q → length q ≤ i + k → Rest r q i m
  all_steps zero i m h l u = one_step i m h l (λ j m' a b g. absurd (omega (arith, a, b, u)))
  all_steps (suc k) i m h l u = one_step i m h l (λ j m' a b g. all_steps k j m' g b (omega (arith, a, u)))

pub query_accounted : QueryAccounted
query_accounted r q n e =
    let g = (measured_given r q n).0 e in
    let w = all_steps r q (text_bytes q g.0.1) g.1 (length q) 0 outside reached.start (omega arith) (omega arith) in
    let t = tiled_of w.shape in
    let m : MadeOf r q (entries_of r q) w.pieces = record { lexemes = w.lexemes; all = w.all; others = w.others; pieces = t; same = w.same } in
    record { pieces = w.pieces; made = m; order = in_order r q (entries_of r q) w.pieces m; each = λ i l. of_one w.pieces i t (omega arith) l }
