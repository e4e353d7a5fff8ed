-- Reading goes through the content of a string piece by piece (`content_read`), and what it comes to then is the sign, an escape that is none, or the
-- end (`way`). So each answer is given exactly when the bytes are so put together.
use Prim.Native.Nat.{ℕ, ◌+◌}
use native.Mathlib.Nat.{add-zero, zero-add}
use native.Mathlib.Omega.{arith}
use mathlib.Core.Bool.{Bool, true, false, cond, true≢false}
use mathlib.Core.List.{List, [], ◌∷◌, ◌++◌, append_assoc, append-nil}
use mathlib.Core.Path.{◌≡◌, refl, sym, ap, ap₂, subst, ◌∙◌}
use lib.Dec.{eqb}
use lib.Seq.{take-append_seam, length-take-le}
use lib.ListN.{length, take, drop, length-append, take-append-drop}
use borrow.Author.Tests.{ne_eqb, eqb-true, eqb-false}
use Rattle.proving.proofs.Choice.{either, told}
use Rattle.scan.specs.Byte.{backslash, backquote, is_quote}
use Rattle.scan.specs.Language.{One, one}
use Rattle.utf8.specs.declared.Reading.{Reading}
use Rattle.utf8.specs.declared.Reading.TheVariants.{Crate, Documented}
use Rattle.std.specs.Prelude.{Result, Ok, Err}
use Rattle.quoted.specs.declared.Fault.{Fault}
use Rattle.quoted.specs.Quoted.{unknown_escape, end_in_escape, end_in_string, fault, is_escape, quoted_from, is_raw, raw_from, quoted_of}
use Rattle.quoted.specs.Texts.{HasEscapes, Piece, plain, escape, Content, none, more, StringText}
use Rattle.quoted.specs.laws.Texts.{IsString, UnknownEscape, EndInEscape, EndInString, StringGiven, NoEscapes}

-- a string has escapes where it is not raw
has_escapes : (r : Reading) (symbol : ℕ) → is_raw r symbol ≡ false → HasEscapes r symbol
unfolding is_raw
has_escapes Crate symbol e = tt
has_escapes Documented symbol e = eqb-false symbol backquote e

not_raw : (r : Reading) (symbol : ℕ) → HasEscapes r symbol → is_raw r symbol ≡ false
unfolding is_raw
not_raw Crate symbol h = refl
not_raw Documented symbol h = ne_eqb symbol backquote h

no_backslash : (symbol : ℕ) → is_quote symbol ≡ true → eqb backslash symbol ≡ false
unfolding is_quote
no_backslash symbol q = go (eqb backslash symbol) refl
  where
    go : (b : Bool) → eqb backslash symbol ≡ b → b ≡ false
    go true e = absurd (true≢false (sym q ∙ sym (ap is_quote (eqb-true backslash symbol e))))
    go false e = refl

module _ (r : Reading) (symbol : ℕ) (quote : is_quote symbol ≡ true) where
  -- a string read from its n-th byte on
  abbrev read : ℕ → List ℕ → Result ℕ Fault
  read n xs = cond (is_raw r symbol) (raw_from symbol n xs) (quoted_from symbol false n xs)

  -- what a byte or two at the front do
  read_end : (n : ℕ) → read n [] ≡ Err (fault end_in_string n)
  unfolding raw_from quoted_from
  read_end n = either (λ v. v ≡ Err (fault end_in_string n)) (is_raw r symbol) (λ e. refl) (λ e. refl)

  read_sign : (n x : ℕ) (xs : List ℕ) → eqb x symbol ≡ true → read n (x ∷ xs) ≡ Ok (n + 1)
  unfolding raw_from quoted_from
  read_sign n x xs e = rw e (either (λ v. v ≡ Ok (n + 1)) (is_raw r symbol) (λ e. refl) (λ e. refl))

  read_plain : (n x : ℕ) (xs : List ℕ) → eqb x symbol ≡ false → (HasEscapes r symbol → eqb x backslash ≡ false) → read n (x ∷ xs) ≡ read (n + 1) xs
  unfolding raw_from quoted_from
  read_plain n x xs e b = rw e (go (is_raw r symbol) refl)
    where
      go : (t : Bool) → is_raw r symbol ≡ t → cond t (raw_from symbol (n + 1) xs) (quoted_from symbol (eqb x backslash) (n + 1) xs) ≡ cond t (raw_from symbol (n + 1) xs) (quoted_from symbol false (n + 1) xs)
      go true h = refl
      go false h = ap (λ y. quoted_from symbol y (n + 1) xs) (b (has_escapes r symbol h))

  read_escape : (n : ℕ) (xs : List ℕ) → HasEscapes r symbol → read n (backslash ∷ xs) ≡ quoted_from symbol true (n + 1) xs
  unfolding raw_from quoted_from
  read_escape n xs h = rw (not_raw r symbol h, no_backslash symbol quote) refl

  read_known : (n x : ℕ) (xs : List ℕ) → HasEscapes r symbol → is_escape symbol x ≡ true → quoted_from symbol true n (x ∷ xs) ≡ read (n + 1) xs
  unfolding quoted_from
  read_known n x xs h e = rw (not_raw r symbol h, e) refl

  -- content is read through
  piece_read : (n : ℕ) (u rest : List ℕ) → Piece r symbol u → read n (u ++ rest) ≡ read (n + length u) rest
  piece_read n _ rest (plain x s b) = read_plain n x rest (ne_eqb x symbol s) (λ h. ne_eqb x backslash (b h))
  piece_read n _ rest (escape x h e) = read_escape n (x ∷ rest) h ∙ read_known (n + 1) x rest h e ∙ ap (λ m. read m rest) (omega arith)

  content_read : (n : ℕ) (u rest : List ℕ) → Content r symbol u → read n (u ++ rest) ≡ read (n + length u) rest
  content_read n _ rest none = ap (λ m. read m rest) (sym (add-zero n))
  content_read n _ rest (more u v p c) =
      ap (read n) (append_assoc u v rest) ∙ piece_read n u (v ++ rest) p ∙ content_read (n + length u) v rest c
      ∙ ap (λ m. read m rest) (omega (arith, length-append u v))

  -- what it comes to behind its content
  data Way (n : ℕ) (xs : List ℕ) (v : Result ℕ Fault) : Type 0 where
    closed : (u rest : List ℕ) (x : ℕ) → Content r symbol u → eqb x symbol ≡ true → xs ≡ u ++ (x ∷ rest) → v ≡ Ok (n + length u + 1) → Way n xs v
    unknown : (u rest : List ℕ) (x : ℕ) → Content r symbol u → HasEscapes r symbol → is_escape symbol x ≡ false → xs ≡ u ++ (backslash ∷ x ∷ rest) → v ≡ Err (fault unknown_escape (n + length u + 1)) → Way n xs v
    cut : (u : List ℕ) → Content r symbol u → HasEscapes r symbol → xs ≡ u ++ (backslash ∷ []) → v ≡ Err (fault end_in_escape (n + length u + 1)) → Way n xs v
    unclosed : Content r symbol xs → v ≡ Err (fault end_in_string (n + length xs)) → Way n xs v

  further : (n : ℕ) (p xs : List ℕ) (v : Result ℕ Fault) → Piece r symbol p → Way (n + length p) xs v → Way n (p ++ xs) v
  further n p xs v q (closed u rest x c s e f) =
      closed (p ++ u) rest x (more p u q c) s (ap (λ (t : List ℕ). p ++ t) e ∙ sym (append_assoc p u (x ∷ rest))) (f ∙ ap Ok (omega (arith, length-append p u)))
  further n p xs v q (unknown u rest x c h s e f) =
      unknown (p ++ u) rest x (more p u q c) h s (ap (λ (t : List ℕ). p ++ t) e ∙ sym (append_assoc p u (backslash ∷ x ∷ rest))) (f ∙ ap (λ m. Err (fault unknown_escape m)) (omega (arith, length-append p u)))
  further n p xs v q (cut u c h e f) =
      cut (p ++ u) (more p u q c) h (ap (λ (t : List ℕ). p ++ t) e ∙ sym (append_assoc p u (backslash ∷ []))) (f ∙ ap (λ m. Err (fault end_in_escape m)) (omega (arith, length-append p u)))
  further n p xs v q (unclosed c f) = unclosed (more p xs q c) (f ∙ ap (λ m. Err (fault end_in_string m)) (omega (arith, length-append p xs)))

  -- a byte that is content by itself
  past_plain : (n x : ℕ) (xs : List ℕ) → eqb x symbol ≡ false → (HasEscapes r symbol → eqb x backslash ≡ false) → Way (n + 1) xs (read (n + 1) xs) → Way n (x ∷ xs) (read n (x ∷ xs))
  past_plain n x xs s b w =
      subst (Way n (x ∷ xs)) (sym (read_plain n x xs s b))
      (further n (x ∷ []) xs _ (plain x (eqb-false x symbol s) (λ h. eqb-false x backslash (b h))) w)

  -- a backslash that begins an escape
  at_escape : (n : ℕ) (xs : List ℕ) → HasEscapes r symbol → ((y : ℕ) (ys : List ℕ) → xs ≡ y ∷ ys → Way (n + 2) ys (read (n + 2) ys)) → Way n (backslash ∷ xs) (read n (backslash ∷ xs))
  unfolding quoted_from
  at_escape n [] h f = cut [] none h refl (read_escape n [] h ∙ ap (λ m. Err (fault end_in_escape m)) (omega arith))
  at_escape n (y ∷ ys) h f = go (is_escape symbol y) refl
    where
      go : (b : Bool) → is_escape symbol y ≡ b → Way n (backslash ∷ y ∷ ys) (read n (backslash ∷ y ∷ ys))
      go true e =
          subst (Way n (backslash ∷ y ∷ ys)) (sym (read_escape n (y ∷ ys) h ∙ read_known (n + 1) y ys h e ∙ ap (λ m. read m ys) (omega arith)))
          (further n (backslash ∷ y ∷ []) ys _ (escape y h e) (f y ys refl))
      go false e = unknown [] ys y none h e refl (read_escape n (y ∷ ys) h ∙ rw e (ap (λ m. Err (fault unknown_escape m)) (omega arith)))

  -- a byte, by what it is
  one_way : (n x : ℕ) (xs : List ℕ) → ((m : ℕ) → Way m xs (read m xs)) → ((m y : ℕ) (ys : List ℕ) → xs ≡ y ∷ ys → Way m ys (read m ys)) → Way n (x ∷ xs) (read n (x ∷ xs))
  one_way n x xs next second = go (eqb x symbol) refl (is_raw r symbol) refl (eqb x backslash) refl
    where
      go : (s : Bool) → eqb x symbol ≡ s → (t : Bool) → is_raw r symbol ≡ t → (b : Bool) → eqb x backslash ≡ b → Way n (x ∷ xs) (read n (x ∷ xs))
      go true s t h b e = closed [] xs x none s refl (read_sign n x xs s ∙ ap Ok (omega arith))
      go false s true h b e = past_plain n x xs s (λ g. absurd (true≢false (sym h ∙ not_raw r symbol g))) (next (n + 1))
      go false s false h false e = past_plain n x xs s (λ g. e) (next (n + 1))
      go false s false h true e =
          let p : backslash ∷ xs ≡ x ∷ xs = ap (λ (y : ℕ). y ∷ xs) (sym (eqb-true x backslash e)) in
          subst (λ (ys : List ℕ). Way n ys (read n ys)) p (at_escape n xs (has_escapes r symbol h) (second (n + 2)))

  way : (xs : List ℕ) (n : ℕ) → Way n xs (read n xs)
  way [] n = unclosed none (read_end n ∙ ap (λ m. Err (fault end_in_string m)) (sym (add-zero n)))
  way (x ∷ []) n = one_way n x [] (λ m. way [] m) (λ m y ys e. absurd (omega (arith, ap (λ (t : List ℕ). length t) e)))
  way (x ∷ y ∷ ys) n = one_way n x (y ∷ ys) (λ m. way (y ∷ ys) m) (λ m z zs e. subst (λ (t : List ℕ). Way m t (read m t)) (ap (λ (t : List ℕ). drop 1 t) e) (way ys m))

-- the kinds of answers are told apart by their numbers
abbrev number_of : Result ℕ Fault → ℕ
number_of (Ok n) = 0
number_of (Err f) = f.number

abbrev size_of : Result ℕ Fault → ℕ
size_of (Ok n) = n
size_of (Err f) = f.at

module _ (r : Reading) (symbol : ℕ) (quote : is_quote symbol ≡ true) (xs : List ℕ) (n : ℕ) where
  -- what stands before and behind a place
  front_take : (t rest : List ℕ) → xs ≡ t ++ rest → n ≡ length t → take n xs ≡ t
  front_take t rest e l = ap₂ (λ (m : ℕ) (ys : List ℕ). take m ys) l e ∙ take-append_seam t rest

  string_of : Way r symbol quote 0 xs (Ok n) → IsString r symbol xs n
  string_of (closed u rest x c s e f) =
      let t = u ++ (x ∷ []) in
      let w : xs ≡ t ++ rest = e ∙ sym (append_assoc u (x ∷ []) rest) in
      let l : n ≡ length t = omega (arith, ap size_of f, length-append u (x ∷ [])) in (
        omega (arith, l, ap (λ (ys : List ℕ). length ys) w, length-append t rest),
        subst (StringText r symbol) (sym (front_take t rest w l)) (record { front = u; back = x ∷ []; first = c; second = one x s; whole = refl }),
      )
  string_of (unknown u rest x c h s e f) = told number_of f refl (λ k. absurd (omega (arith, k)))
  string_of (cut u c h e f) = told number_of f refl (λ k. absurd (omega (arith, k)))
  string_of (unclosed c f) = told number_of f refl (λ k. absurd (omega (arith, k)))

  unknown_of : Way r symbol quote 0 xs (Err (fault unknown_escape n)) → UnknownEscape r symbol xs n
  unknown_of (closed u rest x c s e f) = told number_of f refl (λ k. absurd (omega (arith, k)))
  unknown_of (unknown u rest x c h s e f) =
      record { content = u; character = x; rest = rest; before = c; escapes = h; unknown = s; whole = e; place = omega (arith, ap size_of f) }
  unknown_of (cut u c h e f) = told number_of f refl (λ k. absurd (omega (arith, k)))
  unknown_of (unclosed c f) = told number_of f refl (λ k. absurd (omega (arith, k)))

  cut_of : Way r symbol quote 0 xs (Err (fault end_in_escape n)) → EndInEscape r symbol xs n
  cut_of (closed u rest x c s e f) = told number_of f refl (λ k. absurd (omega (arith, k)))
  cut_of (unknown u rest x c h s e f) = told number_of f refl (λ k. absurd (omega (arith, k)))
  cut_of (cut u c h e f) =
      record { content = u; before = c; escapes = h; whole = e; place = omega (arith, ap size_of f, ap (λ (t : List ℕ). length t) e, length-append u (backslash ∷ [])) }
  cut_of (unclosed c f) = told number_of f refl (λ k. absurd (omega (arith, k)))

  unclosed_of : Way r symbol quote 0 xs (Err (fault end_in_string n)) → EndInString r symbol xs n
  unclosed_of (closed u rest x c s e f) = told number_of f refl (λ k. absurd (omega (arith, k)))
  unclosed_of (unknown u rest x c h s e f) = told number_of f refl (λ k. absurd (omega (arith, k)))
  unclosed_of (cut u c h e f) = told number_of f refl (λ k. absurd (omega (arith, k)))
  unclosed_of (unclosed c f) = (c, omega (arith, ap size_of f))

  -- read behind content, from the front
  behind : (u rest : List ℕ) → Content r symbol u → xs ≡ u ++ rest → quoted_of r symbol xs ≡ read r symbol quote (length u) rest
  behind u rest c e = ap (read r symbol quote 0) e ∙ content_read r symbol quote 0 u rest c ∙ ap (λ m. read r symbol quote m rest) (zero-add (length u))

  of_string : IsString r symbol xs n → quoted_of r symbol xs ≡ Ok n
  of_string (l, t) = go t.front t.back t.first t.second t.whole
    where
      go : (u v : List ℕ) → Content r symbol u → One (λ c. eqb c symbol) v → take n xs ≡ u ++ v → quoted_of r symbol xs ≡ Ok n
      go u _ c (one x s) e =
          let w : xs ≡ u ++ (x ∷ drop n xs) = sym (take-append-drop n xs) ∙ ap (λ (ys : List ℕ). ys ++ drop n xs) e ∙ append_assoc u (x ∷ []) (drop n xs) in
          behind u (x ∷ drop n xs) c w ∙ read_sign r symbol quote (length u) x (drop n xs) s
          ∙ ap Ok (omega (arith, ap (λ (ys : List ℕ). length ys) e, length-append u (x ∷ []), length-take-le n xs l))

  of_unknown : UnknownEscape r symbol xs n → quoted_of r symbol xs ≡ Err (fault unknown_escape n)
  unfolding quoted_from
  of_unknown i =
      behind i.content _ i.before i.whole ∙ read_escape r symbol quote (length i.content) _ i.escapes
      ∙ rw i.unknown (ap (λ m. Err (fault unknown_escape m)) (omega (arith, i.place)))

  of_cut : EndInEscape r symbol xs n → quoted_of r symbol xs ≡ Err (fault end_in_escape n)
  unfolding quoted_from
  of_cut i =
      behind i.content _ i.before i.whole ∙ read_escape r symbol quote (length i.content) [] i.escapes
      ∙ ap (λ m. Err (fault end_in_escape m)) (omega (arith, i.place, ap (λ (t : List ℕ). length t) i.whole, length-append i.content (backslash ∷ [])))

  of_unclosed : EndInString r symbol xs n → quoted_of r symbol xs ≡ Err (fault end_in_string n)
  of_unclosed (c, l) =
      behind xs [] c (sym (append-nil xs)) ∙ read_end r symbol quote (length xs) ∙ ap (λ m. Err (fault end_in_string m)) (sym l)

pub string_given : StringGiven
string_given r symbol q xs n =
    let w = way r symbol q xs 0 in (
      ((λ e. string_of r symbol q xs n (subst (Way r symbol q 0 xs) e w)), of_string r symbol q xs n),
      ((λ e. unknown_of r symbol q xs n (subst (Way r symbol q 0 xs) e w)), of_unknown r symbol q xs n),
      ((λ e. cut_of r symbol q xs n (subst (Way r symbol q 0 xs) e w)), of_cut r symbol q xs n),
      ((λ e. unclosed_of r symbol q xs n (subst (Way r symbol q 0 xs) e w)), of_unclosed r symbol q xs n),
    )

pub no_escapes : NoEscapes
unfolding is_quote
no_escapes xs n = (
  (λ e. ((string_given Documented backquote refl xs n).1.0 e).escapes refl),
  (λ e. ((string_given Documented backquote refl xs n).2.0 e).escapes refl),
)
