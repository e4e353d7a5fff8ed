-- The search of the table of words finds what the definition says: each row is its entry (`row_is`), and a word that has one finds it by its slot
-- (`led`); a word that is empty or longer than any is none, and so is one with a character that is not ASCII, so that it may be looked for by its bytes
-- (`by_bytes` of utf8).
use Prim.Native.Nat.{ℕ, zero, suc, ◌+◌, ◌-◌, ◌*◌, ◌%◌, ◌≤◌, ◌<◌}
use Prim.Native.Char.{code}
use native.Mathlib.Nat.{add-zero, le_of_suc-le-suc, not-suc-le-zero, mod-lt}
use native.Mathlib.Omega.{arith}
use native.Mathlib.Decide.{ℕ_discrete, dec_lt}
use mathlib.Core.Bool.{true, false, cond, ◌&&◌, ◌||◌, true≢false}
use mathlib.Core.List.{List, [], ◌∷◌, ◌++◌, map, append_assoc}
use mathlib.Core.Logic.{◌⊎◌, inl, inr}
use mathlib.Core.Path.{◌≡◌, refl, sym, ap, ◌∙◌}
use lib.Dec.{eqb, ltb}
use lib.ListN.{length, get_or, take, length-append, length-map}
use lib.Seq.{take_at, drop_at, drop-drop, get_or_at, get_or-append-add, take-append-le}
use borrow.Author.Tests.{eq-eqb, ne_eqb, le-ltb, lt-ltb}
use Rattle.std.specs.Prelude.{None, Option, Some}
use Rattle.scan.specs.Byte.{is_within, lowered}
use Rattle.scan.specs.Text.{same_text, has}
use Rattle.proving.proofs.Choice.{either, and_left, and_right}
use Rattle.proving.proofs.Tests.{itself, tests_eq, tests_lt, tests_or}
use Rattle.scan.proofs.Same.{same_not, same_is_equal}
use Rattle.utf8.specs.laws.Ascii.{is_ascii}
use Rattle.utf8.proofs.Ascii.{by_bytes, lowered_other}
use Rattle.token.specs.steps.Padded.{padded}
use Rattle.token.proofs.Padding.{padded_length, padded_take}
use Rattle.token.specs.Words.{KindText, ◌names◌, words, kind_in, keyword_of}
use Rattle.token.specs.laws.Words.{word_at, TableFinds, ColonInNone}
use Rattle.token.specs.steps.WordRows.{word_count, widest_word, word_row, slots_from, slot_count, table_size, word_filler, row_of_word, table_of, first_weight, slot_of, row_for, slots_of, word_table, is_row, row_in, number_in, found_at, is_out_of_table, keyword_in}
use Rattle.token.proofs.Every.{every, every_at}
use Rattle.token.proofs.Table.{is_entry, some, short, plain, whole, counted, entries, slot_leads, word_found, entry_found, none_found}

module _ (e : KindText) (h : length e.text ≤ widest_word) where
  text_length : length (padded word_filler e.text) ≡ widest_word
  text_length = padded_length word_filler e.text h

  row_length : length (row_of_word e) ≡ word_row
  row_length = length-append (padded word_filler e.text) (length e.text ∷ e.kind ∷ []) ∙ omega (arith, text_length)

  kind_of_word : get_or (row_of_word e) (suc widest_word) 0 ≡ e.kind
  kind_of_word =
      let p = padded word_filler e.text in
      let k : suc widest_word ≡ length p + 1 = omega (arith, text_length) in
      ap (λ (n : ℕ). get_or (row_of_word e) n 0) k ∙ get_or-append-add p (length e.text ∷ e.kind ∷ []) 1 0

  -- a row holds a word exactly where it is the entry's
  row_is : (w : List ℕ) → is_row (row_of_word e) w ≡ same_text w e.text
  unfolding is_row
  row_is w =
      rw (get_or_at (padded word_filler e.text) (length e.text) (e.kind ∷ []) 0 widest_word text_length) (go (ℕ_discrete (length e.text) (length w)))
    where
      go : Dec (length e.text ≡ length w) → eqb (length e.text) (length w) && same_text w (take (length w) (row_of_word e)) ≡ same_text w e.text
      go (yes k) =
          rw (eq-eqb (length e.text) (length w) k, ← k, take-append-le (length e.text) (padded word_filler e.text) (length e.text ∷ e.kind ∷ []) (omega (arith, text_length)), padded_take word_filler e.text)
      go (no k) = rw (ne_eqb (length e.text) (length w) k, same_not w e.text (λ z. k (sym z)))

-- row i of the table is that of entry i, whatever stands behind the rows
row_at : (es : List KindText) (rest : List ℕ) → every is_entry es ≡ true → (i : ℕ) → i < length es → row_in (table_of es ++ rest) i ≡ row_of_word (get_or es i ("" names 0))
unfolding table_of
row_at [] rest h i l = absurd (not-suc-le-zero l)
row_at (e ∷ es) rest h zero l =
    rw append_assoc (take_at (row_of_word e) (table_of es ++ rest) word_row (row_length e (short e (and_left _ _ h))))
row_at (e ∷ es) rest h (suc i) l =
    let n = row_length e (short e (and_left _ _ h)) in
    let m : suc i * word_row ≡ word_row + i * word_row = omega arith in
    rw (append_assoc, m, ← drop-drop, drop_at (row_of_word e) (table_of es ++ rest) word_row n) (row_at es rest (and_right (is_entry e) _ h) i (le_of_suc-le-suc l))

-- the rows of all have so many bytes
rows_length : (es : List KindText) → every is_entry es ≡ true → length (table_of es) ≡ length es * word_row
unfolding table_of
rows_length [] h = refl
rows_length (e ∷ es) h =
    length-append (row_of_word e) (table_of es) ∙ omega (arith, row_length e (short e (and_left _ _ h)), rows_length es (and_right (is_entry e) _ h))

-- and a slot behind them holds the number that is for it
slots_length : (n s : ℕ) (es : List KindText) → length (slots_of n s es) ≡ n
unfolding slots_of
slots_length zero s es = refl
slots_length (suc n) s es = ap suc (slots_length n (suc s) es)

slot_at : (n s : ℕ) (es : List KindText) (i : ℕ) → i < n → get_or (slots_of n s es) i 0 ≡ row_for (s + i) 0 es
unfolding slots_of
slot_at zero s es i l = absurd (not-suc-le-zero l)
slot_at (suc n) s es zero l = rw add-zero
slot_at (suc n) s es (suc i) l = slot_at n (suc s) es i (le_of_suc-le-suc l) ∙ (let m : suc s + i ≡ s + suc i = omega arith in rw m)

rows_end : length (table_of words) ≡ slots_from
rows_end = omega (arith, rows_length words entries, counted)

table_length : length word_table ≡ table_size
unfolding word_table
table_length = length-append (table_of words) (slots_of slot_count 0 words) ∙ omega (arith, rows_end, slots_length slot_count 0 words)

number_is : (w : List ℕ) → number_in word_table w ≡ row_for (slot_of w) 0 words
unfolding word_table slot_of
number_is w =
    let s = (get_or w 0 0 * first_weight + get_or w (length w - 1) 0 + length w) % slot_count in
    let z : 0 + s ≡ s = omega arith in
    rw (← rows_end, get_or-append-add (table_of words) (slots_of slot_count 0 words) s 0) (slot_at slot_count 0 words s (mod-lt _ (omega arith)) ∙ rw z)

-- the row that a word's slot names holds the word, or no row does
module _ (w : List ℕ) where
  abbrev number : ℕ
  number = number_in word_table w

  led : (i : ℕ) → i < word_count → same_text w (word_at i).text ≡ true → number ≡ i
  led i h s = number_is w ∙ rw ((same_is_equal w (word_at i).text).0 s) (slot_leads i h)

  row_is_word : number < word_count → row_in word_table number ≡ row_of_word (word_at number)
  unfolding word_table
  row_is_word h = row_at words (slots_of slot_count 0 words) entries number (omega (arith, counted))

  at_slot : found_at number word_table w ≡ kind_in words w
  unfolding found_at
  at_slot = go (dec_lt number word_count)
    where
      go : Dec (number < word_count) → cond (ltb number word_count && is_row (row_in word_table number) w) (Some (get_or (row_in word_table number) (suc widest_word) 0)) None ≡ kind_in words w
      go (no l) = rw (le-ltb number word_count (omega arith)) (sym (none_found w (λ i h s. let k : i < word_count = omega (arith, counted) in l (omega (arith, led i k s)))))
      go (yes l) =
          let short-one = short (word_at number) (every_at is_entry words entries ("" names 0) number (omega (arith, counted))) in
          rw (lt-ltb number word_count l, row_is_word l, row_is (word_at number) short-one w, kind_of_word (word_at number) short-one)
          (either (λ k. k ≡ kind_in words w) (same_text w (word_at number).text) (λ s. sym (entry_found w number (omega (arith, counted)) s)) (λ s. sym (none_found w (λ i h t. let k : i < word_count = omega (arith, counted) in true≢false (sym t ∙ rw (← led i k t) s)))))

-- a word is looked for by its bytes
found_by_bytes : (xs : List ℕ) → kind_in words (map lowered xs) ≡ keyword_of xs
unfolding keyword_of
found_by_bytes = by_bytes (Option ℕ) None (λ ys. kind_in words (map lowered ys)) other_none
  where
    other_none : (ys : List ℕ) → is_ascii ys ≡ false → kind_in words (map lowered ys) ≡ None
    other_none ys a =
        word_found (map lowered ys) (λ k. k ≡ None) refl (λ e t s. absurd (true≢false (sym s ∙ lowered_other ys e.text a (plain e t))))

pub table_finds : TableFinds
unfolding keyword_in
table_finds xs = searched ∙ found_by_bytes xs
  where
    none_empty : length xs ≡ 0 → kind_in words (map lowered xs) ≡ None
    none_empty z = word_found (map lowered xs) (λ k. k ≡ None) refl (λ e t s. absurd (omega (arith, some e t, ap length ((same_is_equal (map lowered xs) e.text).0 s), length-map xs lowered)))

    none_long : widest_word < length xs → kind_in words (map lowered xs) ≡ None
    none_long l = word_found (map lowered xs) (λ k. k ≡ None) refl (λ e t s. absurd (omega (arith, short e t, ap length ((same_is_equal (map lowered xs) e.text).0 s), length-map xs lowered)))

    searched : cond (is_out_of_table word_table xs) None (found_at (number_in word_table (map lowered xs)) word_table (map lowered xs)) ≡ kind_in words (map lowered xs)
    searched =
        either (λ k. k ≡ kind_in words (map lowered xs)) (is_out_of_table word_table xs)
        (λ o. sym (go ((tests_or (tests_eq (length xs) 0) (tests_or (tests_lt widest_word (length xs)) (tests_lt (length word_table) table_size))).0 o)))
        (λ o. at_slot (map lowered xs))
      where
        go : (length xs ≡ 0) ⊎ ((widest_word < length xs) ⊎ (length word_table < table_size)) → kind_in words (map lowered xs) ≡ None
        go (inl z) = none_empty z
        go (inr (inl l)) = none_long l
        go (inr (inr l)) = absurd (omega (arith, table_length))

-- lowering keeps a colon, and no text of a row has one
colon_stays : (xs : List ℕ) → has (code ":") xs ≡ true → has (code ":") (map lowered xs) ≡ true
unfolding has lowered is_within
colon_stays [] h = h
colon_stays (x ∷ xs) h = go ((tests_or (tests_eq x (code ":")) (itself (has (code ":") xs))).0 h) (colon_stays xs)
  where
    go : (x ≡ code ":") ⊎ (has (code ":") xs ≡ true) → (has (code ":") xs ≡ true → has (code ":") (map lowered xs) ≡ true) → eqb (lowered x) (code ":") || has (code ":") (map lowered xs) ≡ true
    go (inl e) f = rw e
    go (inr e) f = (tests_or (itself (eqb (lowered x) (code ":"))) (itself (has (code ":") (map lowered xs)))).1 (inr (f e))

pub colon_in_none : ColonInNone
colon_in_none xs h =
    sym (found_by_bytes xs)
    ∙ word_found (map lowered xs) (λ k. k ≡ None) refl (λ e t s. absurd (true≢false (sym (colon_stays xs h) ∙ rw ((same_is_equal (map lowered xs) e.text).0 s) (whole e t))))
