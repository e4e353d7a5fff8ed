-- What the crates above may know of texts, as statements: which bytes are text, how texts join, and where they can be cut. Their proofs stand
-- in `proofs/Inverse`, `proofs/Bytes`, `proofs/Laws` and `proofs/Cuts`.
use Rattle.std.specs.Prelude.{ℕ, suc, ◌+◌, ◌≤◌, ◌<◌, min, true, false, List, [], ◌∷◌, ◌++◌, ◌↔◌, ◌≡◌, length, take, drop}
use Rattle.scan.specs.Byte.{peek_at}
use Rattle.scan.specs.laws.Edge.{Bytes}
use Rattle.utf8.specs.Table.{is_tail}
use Rattle.utf8.specs.Code.{is_scalar, text_of}
use Rattle.utf8.specs.Text.{chars_of, codes_of, prefix_end, WellFormed, start_of, char_number}

abbrev pub AllScalar : List ℕ → Type 0
AllScalar [] = Unit {0}
AllScalar (c ∷ cs) = (is_scalar c ≡ true) × AllScalar cs

-- bytes are well-formed exactly where they are those of some characters
abbrev pub TextIs : Type 0
TextIs = (xs : List ℕ) → WellFormed xs ↔ ((cs : List ℕ) × AllScalar cs × (text_of cs ≡ xs))

-- and those are its own code points
abbrev pub CodesText : Type 0
CodesText = (xs : List ℕ) → WellFormed xs → AllScalar (codes_of xs) × (text_of (codes_of xs) ≡ xs)

-- all that stands in it are bytes
abbrev pub TextBytes : Type 0
TextBytes = (xs : List ℕ) → WellFormed xs → Bytes xs

-- the prefix that `prefix_end` ends is well-formed, and no longer one is
abbrev pub Longest : Type 0
Longest =
    (xs : List ℕ) → WellFormed (take (prefix_end xs) xs) × ((n : ℕ) → n ≤ length xs → WellFormed (take n xs) → n ≤ prefix_end xs)

-- two well-formed texts make one
abbrev pub TextJoin : Type 0
TextJoin = (xs ys : List ℕ) → WellFormed xs → WellFormed ys → WellFormed (xs ++ ys)

-- the longest well-formed prefix moves along by the text's bytes
abbrev pub PrefixJoin : Type 0
PrefixJoin = (xs ys : List ℕ) → WellFormed xs → prefix_end (xs ++ ys) ≡ length xs + prefix_end ys

-- and the character numbers by its characters; within it they stay
abbrev pub NumberJoin : Type 0
NumberJoin =
    (xs ys : List ℕ) → WellFormed xs → (to : ℕ) →
    (char_number (xs ++ ys) (length xs + to) ≡ length (chars_of xs) + char_number ys to) × (to ≤ length xs → char_number (xs ++ ys) to ≡ char_number xs to)

-- cut at a character's start, bytes have the characters before it and those from it on, and k of them begin before it
abbrev pub Cut : Type 0
Cut =
    (xs : List ℕ) (k : ℕ) →
    let at = start_of xs k in
    (chars_of (take at xs) ≡ take k (chars_of xs)) × (chars_of (drop at xs) ≡ drop k (chars_of xs)) × (char_number xs at ≡ min k (length (chars_of xs)))

-- so a well-formed text cut there is two well-formed texts
abbrev pub TextCut : Type 0
TextCut = (xs : List ℕ) → WellFormed xs → (k : ℕ) → WellFormed (take (start_of xs k) xs) × WellFormed (drop (start_of xs k) xs)

-- in a well-formed text a character starts wherever no byte stands that goes on with one: before an ASCII byte, say, or at the end
abbrev pub Boundary : Type 0
Boundary =
    (xs : List ℕ) → WellFormed xs → (at : ℕ) → at ≤ length xs → is_tail (peek_at xs at) ≡ false → start_of xs (char_number xs at) ≡ at

-- and behind an ASCII byte
abbrev pub AsciiBoundary : Type 0
AsciiBoundary =
    (xs : List ℕ) → WellFormed xs → (at : ℕ) → at < length xs → peek_at xs at < 0x80 → start_of xs (char_number xs (suc at)) ≡ suc at

-- and at the start and the end of the text
abbrev pub TextEnds : Type 0
TextEnds = (xs : List ℕ) → WellFormed xs → (start_of xs (char_number xs 0) ≡ 0) × (start_of xs (char_number xs (length xs)) ≡ length xs)
