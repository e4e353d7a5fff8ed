-- The answer that each promise leaves at a telling input: a program that answers otherwise there, as the theorem's name says, cannot be
-- proved. Where a theorem unfolds `FUNCTION_at` it computes with all that this lemma unfolds.
use Prim.Native.Nat.{ℕ}
use Prim.Native.Char.{code}
use mathlib.Core.Bool.{Bool, true, false}
use mathlib.Core.List.{List, [], ◌∷◌}
use mathlib.Core.Path.{◌≡◌, ap, ap₂, ◌∙◌}
use Rattle.utf8.specs.declared.Place.{Place}
use Rattle.std.specs.Prelude.{Err, Ok, Result}
use Rattle.scan.specs.Ascii.{ascii}
use Rattle.scan.specs.Byte.{is_within}
use denote.RattleType.{RattleType}
use denote.Param.Laws.{Laws}
use mir.Syntax.{Dict}
use Rattle.proving.proofs.One.{Answers}
use Rattle.utf8.specs.declared.CharNumber.{CharNumber}
use Rattle.utf8.specs.declared.Refusal.{Refusal}
use Rattle.utf8.specs.declared.Character.{Character}
use Rattle.utf8.specs.declared.Character.TheVariants.{Scalar, Nothing, IllFormed}
use Rattle.utf8.specs.Table.{fits, size_in, char_length}
use Rattle.utf8.specs.Code.{code_of}
use Rattle.utf8.specs.Text.{chars_past, size_of, begun_in, char_number}
use Rattle.utf8.specs.Answers.{count, place, validity_of, at_start, refused_at, admitted, character_at, not_utf8, refusal_of}
use Rattle.utf8.specs.laws.Ascii.{is_ascii}
use Rattle.utf8.proofs.is_ascii.Kinds as is_ascii_kinds
use Rattle.utf8.proofs.is_ascii.Reads as is_ascii_reads
use Rattle.utf8.proofs.validate.Kinds as validate
use Rattle.utf8.proofs.validate.Reads as validate_reads
use Rattle.utf8.proofs.at_start.Kinds as at_start_kinds
use Rattle.utf8.proofs.at_start.Reads as at_start_reads
use Rattle.utf8.proofs.admit.Kinds as admit
use Rattle.utf8.proofs.admit.Reads as admit_reads
use Rattle.utf8.proofs.char_number.Kinds as char_number_kinds
use Rattle.utf8.proofs.char_number.Reads as char_number_reads
use Rattle.utf8.proofs.refused_at.Kinds as refused_at_kinds
use Rattle.utf8.proofs.refused_at.Reads as refused_at_reads
use Rattle.utf8.proofs.char_at.Kinds as char_at
use Rattle.utf8.proofs.char_at.Reads as char_at_reads
use Rattle.utf8.proofs.refusal_of.Kinds as refusal_of_kinds
use Rattle.utf8.proofs.refusal_of.Reads as refusal_of_reads

abbrev is_ascii_gives : List ℕ → Bool → Type 0
is_ascii_gives xs v = Answers is_ascii_kinds.ps is_ascii_kinds.r is_ascii_reads.Post (λ κs a. a.0.now ≡ xs) (λ κs. v)

is_ascii_at : (xs : List ℕ) → is_ascii_gives xs (is_ascii xs)
is_ascii_at xs κs a x e p h = p ∙ ap is_ascii h

pub last_ascii_byte_is_ascii : is_ascii_gives (0x7f ∷ []) true
last_ascii_byte_is_ascii = is_ascii_at _

pub byte_behind_ascii_is_not : is_ascii_gives (0x80 ∷ 0x61 ∷ []) false
byte_behind_ascii_is_not = is_ascii_at _

abbrev validate_gives : List ℕ → Result CharNumber Place → Type 0
validate_gives xs v = Answers validate.ps validate.r validate_reads.Post (λ κs a. a.0.now ≡ xs) (λ κs. v)

validate_at : (xs : List ℕ) → validate_gives xs (validity_of xs)
unfolding validity_of char_number begun_in chars_past size_of char_length size_in fits code_of is_within
validate_at xs κs a x e p h = p ∙ ap validity_of h

pub character_of_two_bytes_is_one : validate_gives (0xc3 ∷ 0xa9 ∷ []) (Ok (count 1))
unfolding validate_at
character_of_two_bytes_is_one = validate_at _

pub first_byte_that_breaks_off_is_at_0 : validate_gives (0xff ∷ 0xff ∷ []) (Err (place 0 0))
unfolding validate_at
first_byte_that_breaks_off_is_at_0 = validate_at _

pub text_breaks_off_behind_its_last_character : validate_gives (0xc3 ∷ 0xa9 ∷ 0xff ∷ []) (Err (place 2 1))
unfolding validate_at
text_breaks_off_behind_its_last_character = validate_at _

pub overlong_of_two_is_no_text : validate_gives (0xc0 ∷ 0x80 ∷ []) (Err (place 0 0))
unfolding validate_at
overlong_of_two_is_no_text = validate_at _

pub overlong_of_three_is_no_text : validate_gives (0xe0 ∷ 0x80 ∷ 0x80 ∷ []) (Err (place 0 0))
unfolding validate_at
overlong_of_three_is_no_text = validate_at _

pub surrogate_is_no_text : validate_gives (0xed ∷ 0xa0 ∷ 0x80 ∷ []) (Err (place 0 0))
unfolding validate_at
surrogate_is_no_text = validate_at _

pub past_10ffff_is_no_text : validate_gives (0xf4 ∷ 0x90 ∷ 0x80 ∷ 0x80 ∷ []) (Err (place 0 0))
unfolding validate_at
past_10ffff_is_no_text = validate_at _

abbrev at_start_gives : ℕ → Refusal → Type 0
at_start_gives n v = Answers at_start_kinds.ps at_start_kinds.r at_start_reads.Post (λ κs a. a.0 ≡ n) (λ κs. v)

at_start_at : (n : ℕ) → at_start_gives n (at_start n)
at_start_at n κs a x e p h = p ∙ ap at_start h

pub refusal_has_the_number_given : at_start_gives 3 (record { number = 3; place = place 0 0 })
refusal_has_the_number_given = at_start_at _

pub refusal_without_a_place_is_at_0 : at_start_gives 2 (record { number = 2; place = place 0 0 })
refusal_without_a_place_is_at_0 = at_start_at _

-- of a text and a limit
abbrev admit_gives : List ℕ → ℕ → Result CharNumber Refusal → Type 0
admit_gives xs limit v = Answers admit.ps admit.r admit_reads.Post (λ κs a. (a.0.now ≡ xs) × (a.1.0 ≡ limit)) (λ κs. v)

admit_at : (xs : List ℕ) (limit : ℕ) → admit_gives xs limit (admitted limit xs)
unfolding admitted validate_at
admit_at xs limit κs a x e p h = p ∙ ap₂ admitted h.1 h.0

pub text_of_just_the_limit_is_admitted : admit_gives (ascii "ab") 2 (Ok (count 2))
unfolding admit_at
text_of_just_the_limit_is_admitted = admit_at _ _

pub text_past_the_limit_is_refused_as_1 : admit_gives (ascii "ab") 1 (Err (at_start 1))
unfolding admit_at
text_past_the_limit_is_refused_as_1 = admit_at _ _

pub text_that_is_not_utf8_is_refused_as_2 : admit_gives (code "a" ∷ 0xff ∷ []) 2 (Err (record { number = 2; place = place 1 1 }))
unfolding admit_at
text_that_is_not_utf8_is_refused_as_2 = admit_at _ _

-- of a text and an offset
abbrev char_number_gives : List ℕ → ℕ → CharNumber → Type 0
char_number_gives xs to v = Answers char_number_kinds.ps char_number_kinds.r char_number_reads.Post (λ κs a. (a.0.now ≡ xs) × (a.1.0.0 ≡ to)) (λ κs. v)

char_number_at : (xs : List ℕ) (to : ℕ) → char_number_gives xs to (count (char_number xs to))
unfolding char_number begun_in chars_past char_length size_in fits code_of is_within
char_number_at xs to κs a x e p h = p ∙ ap₂ (λ (ys : List ℕ) (n : ℕ). count (char_number ys n)) h.0 h.1

pub character_at_the_offset_does_not_count : char_number_gives (ascii "ab") 1 (count 1)
unfolding char_number_at
character_at_the_offset_does_not_count = char_number_at _ _

pub character_around_the_offset_counts : char_number_gives (0xc3 ∷ 0xa9 ∷ []) 1 (count 1)
unfolding char_number_at
character_around_the_offset_counts = char_number_at _ _

pub characters_are_counted_and_not_bytes : char_number_gives (0xc3 ∷ 0xa9 ∷ []) 2 (count 1)
unfolding char_number_at
characters_are_counted_and_not_bytes = char_number_at _ _

-- of a text, a number and an offset
abbrev refused_at_gives : List ℕ → ℕ → ℕ → Refusal → Type 0
refused_at_gives xs n at v =
    Answers refused_at_kinds.ps refused_at_kinds.r refused_at_reads.Post (λ κs a. (a.0.now ≡ xs) × (a.1.0 ≡ n) × (a.1.1.0.0 ≡ at)) (λ κs. v)

refused_at_at : (xs : List ℕ) (n at : ℕ) → refused_at_gives xs n at (refused_at xs n at)
unfolding char_number_at
refused_at_at xs n at κs a x e p h = p ∙ cc (h.0, h.1, h.2)

pub refusal_is_at_the_byte : refused_at_gives (ascii "ab") 21 1 (record { number = 21; place = place 1 1 })
unfolding char_number_at
refusal_is_at_the_byte = refused_at_at _ _ _

pub refusal_has_the_number_of_its_character : refused_at_gives (0xc3 ∷ 0xa9 ∷ []) 23 2 (record { number = 23; place = place 2 1 })
unfolding char_number_at
refusal_has_the_number_of_its_character = refused_at_at _ _ _

-- of a text and an offset
abbrev char_at_gives : List ℕ → ℕ → Character → Type 0
char_at_gives xs at v = Answers char_at.ps char_at.r char_at_reads.Post (λ κs a. (a.0.now ≡ xs) × (a.1.0.0 ≡ at)) (λ κs. v)

char_at_at : (xs : List ℕ) (at : ℕ) → char_at_gives xs at (character_at xs at)
unfolding character_at char_length size_in fits code_of is_within
char_at_at xs at κs a x e p h = p ∙ ap₂ character_at h.0 h.1

pub end_is_nothing : char_at_gives (ascii "a") 1 Nothing
unfolding char_at_at
end_is_nothing = char_at_at _ _

pub tail_of_a_character_is_ill_formed : char_at_gives (0xc3 ∷ 0xa9 ∷ []) 1 IllFormed
unfolding char_at_at
tail_of_a_character_is_ill_formed = char_at_at _ _

pub character_of_two_bytes_has_eleven_bits : char_at_gives (0xdf ∷ 0xbf ∷ []) 0 (Scalar 0x7ff 2)
unfolding char_at_at
character_of_two_bytes_has_eleven_bits = char_at_at _ _

-- of an answer of any type
module _ (T : RattleType) (L : Laws T) (d : Dict) where
  abbrev refusal_of_gives : Result T.Denot Refusal → Refusal → Type 0
  refusal_of_gives t v = Answers (refusal_of_kinds.ps T L) (refusal_of_kinds.r T L) (refusal_of_reads.Post T L d) (λ κs a. a.0 ≡ t) (λ κs. v)

  refusal_of_at : (t : Result T.Denot Refusal) → refusal_of_gives t (refusal_of t)
  refusal_of_at t κs a x e p h = p ∙ ap refusal_of h

  pub refusal_is_told_with_its_place : refusal_of_gives (Err (not_utf8 (place 3 2))) (not_utf8 (place 3 2))
  refusal_is_told_with_its_place = refusal_of_at _

  pub refusal_without_a_place_is_told : refusal_of_gives (Err (at_start 74)) (at_start 74)
  refusal_without_a_place_is_told = refusal_of_at _

  pub answer_has_no_refusal : (x : T.Denot) → refusal_of_gives (Ok x) (at_start 0)
  answer_has_no_refusal x = refusal_of_at _
