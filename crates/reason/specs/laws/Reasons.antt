-- What a reason says of its word, as statements; `proofs/Conditions`, `proofs/Given` and `proofs/Bounds` have the proofs.
use Rattle.std.specs.Prelude.{ℕ, ◌≤◌, ◌<◌, List, ◌↔◌, ◌≡◌, get_or, Err, Ok, Result}
use Rattle.utf8.specs.declared.Reading.{Reading}
use Rattle.utf8.specs.declared.Refusal.{Refusal}
use Rattle.utf8.specs.Answers.{text_limit}
use Rattle.lex.specs.Outcome.{Entry}
use Rattle.lex.specs.Lex.{eof, entries_of, measured}
use Rattle.calls.specs.laws.Calls.{LexCall, kinds_left}
use Rattle.reason.specs.Reason.{no_lexeme, no_word, reasoned}
use Rattle.reason.specs.Conditions.{text_of, IsWord, Applies, Gives}

-- "no other of the seven applies": of any lexeme at most one holds
abbrev pub OneReason : Type 0
OneReason = (q : List ℕ) (es : List Entry) (e : Entry) (a b : ℕ) → Applies q es e a → Applies q es e b → a ≡ b

-- the lexeme of a number
abbrev pub lexeme_of : Reading → List ℕ → ℕ → Entry
lexeme_of r q number = get_or (entries_of r q) number (eof 0)

-- a reason holds of the lexeme of a number
abbrev pub Holds : Reading → List ℕ → ℕ → ℕ → Type 0
Holds r q number reason = Applies q (entries_of r q) (lexeme_of r q number) reason

-- "The reason is proved to be the rule that applies": in an accepted query that has the lexeme, a reason is given exactly when it holds
abbrev pub ReasonGiven : Type 0
ReasonGiven = (r : Reading) (q : List ℕ) (number reason n : ℕ) → measured r q ≡ Ok n → number < n → reasoned r number q ≡ Ok reason ↔ Holds r q number reason

-- every word has a reason, and nothing else has
abbrev pub WordsReasoned : Type 0
WordsReasoned = (q : List ℕ) (es : List Entry) (e : Entry) → IsWord q es e ↔ (reason : ℕ) × Applies q es e reason

-- "Refusals: those of lexing", whatever the number,
abbrev pub LexingRefused : Type 0
LexingRefused = (r : Reading) (q : List ℕ) (number : ℕ) (refusal : Refusal) → measured r q ≡ Err refusal → reasoned r number q ≡ Err refusal

-- "then 72 no such lexeme", exactly where the number is at the count or past it,
abbrev pub NoLexemeGiven : Type 0
NoLexemeGiven = (r : Reading) (q : List ℕ) (number n : ℕ) → measured r q ≡ Ok n → reasoned r number q ≡ no_lexeme ↔ n ≤ number

-- "74 not a word", exactly where the lexeme is none
abbrev pub NoWordGiven : Type 0
NoWordGiven =
    (r : Reading) (q : List ℕ) (number n : ℕ) → measured r q ≡ Ok n → number < n →
    reasoned r number q ≡ no_word ↔ ¬ (IsWord q (entries_of r q) (lexeme_of r q number))

-- the kind of the lexeme is the one that the reason gives, and so is that which any accepted call of `lexer` writes for it
abbrev pub ReasonKind : Type 0
ReasonKind = (r : Reading) (q : List ℕ) (number reason : ℕ) → reasoned r number q ≡ Ok reason → Gives (text_of q (lexeme_of r q number)) reason (lexeme_of r q number).kind

abbrev pub CallKind : Type 0
CallKind =
    (r : Reading) (q : List ℕ) (number reason n : ℕ) (c : LexCall r q) → c.result ≡ Ok n → reasoned r number q ≡ Ok reason →
    Gives (text_of q (lexeme_of r q number)) reason (get_or (kinds_left c) number 0)

-- a reason is one of seven; a refusal's number and place are small
abbrev pub ReasoningWithin : Result ℕ Refusal → Type 0
ReasoningWithin (Ok n) = (1 ≤ n) × (n ≤ 7)
ReasoningWithin (Err refusal) = (refusal.number ≤ 74) × (refusal.place.byte.0 ≤ text_limit) × (refusal.place.character.0 ≤ text_limit)

abbrev pub ReasonBounded : Type 0
ReasonBounded = (r : Reading) (number : ℕ) (q : List ℕ) → ReasoningWithin (reasoned r number q)
