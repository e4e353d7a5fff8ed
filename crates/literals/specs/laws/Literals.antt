-- Lexing and reading of one string, as statements; `proofs/Backquoted` has the proof. Document 02, L5.
use Rattle.std.specs.Prelude.{ℕ, suc, ◌-◌, ◌≤◌, List, ◌≡◌, length, take, drop, Ok}
use Rattle.scan.specs.Byte.{peek_at, backquote}
use Rattle.token.specs.Kinds.{string}
use Rattle.utf8.specs.declared.Reading.{Reading}
use Rattle.utf8.specs.declared.Reading.TheVariants.{Documented}
use Rattle.utf8.specs.Answers.{text_limit}
use Rattle.utf8.specs.laws.Refusals.{Taken}
use Rattle.string.specs.declared.Unquoted.TheVariants.{Inner}
use Rattle.string.specs.Literal.{unquoted, unquoting_of, part_of}
use Rattle.lex.specs.Outcome.{Entry}
use Rattle.lex.specs.Lex.{entries_of}
use Rattle.lex.specs.laws.Entries.{Among}

-- how many bytes the two signs have
abbrev pub both_signs : ℕ
both_signs = 2

-- the bytes of a lexeme, and those between its signs
abbrev pub literal_of : List ℕ → Entry → List ℕ
literal_of q e = take e.length (drop e.start q)

abbrev pub between_signs : List ℕ → Entry → List ℕ
between_signs q e = take (e.length - both_signs) (drop (suc e.start) q)

-- a STRING of the documented reading that a backquote opens is a good literal, whatever stands in it: whichever way it is read and whatever room there is, it
-- is not refused; its text is what stands between its signs, and is handed back as that part of it
abbrev pub BackquotedGood : Type 0
BackquotedGood =
    (q : List ℕ) (e : Entry) → Taken text_limit q → Among e (entries_of Documented q) → e.kind ≡ string → peek_at q e.start ≡ backquote →
    (both_signs ≤ e.length)
    × ((r : Reading) (d : List ℕ) →
    let u = unquoting_of r (length d) (literal_of q e) in
    (u ≡ Ok (Inner (e.length - both_signs))) × (unquoted r (literal_of q e) ≡ between_signs q e) × (part_of u (literal_of q e) d ≡ between_signs q e))
