-- What the C function that reads a literal answers, by cases over `string`'s answer.
use Rattle.std.specs.Prelude.{ℕ, ◌+◌, ◌^◌, Err, Ok, Result}
use Rattle.utf8.specs.declared.Refusal.{Refusal}
use Rattle.string.specs.declared.Unquoted.{Unquoted}
use Rattle.string.specs.declared.Unquoted.TheVariants.{Inner, Written}
use Rattle.exports.specs.Packed.{packed_of}

-- from here on an answer that is no refusal is of a text in the literal itself
abbrev pub inner_from : ℕ
inner_from = 2 ^ 32

-- how many bytes the text has, and where it stands, or the refusal
abbrev pub unquote_code : Result Unquoted Refusal → ℕ
unquote_code (Ok (Inner n)) = inner_from + n
unquote_code (Ok (Written n)) = n
unquote_code (Err r) = packed_of r
