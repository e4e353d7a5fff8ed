-- What the crates above may know of strings and comments, as statements; `proofs/Strings` and `proofs/Comments` have their proofs.
use Rattle.std.specs.Prelude.{ℕ, suc, ◌≤◌, ◌<◌, false, List, ◌∷◌, ◌++◌, ◌⊎◌, ◌≡◌, length, Result, Ok, Err}
use Prim.Native.Char.{code}
use Rattle.scan.specs.laws.Edge.{Edge, Bytes}
use Rattle.scan.specs.Byte.{backslash}
use Rattle.scan.specs.Text.{has}
use Rattle.utf8.specs.declared.Reading.{Reading}
use Rattle.utf8.specs.declared.Reading.TheVariants.{Crate, Documented}
use Rattle.quoted.specs.declared.Fault.{Fault}
use Rattle.quoted.specs.Quoted.{unknown_escape, end_in_escape, end_in_string, quoted_of, comment_end}

-- what a string takes, one byte at least, or where it is refused
abbrev pub Lies : List ℕ → Result ℕ Fault → Type 0
Lies xs (Ok n) = (1 ≤ n) × Edge xs n
Lies xs (Err f) = Edge xs f.at

-- is within the bytes, and behind one that is ASCII or at the end
abbrev pub StringWithin : Type 0
StringWithin = (r : Reading) (symbol : ℕ) (xs : List ℕ) → symbol < 0x80 → Lies xs (quoted_of r symbol xs)

-- a refusal's number is one of the three
abbrev pub Numbered : Result ℕ Fault → Type 0
Numbered (Ok n) = Unit {0}
Numbered (Err f) = (f.number ≡ unknown_escape) ⊎ ((f.number ≡ end_in_escape) ⊎ (f.number ≡ end_in_string))

abbrev pub StringNumbered : Type 0
StringNumbered = (r : Reading) (symbol : ℕ) (xs : List ℕ) → Numbered (quoted_of r symbol xs)

-- what follows a string changes nothing
abbrev pub StringSeam : Type 0
StringSeam = (r : Reading) (symbol : ℕ) (xs ys : List ℕ) (n : ℕ) → quoted_of r symbol xs ≡ Ok n → quoted_of r symbol (xs ++ ys) ≡ Ok n

-- the readings of a string differ only where a backslash stands in it
abbrev pub BackslashAlone : Type 0
BackslashAlone = (symbol : ℕ) (xs : List ℕ) → has backslash xs ≡ false → quoted_of Crate symbol xs ≡ quoted_of Documented symbol xs

-- a comment ends within the bytes; of bytes, behind one that is ASCII or at the end
abbrev pub CommentWithin : Type 0
CommentWithin = (xs : List ℕ) → (comment_end xs ≤ length xs) × (Bytes xs → Edge xs (comment_end xs))

-- a newline behind the bytes changes nothing, but that a comment that runs to the end takes it in
abbrev pub CommentSeam : Type 0
CommentSeam =
    (xs ys : List ℕ) →
    let n = comment_end (xs ++ code "\n" ∷ ys) in (n ≡ comment_end xs) ⊎ ((comment_end xs ≡ length xs) × (n ≡ suc (length xs)))
