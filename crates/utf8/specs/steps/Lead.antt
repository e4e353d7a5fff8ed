-- What the code tests in place of the table's rows: the size of a character by its first byte, the bounds of its second, and
-- the bytes after that. Nothing that is promised outside rests on these; `proofs/Lead` shows that they say what the table says.
use Rattle.std.specs.Prelude.{ℕ, cond, List, eqb, leb}
use Rattle.scan.specs.Byte.{peek_at}
use Rattle.utf8.specs.Table.{is_tail}

unfoldable pub size_by : ℕ → ℕ
size_by a =
    cond (leb a 0x7f) 1
    (cond (leb a 0xc1) 0
    (cond (leb a 0xdf) 2
    (cond (leb a 0xef) 3
    (cond (leb a 0xf4) 4 0))))

unfoldable pub low_second : ℕ → ℕ
low_second a = cond (eqb a 0xe0) 0xa0 (cond (eqb a 0xf0) 0x90 0x80)

unfoldable pub high_second : ℕ → ℕ
high_second a = cond (eqb a 0xed) 0x9f (cond (eqb a 0xf4) 0x8f 0xbf)

unfoldable pub with_tails : ℕ → List ℕ → ℕ
with_tails n xs =
    cond (leb n 2) n
    (cond (is_tail (peek_at xs 2))
    (cond (leb n 3) n
    (cond (is_tail (peek_at xs 3)) n 0)) 0)
