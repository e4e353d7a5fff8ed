-- A string read from an offset on: past the end it is refused, and before the end it is what its byte there and the rest say. Both are the
-- definition's own cases, of the bytes from there on.
use Prim.Native.Nat.{ℕ, ◌+◌, ◌<◌, ◌≤◌}
use native.Mathlib.Numerals.{add-one}
use mathlib.Core.Bool.{Bool, true, false, cond}
use mathlib.Core.List.{List}
use mathlib.Core.Path.{◌≡◌}
use lib.Dec.{eqb}
use lib.ListN.{length, get_or, drop, drop_of_length-le}
use lib.Seq.{drop-cons}
use Rattle.scan.specs.Byte.{backslash}
use Rattle.std.specs.Prelude.{Ok, Err}
use Rattle.quoted.specs.Quoted.{unknown_escape, end_in_escape, end_in_string, fault, is_escape, quoted_from, raw_from}

module _ (symbol n : ℕ) (s : List ℕ) where
  pub past_end : (escaped : Bool) → length s ≤ n → quoted_from symbol escaped n (drop n s) ≡ cond escaped (Err (fault end_in_escape n)) (Err (fault end_in_string n))
  unfolding quoted_from
  past_end true h = rw (drop_of_length-le s)
  past_end false h = rw (drop_of_length-le s)

  pub raw_end : length s ≤ n → raw_from symbol n (drop n s) ≡ Err (fault end_in_string n)
  unfolding raw_from
  raw_end h = rw (drop_of_length-le s)

  -- the byte, whatever a read past the end gives
  module _ (d : ℕ) (h : n < length s) where
    pub escaped_turn : quoted_from symbol true n (drop n s) ≡ cond (is_escape symbol (get_or s n d)) (quoted_from symbol false (n + 1) (drop (n + 1) s)) (Err (fault unknown_escape n))
    unfolding quoted_from
    escaped_turn = rw (drop-cons s n d, add-one)

    pub plain_turn : quoted_from symbol false n (drop n s) ≡ cond (eqb (get_or s n d) symbol) (Ok (n + 1)) (quoted_from symbol (eqb (get_or s n d) backslash) (n + 1) (drop (n + 1) s))
    unfolding quoted_from
    plain_turn = rw (drop-cons s n d, add-one)

    pub raw_turn : raw_from symbol n (drop n s) ≡ cond (eqb (get_or s n d) symbol) (Ok (n + 1)) (raw_from symbol (n + 1) (drop (n + 1) s))
    unfolding raw_from
    raw_turn = rw (drop-cons s n d, add-one)
