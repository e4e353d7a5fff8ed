-- What digits of a radix amount to, the most significant first.
use Rattle.std.specs.Prelude.{ℕ, ◌+◌, ◌*◌, List, [], ◌∷◌}
use Rattle.scan.specs.Byte.{digit_of}

-- behind digits that amount to v
unfoldable pub value_from : ℕ → ℕ → List ℕ → ℕ
value_from radix v [] = v
value_from radix v (x ∷ xs) = value_from radix (v * radix + digit_of x) xs

abbrev pub value_of : ℕ → List ℕ → ℕ
value_of radix xs = value_from radix 0 xs
