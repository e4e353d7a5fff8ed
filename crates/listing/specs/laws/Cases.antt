-- Document 01's two texts that the program prints: "Values on both sides".
use Rattle.std.specs.Prelude.{◌≡◌, List, [], ◌∷◌, ℕ}
use Prim.Native.Char.{code}
use Rattle.scan.specs.Ascii.{ascii}
use Rattle.listing.specs.Listing.{printed}

-- a double quote followed by é, which is the bytes C3 A9
abbrev pub quote_and_accent : List ℕ
quote_and_accent = code "\"" ∷ 195 ∷ 169 ∷ []

-- "Standard input `a[5m]`, no newline, gives whole: ..", with the depth that document 02's L7 adds, "A double quote followed by é gives `refused 23 3 2`."
abbrev pub AllPrinted : Type 0
AllPrinted =
    (printed (ascii "a[5m]") ≡ ascii "1 0 1 0\n10 1 1 0\n5 2 2 0\n11 4 1 0\n0 5 0 0\n")
    × (printed quote_and_accent ≡ ascii "refused 23 3 2\n")
