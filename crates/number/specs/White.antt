-- What of a number's text is read: document 01, "drop Unicode White_Space, lower the case", said of its characters.
use Rattle.std.specs.Prelude.{ℕ, Bool, cond, ◌||◌, List, [], ◌∷◌, ◌==◌}
use Rattle.scan.specs.Byte.{is_within, lowered}
use Rattle.utf8.specs.Text.{codes_of}
use Rattle.utf8.specs.Code.{text_of}

-- "Unicode White_Space"
unfoldable pub is_white : ℕ → Bool
is_white c =
    is_within 0x0009 0x000d c
    || (c == 0x0020
    || (c == 0x0085
    || (c == 0x00a0
    || (c == 0x1680
    || (is_within 0x2000 0x200a c
    || (c == 0x2028
    || (c == 0x2029
    || (c == 0x202f
    || (c == 0x205f
    || c == 0x3000)))))))))

-- "drop Unicode White_Space, lower the case"
unfoldable pub kept_of : List ℕ → List ℕ
kept_of [] = []
kept_of (c ∷ cs) = cond (is_white c) (kept_of cs) (lowered c ∷ kept_of cs)

-- the bytes that are left of one character
abbrev pub kept_bytes : ℕ → List ℕ
kept_bytes c = text_of (kept_of (c ∷ []))

-- the text that is left of a text
abbrev pub plain_text : List ℕ → List ℕ
plain_text xs = text_of (kept_of (codes_of xs))
