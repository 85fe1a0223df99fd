-- How the name of a file stands in a line: what a terminal would obey, or what would end the line, is hidden (ISO/IEC 6429, control functions).
use Rattle.std.specs.Prelude.{ℕ, Bool, not, ◌&&◌, ◌==◌, List, [], ◌∷◌, nat_le, if◌then◌else◌}

-- a byte behind another is part of no control character: none of ASCII's, and none of those that UTF-8 writes as 194 and a byte from 128 to 159
abbrev pub is_plain_byte : ℕ → ℕ → Bool
is_plain_byte before b = (nat_le 32 b && not (b == 127)) && not (before == 194 && (nat_le 128 b && nat_le b 159))

-- a byte behind another as lines tell it: `?` where it is not plain
abbrev pub told_byte : ℕ → ℕ → ℕ
told_byte before b = if is_plain_byte before b then b else 63

-- bytes behind another as lines tell them
abbrev pub harmless_behind : ℕ → List ℕ → List ℕ
harmless_behind before [] = []
harmless_behind before (b ∷ bs) = told_byte before b ∷ harmless_behind b bs

-- a name as lines tell it
abbrev pub harmless : List ℕ → List ℕ
harmless name = harmless_behind 0 name
