-- Names of items, and comments: this project's profile of BTOR2 symbols.
use Rattle.std.specs.Prelude.{ℕ, Bool, false, not, ◌&&◌, List, [], ◌∷◌, length, ◌==◌, nat_le}
use Rattle.std.specs.List.{list_all}

-- a byte from 33 to 126
abbrev pub is_printed : ℕ → Bool
is_printed b = nat_le 33 b && nat_le b 126

-- bytes that begin with `;` are a comment
abbrev pub is_comment : List ℕ → Bool
is_comment [] = false
is_comment (b ∷ bs) = b == 59

-- 1 to 255 printed bytes of which the first is not `;`
abbrev pub is_symbol : List ℕ → Bool
is_symbol [] = false
is_symbol (b ∷ bs) = not (b == 59) && (nat_le (length (b ∷ bs)) 255 && list_all is_printed (b ∷ bs))
