-- Names in a value change dump (IEEE 1364, "Value change dump (VCD) files" and "Escaped identifiers"). That a line without a symbol is named by its number or its id,
-- what stands before the name of a property, how two signals of one name are told apart, and what is written for bytes of a title that could end it, are this project's.
use Rattle.std.specs.Prelude.{ℕ, Bool, false, ◌&&◌, ◌||◌, ◌==◌, nat_le, List, [], ◌∷◌, ◌++◌, Option, Some, None, codes, decimal, map, if◌then◌else◌}
use Rattle.std.specs.List.{list_all}
use Rattle.base.specs.Decimals.{are_digits}
use Rattle.btor2.specs.declared.item.Item.{Item}
use Rattle.vcd.specs.declared.scope.Scope.{Scope}
use Rattle.vcd.specs.declared.scope.Scope.TheVariants as scope

-- a letter or `_`, and a byte that may follow one in a plain name
abbrev pub is_letter : ℕ → Bool
is_letter b = (nat_le 65 b && nat_le b 90) || ((nat_le 97 b && nat_le b 122) || (b == 95))

abbrev pub is_name_byte : ℕ → Bool
is_name_byte b = is_letter b || ((nat_le 48 b && nat_le b 57) || (b == 46))

-- letters, digits and dots, of which the first is a letter
abbrev pub is_plain_name : List ℕ → Bool
is_plain_name [] = false
is_plain_name (b ∷ bs) = is_letter b && list_all is_name_byte (b ∷ bs)

-- a name that is not plain is escaped: a `\` stands before it, and the blank behind every name ends it
abbrev pub escaped : List ℕ → List ℕ
escaped name = if is_plain_name name then name else 92 ∷ name

-- the identifier code of a signal, which is that of its line
abbrev pub code : ℕ → List ℕ
code id = 110 ∷ decimal id

-- what stands before the names of a scope: a bad property's signal is 1 where it fails, a constraint's where it is kept, and the name says which it is
abbrev pub prefix : Scope → List ℕ
prefix scope.Bads = codes "bad:"
prefix scope.Constraints = codes "constraint:"
prefix _ = []

-- what names a line of a scope that has no symbol: the number of a bad property or a constraint among those of the model, from 0, and else the identifier code
abbrev pub line_own_name : Scope → ℕ → ℕ → List ℕ
line_own_name scope.Bads number id = decimal number
line_own_name scope.Constraints number id = decimal number
line_own_name _ number id = code id

-- what names a line of a scope: its symbol where it has one
abbrev pub stem_by : Scope → ℕ → ℕ → Option (List ℕ) → List ℕ
stem_by c number id None = line_own_name c number id
stem_by c number id (Some symbol) = symbol

-- the plain name of a line that is signal `number` of a scope
abbrev pub plain_name : Scope → ℕ → Item → List ℕ
plain_name c number x = prefix c ++ stem_by c number x.id x.symbol

-- a name ends in `#` and digits, or in `#`: what stands behind a name that is told apart
abbrev pub ends_in_number : List ℕ → Bool
ends_in_number [] = false
ends_in_number (b ∷ bs) = ((b == 35) && are_digits bs) || ends_in_number bs

-- a name that is told apart has `#` and the id of its line behind it
abbrev pub with_id : Bool → ℕ → List ℕ → List ℕ
with_id apart id name = if apart then name ++ 35 ∷ decimal id else name

-- a byte of a title, and `_` in place of one that could end it or is not printed: what is left are the bytes of plain names, `/`, `-` and blanks
abbrev pub title_byte : ℕ → ℕ
title_byte b = if is_name_byte b || ((b == 47) || ((b == 45) || (b == 32))) then b else 95

abbrev pub title_bytes : List ℕ → List ℕ
title_bytes title = map title_byte title
