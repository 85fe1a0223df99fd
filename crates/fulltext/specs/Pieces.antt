-- The pieces in which a line is written that does not go out at once.
use Rattle.std.specs.Prelude.{ℕ, ◌^◌, ◌<◌, ◌≤◌, List, [], ◌∷◌, codes, pos, neg_ℤ, ◌==◌, if◌then◌else◌}
use Rattle.btor2text.specs.Digits.{last_digits}
use Rattle.wide.specs.declared.constant.Spelling.{Spelling}
use Rattle.wide.specs.declared.constant.Spelling.TheVariants as spelling
use Rattle.wide.specs.Lines.{number_of_digits}
use Rattle.full.specs.Lines.{form}
use Rattle.full.specs.Lines as full
use Rattle.fullmodel.specs.declared.line.Says.{Says}
use Rattle.fullmodel.specs.declared.line.Says.TheVariants as says
use Rattle.fulltext.specs.Writing.{long_decimal, signed_long}

-- a line is no form
abbrev pub IsArrayLine : full.Says → Type 0
IsArrayLine (form b ms) = ⊥
IsArrayLine _ = Unit {0}

-- the word of a constant in digits
abbrev pub constant_word : Spelling → List ℕ
constant_word spelling.Binary = codes "const"
constant_word spelling.Decimal = codes "constd"
constant_word spelling.Negative = codes "constd"
constant_word spelling.Hexadecimal = codes "consth"

-- the token of a constant of so many digits that write a number
abbrev pub digits_token : Spelling → ℕ → ℕ → List ℕ
digits_token spelling.Binary count v = last_digits 2 count v
digits_token spelling.Decimal count v = long_decimal v
digits_token spelling.Negative count v = signed_long (neg_ℤ (pos v))
digits_token spelling.Hexadecimal count v = last_digits 16 count v

-- the minus of a number below 0, by what is subtracted from 0
abbrev pub minus_before : ℕ → List ℕ
minus_before v = if v == 0 then [] else 45 ∷ []

-- a number has at most as many bits as the widest word
pub record HasRoom (v : ℕ) : Type 0 where
  pub bits : ℕ
  pub most : bits ≤ 1048576
  pub below : v < 2 ^ bits

-- so has that of a constant that is spelled by its decimal
abbrev pub IsShort : Spelling → ℕ → Type 0
IsShort spelling.Decimal v = HasRoom v
IsShort spelling.Negative v = HasRoom v
IsShort _ v = Unit {0}

-- and that of a line, where it is such a constant
abbrev pub HasShortDecimal : Says → Type 0
HasShortDecimal (says.Constant s spelling count number) = IsShort spelling (number_of_digits number.items)
HasShortDecimal _ = Unit {0}
