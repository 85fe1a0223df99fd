-- What is known of the refusal of a constant in digits before its digits are looked at.
use Rattle.std.specs.Prelude.{◌≡◌, ℕ, not, List, [], ◌∷◌, Option, Some}
use Rattle.btor2.specs.declared.fault.PushFault.TheVariants as push
use Rattle.wide.specs.declared.constant.Spelling.{Spelling}
use Rattle.wide.specs.Lines.{constant_body}
use Rattle.wide.specs.WideModels.{greatest_width, constant_fits_within}
use Rattle.full.specs.Lines.{form, FullLine}
use Rattle.fullmodel.specs.declared.fault.LineFault.{LineFault}
use Rattle.fullmodel.specs.declared.fault.LineFault.TheVariants as fault
use Rattle.fullmodel.specs.FullModels.{first_fault, line_refusal}

-- a line of a constant in digits
abbrev pub constant_line : ℕ → Option (List ℕ) → Spelling → ℕ → ℕ → ℕ → FullLine
constant_line id symbol spelling sort count v = record { id = id; symbol = symbol; says = form (constant_body spelling sort count v) [] }

-- it is refused by the row of its digits alone, by the width of its sort
abbrev pub HasDigitsRow : List FullLine → ℕ → ℕ → ℕ → Type 0
HasDigitsRow lines id sort n =
    (symbol : Option (List ℕ)) (spelling : Spelling) (count v : ℕ)
    → line_refusal lines (constant_line id symbol spelling sort count v) ≡ first_fault ((not (constant_fits_within greatest_width n (constant_body spelling sort count v)), fault.Push push.ConstantDoesNotFit) ∷ [])

-- it is refused, whatever its digits are
abbrev pub IsConstantRefused : List FullLine → ℕ → ℕ → LineFault → Type 0
IsConstantRefused lines id sort e = (symbol : Option (List ℕ)) (spelling : Spelling) (count v : ℕ) → line_refusal lines (constant_line id symbol spelling sort count v) ≡ Some e
