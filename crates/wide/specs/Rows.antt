-- What is known of the refusal of a constant in digits before its digits are looked at.
use Rattle.std.specs.Prelude.{◌≡◌, ℕ, not, List, [], ◌∷◌, Some}
use Rattle.btor2.specs.declared.item.Item.{Item}
use Rattle.btor2.specs.declared.fault.PushFault.{PushFault}
use Rattle.btor2.specs.declared.fault.PushFault.TheVariants as fault
use Rattle.btor2.specs.Check.{first_row}
use Rattle.wide.specs.Entries.{digits_sort}
use Rattle.wide.specs.WideModels.{greatest_width, constant_fits_within, wide_refusal}

-- it is refused by the row of its digits alone, by the width of its sort
abbrev pub HasDigitsRow : List Item → ℕ → ℕ → ℕ → Type 0
HasDigitsRow items id sort n =
    (x : Item) → x.id ≡ id → digits_sort x.body ≡ Some sort
    → wide_refusal greatest_width items x ≡ first_row ((not (constant_fits_within greatest_width n x.body), fault.ConstantDoesNotFit) ∷ [])

-- it is refused, whatever its digits are
abbrev pub IsConstantRefused : List Item → ℕ → ℕ → PushFault → Type 0
IsConstantRefused items id sort e = (x : Item) → x.id ≡ id → digits_sort x.body ≡ Some sort → wide_refusal greatest_width items x ≡ Some e
