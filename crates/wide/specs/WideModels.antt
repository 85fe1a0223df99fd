-- Models whose words have up to so many bits: the rows of `Check.antt` of `btor2`, with another greatest width and with as many hexadecimal digits as it takes.
-- All else that a row says of widths bounds none.
use Rattle.std.specs.Prelude.{◌≡◌, ℕ, ◌+◌, ◌*◌, ◌^◌, Bool, false, not, ◌&&◌, List, [], ◌∷◌, ◌++◌, take, drop, Option, None, nat_le, nat_lt, unwrap_or, option_and_then}
use Rattle.btor2.specs.declared.item.Item.{Item}
use Rattle.btor2.specs.declared.item.Body.{Body}
use Rattle.btor2.specs.declared.item.Body.TheVariants as body
use Rattle.btor2.specs.declared.fault.PushFault.{PushFault}
use Rattle.btor2.specs.declared.fault.PushFault.TheVariants as fault
use Rattle.btor2.specs.Items.{named_sort, sort_width}
use Rattle.btor2.specs.Check.{constant_fits, first_row, table}

-- the greatest width of a word that is read (it is this project's)
abbrev pub greatest_width : ℕ
greatest_width = 1048576

-- a sort's width is not 1 to the greatest
unfoldable pub width_is_above : ℕ → Body → Bool
width_is_above most (body.Sort n) = not (nat_le 1 n && nat_le n most)
width_is_above most _ = false

-- a constant fits a sort of n bits: hexadecimal digits are so many that four bits of each but the first are needed for the greatest width
abbrev pub constant_fits_within : ℕ → ℕ → Body → Bool
constant_fits_within most n (body.Consth s d v) = nat_le 1 d && (nat_le (4 * d) (most + 3) && (nat_lt v (2 ^ n) && nat_lt v (16 ^ d)))
constant_fits_within most n b = constant_fits n b

unfoldable pub constant_is_above : ℕ → List Item → Body → Bool
constant_is_above most items b = not (constant_fits_within most (unwrap_or (option_and_then (sort_width items) (named_sort b)) 0) b)

-- the rows in their order
abbrev pub wide_table : ℕ → List Item → Item → List (Bool × PushFault)
wide_table most items x =
    take 6 (table items x) ++ (width_is_above most x.body, fault.WidthOutOfRange) ∷ take 2 (drop 7 (table items x))
    ++ (constant_is_above most items x.body, fault.ConstantDoesNotFit) ∷ drop 10 (table items x)

-- the rows of what an item says, behind those of its own id
abbrev pub wide_said_rows : ℕ → List Item → Body → List (Bool × PushFault)
wide_said_rows most items b = drop 3 (wide_table most items (record { id = 0; symbol = None; body = b }))

-- the rows of its own id, and of how many items there are
abbrev pub wide_id_rows : ℕ → List Item → ℕ → List (Bool × PushFault)
wide_id_rows most items id = take 3 (wide_table most items (record { id = id; symbol = None; body = body.Sort 0 }))

-- the refusal of an item after the items before it, if there is one
unfoldable pub wide_refusal : ℕ → List Item → Item → Option PushFault
wide_refusal most items x = first_row (wide_table most items x)

-- a model of words of up to so many bits: each item is accepted after those before it
abbrev pub IsWideAfter : ℕ → List Item → List Item → Type 0
IsWideAfter most before [] = Unit {0}
IsWideAfter most before (x ∷ xs) = (wide_refusal most before x ≡ None) × IsWideAfter most (before ++ x ∷ []) xs

abbrev pub IsWideModel : ℕ → List Item → Type 0
IsWideModel most items = IsWideAfter most [] items
