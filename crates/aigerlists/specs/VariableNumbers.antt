-- Numbers of variables, in a list of the low ones and in pages of neighbours for the others.
use Rattle.std.specs.Prelude.{ℕ, ◌/◌, ◌%◌, List, Option, None, Some, length, slice_index_or, nat_eq, nat_lt, if◌then◌else◌}
use Rattle.std.specs.HashMap.{get}
use Rattle.aigerlists.specs.declared.variable_numbers.VariableNumbers.{VariableNumbers}
use Rattle.aigerlists.specs.declared.variable_pages.VariablePages.{VariablePages}

-- the number at a place of a page, if there is the page
unfoldable pub in_page : Option (List ℕ) → ℕ → ℕ
in_page None place = 0
in_page (Some page) place = slice_index_or page place 0

-- the number of a variable in pages, or 0
abbrev pub paged_number : VariablePages → ℕ → ℕ
paged_number n v = in_page (get nat_eq n.pages (v / 16)) (v % 16)

-- the number of a variable, or 0
abbrev pub number_kept : VariableNumbers → ℕ → ℕ
number_kept n v = if nat_lt v (length n.low.items) then slice_index_or n.low.items v 0 else paged_number n.others v
