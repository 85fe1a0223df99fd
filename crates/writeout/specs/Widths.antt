-- The widths of index and element of arrays.
use Rattle.std.specs.Prelude.{ℕ, Option, Some}
use Rattle.full.specs.Lines.{Sort, arrays}

abbrev pub index_bits : Option Sort → ℕ
index_bits (Some (arrays k n)) = k
index_bits _ = 0

abbrev pub element_bits : Option Sort → ℕ
element_bits (Some (arrays k n)) = n
element_bits _ = 0
