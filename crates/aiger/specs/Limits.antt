-- The limits of this project's profile of AIGER.
use Rattle.std.specs.Prelude.{ℕ}

-- the greatest variable, and the greatest count of a section
abbrev pub greatest_count : ℕ
greatest_count = 1073741824

-- a name's bytes: 1 to 300 of them
abbrev pub longest_name : ℕ
longest_name = 300
