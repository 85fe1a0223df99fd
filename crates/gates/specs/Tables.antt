-- How the literals that stand for a circuit's variables are kept.
use Rattle.std.specs.Prelude.{ℕ, ◌+◌, ◌*◌, ◌≤◌, ◌++◌, List, map}
use Rattle.std.specs.List.{range_with_len}
use Rattle.aiger.specs.Limits.{greatest_count}
use Rattle.gates.specs.declared.table.Table.TheInside.{Inside}

-- false and the inputs stand for themselves, and the others stand behind them
abbrev pub table_of : Inside → List ℕ
table_of t = map (λ k. 2 * k) (range_with_len 0 (t.inputs + 1)) ++ t.more.items

-- there are no more inputs than a circuit has
abbrev pub IsTable : Inside → Type 0
IsTable t = t.inputs ≤ greatest_count
