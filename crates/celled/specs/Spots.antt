-- Where the lines of a list stand in the one with cells.
use Rattle.std.specs.Prelude.{ℕ, zero, suc, nat_eq, List, [], ◌∷◌, Option, Some, None}
use Rattle.std.specs.HashMap.{get}
use Rattle.fit.specs.Fitting.{Layout}
use Rattle.celled.specs.declared.table.Spot.{Spot}
use Rattle.celled.specs.declared.table.Table.{Table}

-- Of each line, by its id: the sort that it is, or the node that has its whole word; the first of its cells, and how many they are; and its place among the lines.
pub record Spots : Type 0 where
  pub node : ℕ → ℕ
  pub first : ℕ → ℕ
  pub count : ℕ → ℕ
  pub line : ℕ → ℕ

-- so many ids from a first one on
abbrev pub ids_from : ℕ → ℕ → List ℕ
ids_from first zero = []
ids_from first (suc n) = first ∷ ids_from (suc first) n

-- the cells of each node
abbrev pub layout_by : Spots → Layout
layout_by t id = ids_from (t.first id) (t.count id)

-- ---- what a table has, with 0 for lines that it has not

-- the sort or node
abbrev pub node_in : Option Spot → ℕ
node_in (Some s) = s.node
node_in None = 0

-- the first cell
abbrev pub first_in : Option Spot → ℕ
first_in (Some s) = s.first
first_in None = 0

-- how many cells
abbrev pub count_in : Option Spot → ℕ
count_in (Some s) = s.count
count_in None = 0

-- the place among the lines
abbrev pub line_in : Option Spot → ℕ
line_in (Some s) = s.line
line_in None = 0

-- where lines stand by a table
abbrev pub spots_of : Table → Spots
spots_of t =
    record {
      node = λ id. node_in (get nat_eq t.spots id);
      first = λ id. first_in (get nat_eq t.spots id);
      count = λ id. count_in (get nat_eq t.spots id);
      line = λ id. line_in (get nat_eq t.spots id);
    }
