use Rattle.std.proofs.Common.{◌≡◌, ℕ, ◌+◌, ◌^◌, ◌<◌, ◌≤◌, ◌++◌, Some}
use Rattle.btor2.specs.Items.{node_width}
use Rattle.celled.specs.Steps.{cell_lines}
use Rattle.celled.proofs.leaves.put_cells.Given as goal

abbrev pub invariant-loop-index : goal.invariant-loop-index
invariant-loop-index l = record {
  cells : l.maker ≡ l.fn.maker ++ cell_lines l.is_input l.sort l.symbol l.first 0 l.index;
  widths : (i : ℕ) → i < l.index → node_width l.maker (l.first + i) ≡ Some l.size;
  fits : l.first + l.index ≤ 2 ^ 32;
}
