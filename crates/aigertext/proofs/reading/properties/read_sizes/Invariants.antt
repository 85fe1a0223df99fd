use Rattle.std.proofs.Common.{◌≡◌, ◌-◌, ◌≤◌}
use Rattle.std.specs.List.{sum}
use Rattle.aigertext.specs.Passes.{onto}
use Rattle.aigertext.specs.Reading.{sizes_at}
use Rattle.aigertext.proofs.reading.properties.read_sizes.Given as goal

abbrev pub invariant-loop-index : goal.invariant-loop-index
invariant-loop-index l = record {
  read : onto l.list.items (sizes_at l.total (l.count - l._index) l.rest) ≡ sizes_at 0 l.count l.fn.text;
  sums : l.total ≡ sum l.list.items;
  small : l.total ≤ 1073741824;
}
