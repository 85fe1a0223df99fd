use Rattle.std.proofs.Common.{◌≡◌, ◌≤◌, map, take, length}
use Rattle.wide.specs.Lines.{item_of}
use Rattle.fitting.specs.Models.{state_ids}
use Rattle.celled.proofs.written.state_count.Given as goal

abbrev pub invariant-loop-line : goal.invariant-loop-line
invariant-loop-line l = (l.count ≡ length (state_ids (map item_of (take l.line-index l.lines)))) × (l.count ≤ l.line-index)
