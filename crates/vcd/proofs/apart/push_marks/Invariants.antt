use Rattle.std.proofs.Common.{◌≡◌, ◌++◌, map, take}
use Rattle.vcd.specs.Stands.{HasSeen, is_marked_signal}
use Rattle.vcd.proofs.apart.push_marks.Given as goal

abbrev pub invariant-loop-place : goal.invariant-loop-place
invariant-loop-place l = record {
  pushed : l.marks.items ≡ l.fn.marks.items ++ map (is_marked_signal l.shown l.model l.scope) (take l.place l.items);
  seen : HasSeen l.shown l.model l.scope l.place l.seen;
}
