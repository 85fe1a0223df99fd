use Rattle.std.proofs.Common.{◌+◌, ◌-◌, ◌≤◌, length, Some}
use Rattle.aigertext.specs.InOrder.{IsPutOnLists, PutsText}
use Rattle.aigertext.proofs.reading.gates.LooseTakesGates.push_gates.Given as goal

abbrev pub invariant-loop-index : goal.invariant-loop-index
invariant-loop-index l = record {
  puts : PutsText (IsPutOnLists l.top) l.initial.self l.self (length l.fn.text - length l.rest) (Some l.fn.text) (Some l.rest);
  few : length l.self.gates ≤ length l.initial.self.gates + l._index;
}
