use Rattle.std.proofs.Common.{◌≡◌, length}
use Rattle.aiger.specs.Circuit.{net}
use Rattle.blast.specs.Rows.{item_latches}
use Rattle.blast.proofs.KindBlocks.{reached}
use Rattle.blast.proofs.LatchLemmas.{WithStates}
use Rattle.blast.proofs.latches.set_latches.Given as goal

abbrev pub invariant-loop-k : goal.invariant-loop-k
invariant-loop-k l =
    record {
      first : l.first ≡ reached (item_latches l.model l.table) l.model l.states l.k;
      latches : WithStates l.model l.table l.states l.fn.circuit l.circuit l.k;
      as_many : length l.circuit.latches ≡ length l.fn.circuit.latches;
      same_net : net l.circuit ≡ net l.fn.circuit;
    }
