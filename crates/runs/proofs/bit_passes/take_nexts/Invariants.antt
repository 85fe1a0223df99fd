use Rattle.std.proofs.Common.{◌≡◌, ◌*◌, length}
use Rattle.runs.specs.CircuitHolds.{AreTaken}
use Rattle.runs.proofs.bit_passes.take_nexts.Given as goal

abbrev pub invariant-loop-turn : goal.invariant-loop-turn
invariant-loop-turn l = record { taken : AreTaken l.nexts l.bits (4 * l.turn) l.taken; as_many : length l.taken ≡ length l.fn.taken }

abbrev pub invariant-loop-k : goal.invariant-loop-k
invariant-loop-k l = record { taken : AreTaken l.nexts l.bits l.k l.taken; as_many : length l.taken ≡ length l.fn.taken }
