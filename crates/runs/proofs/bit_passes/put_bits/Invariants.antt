use Rattle.std.proofs.Common.{take}
use Rattle.runs.specs.CircuitHolds.{IsPut}
use Rattle.runs.proofs.bit_passes.put_bits.Given as goal

-- the bits before are put
abbrev pub invariant-loop-k : goal.invariant-loop-k
invariant-loop-k l = IsPut (take l.k l.given) l.first l.fn.bits l.bits
