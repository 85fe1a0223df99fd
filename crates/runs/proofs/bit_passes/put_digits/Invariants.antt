use Rattle.std.proofs.Common.{take}
use Rattle.runs.specs.CircuitRun.{written_bits}
use Rattle.runs.specs.CircuitHolds.{IsPut}
use Rattle.runs.proofs.bit_passes.put_digits.Given as goal

-- the bits of the digits before are put
abbrev pub invariant-loop-k : goal.invariant-loop-k
invariant-loop-k l = IsPut (written_bits (take l.k l.digits)) l.first l.fn.bits l.bits
