use Rattle.std.proofs.Common.{◌≡◌, ℕ, ◌<◌, length, get_or}
use Rattle.aiger.specs.declared.circuit.Latch.{Latch}
use Rattle.base.specs.Literal.{valuation_of}
use Rattle.runs.specs.CircuitRun.{reset_bit}
use Rattle.runs.proofs.bit_passes.take_first_bits.Given as goal

abbrev pub invariant-loop-k : goal.invariant-loop-k
invariant-loop-k l =
    record {
      taken : (j : ℕ) (d : Latch) → j < l.k → valuation_of l.taken j ≡ reset_bit (get_or l.latches j d).reset;
      as_many : length l.taken ≡ length l.fn.taken;
    }
