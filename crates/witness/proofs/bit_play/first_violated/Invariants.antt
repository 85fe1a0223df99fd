use Rattle.std.proofs.Common.{◌≡◌, drop, not}
use Rattle.std.specs.List.{position_from}
use Rattle.base.specs.Literal.{Valuation, literal_value}
use Rattle.runs.specs.CircuitRun.{IsFrameNow}
use Rattle.witness.specs.BitPlays.{first_bit_violated}
use Rattle.witness.proofs.bit_play.first_violated.Given as goal

-- those before hold
abbrev pub invariant-loop-i : goal.invariant-loop-i
invariant-loop-i l =
    (v : Valuation) → IsFrameNow l.run v → position_from (λ a. not (literal_value v a)) l.i (drop l.i l.circuit.constraints) ≡ first_bit_violated l.circuit v
