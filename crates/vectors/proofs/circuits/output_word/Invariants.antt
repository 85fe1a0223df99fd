use Rattle.std.proofs.Common.{◌≡◌, ◌≤◌, ◌<◌, ◌-◌, ◌^◌, length, map, drop}
use Rattle.base.specs.Word.{word}
use Rattle.base.specs.Literal.{Valuation, literal_value}
use Rattle.runs.specs.CircuitRun.{IsFrameNow}
use Rattle.vectors.proofs.circuits.output_word.Given as goal

abbrev pub invariant-loop-left : goal.invariant-loop-left
invariant-loop-left l =
    (l.left ≤ length l.circuit.outputs)
    × (l.value < 2 ^ (length l.circuit.outputs - l.left))
    × ((v : Valuation) → IsFrameNow l.run v → l.value ≡ word (drop l.left (map (literal_value v) l.circuit.outputs)))

abbrev pub decreases-loop-left : goal.decreases-loop-left
decreases-loop-left l = l.left
