use Rattle.std.proofs.Common.{◌≡◌, ◌++◌}
use Rattle.aigertext.specs.Ascii.{input_lines}
use Rattle.aigertext.proofs.reading.front.behind_inputs.Given as goal

abbrev pub invariant-loop-index : goal.invariant-loop-index
invariant-loop-index l = l.fn.text ≡ input_lines 1 l.index ++ l.rest
