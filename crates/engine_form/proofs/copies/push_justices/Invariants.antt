use Rattle.std.proofs.Common.{◌≡◌, take}
use Rattle.engine_form.proofs.copies.push_justices.Given as goal

abbrev pub invariant-loop-i : goal.invariant-loop-i
invariant-loop-i l = l.made ≡ record l.fn.made { justice = take l.i l.circuit.justice }
