use Rattle.std.proofs.Common.{◌≡◌, ◌++◌, take}
use Rattle.engine_form.proofs.copies.push_constraints.Given as goal

abbrev pub invariant-loop-constraint : goal.invariant-loop-constraint
invariant-loop-constraint l = l.made ≡ record l.fn.made { constraints = l.fn.made.constraints ++ take l.constraint-index l.constraints }
