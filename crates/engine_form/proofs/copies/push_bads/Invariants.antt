use Rattle.std.proofs.Common.{◌≡◌, ◌++◌, take}
use Rattle.engine_form.proofs.copies.push_bads.Given as goal

abbrev pub invariant-loop-bad : goal.invariant-loop-bad
invariant-loop-bad l = l.made ≡ record l.fn.made { bads = l.fn.made.bads ++ take l.bad-index l.bads }
