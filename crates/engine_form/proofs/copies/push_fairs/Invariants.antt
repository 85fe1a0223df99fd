use Rattle.std.proofs.Common.{◌≡◌, ◌++◌, take}
use Rattle.engine_form.proofs.copies.push_fairs.Given as goal

abbrev pub invariant-loop-fair : goal.invariant-loop-fair
invariant-loop-fair l = l.made ≡ record l.fn.made { fair = l.fn.made.fair ++ take l.fair-index l.fairs }
