use Rattle.std.proofs.Common.{◌≡◌, map, drop}
use Rattle.fullmodel.specs.Lines.{line_of}
use Rattle.fullunfit.specs.Titles.{all_named, names_of}
use Rattle.fullunfit.proofs.naming.names_of.Given as goal

abbrev pub invariant-loop-line : goal.invariant-loop-line
invariant-loop-line l = all_named l.names (map line_of (drop l.line-index l.lines)) ≡ names_of l.model
