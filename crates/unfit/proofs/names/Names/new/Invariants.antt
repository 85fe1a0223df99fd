use Rattle.std.proofs.Common.{◌≡◌, map, drop}
use Rattle.wide.specs.Lines.{item_of}
use Rattle.unfit.specs.Naming.{all_named, names_of}
use Rattle.unfit.proofs.names.Names.new.Given as goal

abbrev pub invariant-loop-line : goal.invariant-loop-line
invariant-loop-line l = all_named l.names (map item_of (drop l.line-index l.lines)) ≡ names_of l.model
