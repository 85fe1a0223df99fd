use Rattle.std.proofs.Common.{ap, ◌%◌}
use Rattle.aigerlists.specs.Definitions.{is_marked}
use Rattle.aigerlists.proofs.definitions.Definitions.has_other.Goals as goal

pub returns-in-Some : goal.returns-in-Some
unfolding is_marked
returns-in-Some c = ap (λ word. is_marked word (c.args.variable % 64)) c.in-Some.ensures

pub returns-in-None : goal.returns-in-None
unfolding is_marked
returns-in-None c = ap (λ word. is_marked word (c.args.variable % 64)) c.in-None.ensures
