use Rattle.aiger.proofs.FlatNameLemmas.{flat_none}
use Rattle.aiger.proofs.flat_names.FlatNames.new.Goals as goal

pub invariant_of-result : goal.invariant_of-result
invariant_of-result c = flat_none c.new.result.items c.new-2.result c.new.ensures.items c.new-2.ensures
