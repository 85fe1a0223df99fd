use Rattle.std.proofs.Common.{ap}
use Rattle.aiger.specs.Circuit.{NameMap}
use Rattle.aiger.proofs.SectionNameLemmas.{same_names}
use Rattle.aiger.proofs.laws.names_in_any_order.Goals as goal

pub returns : goal.returns
returns c d names valid other same = ap (λ (ns : NameMap). record d { names = ns }) (same_names d names valid other same)
