use Rattle.full.proofs.NextsLemmas.{each_has_next}
use Rattle.full.proofs.laws.written_lists.Goals as goal

pub returns-clause-model : goal.returns-clause-model
returns-clause-model c = λ full p wide h. h.well_formed

pub returns-clause-nexts : goal.returns-clause-nexts
returns-clause-nexts c = each_has_next
