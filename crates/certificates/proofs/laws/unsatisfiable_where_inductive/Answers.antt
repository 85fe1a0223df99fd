use Rattle.certificates.proofs.ObligationLemmas.{proved, refuted}
use Rattle.certificates.proofs.laws.unsatisfiable_where_inductive.Goals as goal

pub returns-clause-inductive : goal.returns-clause-inductive
returns-clause-inductive c = proved

pub returns-clause-unsatisfiable : goal.returns-clause-unsatisfiable
returns-clause-unsatisfiable c = refuted
