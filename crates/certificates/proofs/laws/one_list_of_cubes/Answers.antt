use Rattle.certificates.proofs.SaidLemmas.{one_list}
use Rattle.certificates.proofs.laws.one_list_of_cubes.Goals as goal

pub returns : goal.returns
returns c = one_list
