use Rattle.btor2.proofs.LeafLemmas.{input_there, state_there}
use Rattle.btor2.proofs.leaves.Leaves.has.Goals as goal

pub returns-in-Inputs : goal.returns-in-Inputs
returns-in-Inputs c = rw c.in-Inputs.is (input_there c.args.model.now c.args.k (rw c.in-Inputs.is at c.requires))

pub returns-in-Free : goal.returns-in-Free
returns-in-Free c = rw c.in-Free.is (state_there c.args.model.now c.args.k c.is_free.result (rw c.in-Free.is at c.requires) c.is_free.ensures).0

pub returns-in-Carried : goal.returns-in-Carried
returns-in-Carried c = rw c.in-Carried.is (state_there c.args.model.now c.args.k c.is_free-in-Carried.result (rw c.in-Carried.is at c.requires) c.is_free-in-Carried.ensures).1
