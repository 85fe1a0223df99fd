use Rattle.fullmodel.proofs.AcceptedLemmas.{first_there}
use Rattle.fullmodel.proofs.model.FullModel.state_is_none.Goals as goal

pub names_state-requires : goal.names_state-requires
names_state-requires c = first_there c.args.self.now c.args.body.now c.in-Init.state c.requires c.in-Init.is
