use Rattle.std.proofs.Common.{subst}
use Rattle.full.proofs.FullLookUps.{each_found}
use Rattle.fullmodel.specs.FullModels.{IsAccepted}
use Rattle.fullmodel.proofs.AgreeLemmas.{accepted_is_model}
use Rattle.fullmodel.proofs.model.FullModel.lines.Goals as goal

pub returns-clause-model : goal.returns-clause-model
returns-clause-model c = accepted_is_model c.args.self.now (subst IsAccepted c.self.view_is c.self.invariant.accepted)

pub returns-clause-ids : goal.returns-clause-ids
returns-clause-ids c = each_found c.args.self.now (accepted_is_model c.args.self.now (subst IsAccepted c.self.view_is c.self.invariant.accepted))
