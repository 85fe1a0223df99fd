use Rattle.std.proofs.Common.{◌∙◌, ap, subst}
use Rattle.fullmodel.specs.FullModels.{IsAccepted}
use Rattle.fullmodel.specs.Entries.{entry_sort}
use Rattle.fullmodel.proofs.EntryLemmas.{sort_kept}
use Rattle.fullmodel.proofs.AcceptedLemmas.{kept_size}
use Rattle.fullmodel.proofs.model.FullModel.sort_at.Goals as goal

pub returns-clause-size : goal.returns-clause-size
returns-clause-size c =
    kept_size c.args.self.now c.args.id c.sort_of.result (subst IsAccepted c.self.view_is c.self.invariant.accepted) (c.sort_of.ensures ∙ ap entry_sort c.entry.ensures ∙ sort_kept c.args.self.now c.args.id)
