use Rattle.std.proofs.Common.{◌∙◌, ap, subst}
use Rattle.fullmodel.specs.FullModels.{IsAccepted}
use Rattle.fullmodel.specs.Entries.{entry_node}
use Rattle.fullmodel.proofs.EntryLemmas.{node_kept}
use Rattle.fullmodel.proofs.AcceptedLemmas.{kept_node_size}
use Rattle.fullmodel.proofs.model.FullModel.sort_of_node.Goals as goal

pub returns-clause-sort : goal.returns-clause-sort
returns-clause-sort c = c.node_of.ensures ∙ ap entry_node c.entry.ensures ∙ node_kept c.args.self.now c.args.id

pub returns-clause-size : goal.returns-clause-size
returns-clause-size c =
    kept_node_size c.args.self.now c.args.id c.node_of.result (subst IsAccepted c.self.view_is c.self.invariant.accepted) (c.node_of.ensures ∙ ap entry_node c.entry.ensures ∙ node_kept c.args.self.now c.args.id)
