use Rattle.fullmodel.proofs.RowLemmas.{refusal_at}
use Rattle.fullmodel.proofs.AcceptedLemmas.{sort_has_size, node_has_size}
use Rattle.fullmodel.proofs.AgreeLemmas.{line_agrees, accepted_is_model}
use Rattle.fullmodel.proofs.laws.accepted_lines.Goals as goal

pub returns-clause-model : goal.returns-clause-model
returns-clause-model c = accepted_is_model

pub returns-clause-sorts : goal.returns-clause-sorts
returns-clause-sorts c = sort_has_size

pub returns-clause-nodes : goal.returns-clause-nodes
returns-clause-nodes c = node_has_size

pub returns-clause-earlier : goal.returns-clause-earlier
returns-clause-earlier c = λ before after x h. (line_agrees before x (refusal_at before after x h)).nodes
