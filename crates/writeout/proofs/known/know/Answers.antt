-- A model is accepted, and so it is small.
use Rattle.writeout.proofs.KnownLemmas.{few_lines, small_ids, node_sizes}
use Rattle.writeout.proofs.known.know.Goals as goal

pub returns-clause-most : goal.returns-clause-most
returns-clause-most c = few_lines c.args.full.now c.lines-lines.ensures.accepted

pub returns-clause-ids : goal.returns-clause-ids
returns-clause-ids c = small_ids c.args.full.now c.lines-lines.ensures.accepted

pub returns-clause-nodes : goal.returns-clause-nodes
returns-clause-nodes c = λ id. node_sizes c.args.full.now id (λ s e. c.accepted_lines.ensures.nodes c.args.full.now id s c.lines-lines.ensures.accepted e)
