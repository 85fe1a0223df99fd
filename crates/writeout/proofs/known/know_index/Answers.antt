use Rattle.writeout.proofs.ChoiceLemmas.{index_some}
use Rattle.writeout.proofs.known.know_index.Goals as goal

pub returns : goal.returns
returns c id k n e = index_some c.args.full.now id k n (λ i s h. c.accepted_lines.ensures.sorts c.args.full.now i s c.lines-lines.ensures.accepted h) e
