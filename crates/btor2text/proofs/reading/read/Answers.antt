use Rattle.btor2text.proofs.AnswerLemmas.{GivesItems, found, only, fault, not_read}
use Rattle.btor2text.proofs.reading.read.Goals as goal

pub returns-in-Ok-clause-found : goal.returns-in-Ok-clause-found
returns-in-Ok-clause-found g c =
    let gives : GivesItems (g.S.Source.to_come c.args.source.now) c.read_lines.new.model = rw c.new-model.ensures at c.in-Ok.ensures.1 in
    found (g.S.Source.to_come c.args.source.now) c.read_lines.new.model gives

pub returns-in-Ok-clause-only : goal.returns-in-Ok-clause-only
returns-in-Ok-clause-only g c =
    let gives : GivesItems (g.S.Source.to_come c.args.source.now) c.read_lines.new.model = rw c.new-model.ensures at c.in-Ok.ensures.1 in
    only (g.S.Source.to_come c.args.source.now) c.read_lines.new.model gives

pub returns-in-Err-clause-only : goal.returns-in-Err-clause-only
returns-in-Err-clause-only g c = not_read (g.S.Source.to_come c.args.source.now) (g.S.Source.to_come c.read_lines.new.source) c.in-Err.fault _ _ (rw c.new-model.ensures at c.in-Err.ensures)

pub returns-in-Err-clause-fault : goal.returns-in-Err-clause-fault
returns-in-Err-clause-fault g c = fault (g.S.Source.to_come c.args.source.now) (g.S.Source.to_come c.read_lines.new.source) c.in-Err.fault _ _ (rw c.new-model.ensures at c.in-Err.ensures)
