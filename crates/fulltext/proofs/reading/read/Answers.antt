use Rattle.std.proofs.Common.{Ok, Err}
use Rattle.fulltext.proofs.StepLemmas.{reads_text, found, only, not_read, first_fault}
use Rattle.fulltext.proofs.reading.read.Goals as goal

pub returns-in-Ok-clause-found : goal.returns-in-Ok-clause-found
returns-in-Ok-clause-found c = found c.args.text.now c.read_lines.new.model (reads_text c.args.text.now (Ok tt) c.new-model.result c.read_lines.new.model c.new-model.ensures c.in-Ok.ensures)

pub returns-in-Ok-clause-only : goal.returns-in-Ok-clause-only
returns-in-Ok-clause-only c = λ items. only c.args.text.now c.read_lines.new.model items (reads_text c.args.text.now (Ok tt) c.new-model.result c.read_lines.new.model c.new-model.ensures c.in-Ok.ensures)

pub returns-in-Err-clause-only : goal.returns-in-Err-clause-only
returns-in-Err-clause-only c = λ items. not_read c.args.text.now c.read_lines.new.model items c.in-Err.fault (reads_text c.args.text.now (Err c.in-Err.fault) c.new-model.result c.read_lines.new.model c.new-model.ensures c.in-Err.ensures)

pub returns-in-Err-clause-fault : goal.returns-in-Err-clause-fault
returns-in-Err-clause-fault c = first_fault c.args.text.now c.read_lines.new.model c.in-Err.fault (reads_text c.args.text.now (Err c.in-Err.fault) c.new-model.result c.read_lines.new.model c.new-model.ensures c.in-Err.ensures)
