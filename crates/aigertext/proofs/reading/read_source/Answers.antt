use Rattle.aigertext.proofs.AnswerLemmas.{device, read_from, no_memory}
use Rattle.aigertext.proofs.reading.read_source.Goals as goal

pub returns-in-Ok-clause-read : goal.returns-in-Ok-clause-read
returns-in-Ok-clause-read g c = read_from (g.S.Source.to_come c.args.source.now) c.args.wanted c.read_taken.result (c.read_taken.ensures _ c.in-Ok.ensures.taken)

pub returns-in-Ok-clause-device : goal.returns-in-Ok-clause-device
returns-in-Ok-clause-device g c = device (g.S.Source.to_come c.args.source.now) c.args.wanted c.read_taken.result _ (c.read_taken.ensures _ c.in-Ok.ensures.taken)

pub returns-in-Err-NoMemory-clause-read : goal.returns-in-Err-NoMemory-clause-read
returns-in-Err-NoMemory-clause-read g c = no_memory (g.S.Source.to_come c.args.source.now) c.args.wanted
