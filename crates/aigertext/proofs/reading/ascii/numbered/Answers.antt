use Rattle.aigertext.proofs.AnyOrderLemmas.{numbers_wanted}
use Rattle.aigertext.proofs.reading.ascii.numbered.Goals as goal

pub returns-then-wanted : goal.returns-then-wanted
returns-then-wanted c = numbers_wanted c.args.lists.now c.args.wanted c.numbered.result c.numbered.ensures
