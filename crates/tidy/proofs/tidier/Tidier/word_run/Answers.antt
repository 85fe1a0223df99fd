use Rattle.tidy.proofs.RunLemmas.{kept_run, front_is_line}
use Rattle.tidy.proofs.tidier.Tidier.word_run.Goals as goal

pub returns-in-Other-clause-run : goal.returns-in-Other-clause-run
returns-in-Other-clause-run c =
    kept_run c.args.self _ c.args.word _ _ c.requires.line c.in-Other.is c.if-gap.false (front_is_line c.plain_run.result c.args.bytes.now c.requires.is_line) (rw c.takes_x.ensures at c.plain_run.ensures.each)
