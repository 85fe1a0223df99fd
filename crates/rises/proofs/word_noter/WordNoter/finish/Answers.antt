use Rattle.rises.proofs.word_noter.WordNoter.finish.Goals as goal

pub returns-clause-judged : goal.returns-clause-judged
returns-clause-judged c items text notes = c.finish.ensures.judged items text notes.judge
