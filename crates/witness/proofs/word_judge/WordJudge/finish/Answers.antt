use Rattle.witness.proofs.AcceptLemmas.{accepts_exactly}
use Rattle.witness.proofs.word_judge.WordJudge.finish.Goals as goal

pub returns-clause-accepted : goal.returns-clause-accepted
returns-clause-accepted c over text valid stands = accepts_exactly over text c.judgement.result valid (c.judgement.ensures over text stands)
