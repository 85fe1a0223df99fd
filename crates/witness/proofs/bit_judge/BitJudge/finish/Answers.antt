use Rattle.witness.proofs.AcceptLemmas.{bit_accepts_exactly}
use Rattle.witness.proofs.bit_judge.BitJudge.finish.Goals as goal

pub returns-clause-accepted : goal.returns-clause-accepted
returns-clause-accepted c over text valid stands = bit_accepts_exactly over text c.judgement.result valid (c.judgement.ensures over text stands)
