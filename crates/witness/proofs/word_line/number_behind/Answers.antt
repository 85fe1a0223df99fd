use Rattle.witness.proofs.WordLineLemmas.{nothing_there}
use Rattle.witness.proofs.word_line.number_behind.Goals as goal

pub returns-in_err-behind : goal.returns-in_err-behind
returns-in_err-behind c = rw c.from_residual.ensures (nothing_there c.args.line.now c.in_err-behind.ensures.cases)
