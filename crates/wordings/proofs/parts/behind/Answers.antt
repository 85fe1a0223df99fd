use Rattle.wordings.proofs.WordLemmas.{stripped}
use Rattle.wordings.proofs.parts.behind.Goals as goal

pub returns : goal.returns
returns c = stripped c.args.prefix.now c.args.word.now c.strip_prefix.result c.strip_prefix.ensures.cases
