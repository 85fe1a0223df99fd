use Rattle.drup.proofs.NumberLemmas.{no_byte}
use Rattle.drup.proofs.number.Number.is_empty.Goals as goal

pub returns : goal.returns
returns c bytes s = no_byte c.args.self bytes s
