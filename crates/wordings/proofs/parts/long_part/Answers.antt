use Rattle.std.proofs.Common.{None, arith, sym}
use Rattle.std.proofs.lemmas.Str.Pattern.{split_parts}
use Rattle.wordings.proofs.WordLemmas.{long_part-without}
use Rattle.wordings.proofs.parts.long_part.Goals as goal

pub returns-in-None : goal.returns-in-None
returns-in-None c = sym (long_part-without c.args.name.now (split_parts 61 c.args.name.now None c.in-None.ensures.cases (omega arith)))
