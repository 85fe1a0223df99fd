use Rattle.std.proofs.Common.{rules}
use Rattle.vectors.proofs.NoneLemmas.{none_binary}
use Rattle.vectors.proofs.lines.binary_vector.Goals as goal

pub returns-in-Some-clause-none : goal.returns-in-Some-clause-none
returns-in-Some-clause-none c = λ none. none_binary c.args.rest.now _ c.args.operator _ (c.with_operands.ensures.none none) (search rules) (search rules)
