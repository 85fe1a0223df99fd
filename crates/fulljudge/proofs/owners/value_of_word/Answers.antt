use Rattle.std.proofs.Common.{arith, ◌∙◌}
use Rattle.fulljudge.proofs.OwnerLemmas.{owner_past}
use Rattle.fulljudge.proofs.owners.value_of_word.Goals as goal

pub returns-else-word-words : goal.returns-else-word-words
returns-else-word-words c = c.count.ensures ∙ owner_past c.args.values.now c.args.word (omega (arith, c.if-word-words.false, c.words.ensures))
