use Rattle.std.proofs.Common.{ℕ}
use Rattle.btor2text.specs.Tokens.{tokens}
use Rattle.fulltext.proofs.LoopLemmas.{OperandsSoFar}
use Rattle.fulltext.proofs.signs.put_operands.Given as goal

abbrev pub invariant-loop-left : goal.invariant-loop-left
invariant-loop-left l = OperandsSoFar l.count (tokens l.line) l.fn.bytes.items l.bytes.items l.fn.minuses.items l.minuses.items l.left (tokens l.rest)

abbrev pub decreases-loop-left : goal.decreases-loop-left
decreases-loop-left l = l.left
