use Rattle.std.proofs.Common.{ℕ}
use Rattle.btor2text.specs.Tokens.{tokens}
use Rattle.fulltext.proofs.LoopLemmas.{FrontSoFar}
use Rattle.fulltext.proofs.signs.put_front.Given as goal

abbrev pub invariant-loop-left : goal.invariant-loop-left
invariant-loop-left l = FrontSoFar l.count (tokens l.line) l.bytes.items l.left (tokens l.rest)

abbrev pub decreases-loop-left : goal.decreases-loop-left
decreases-loop-left l = l.left
