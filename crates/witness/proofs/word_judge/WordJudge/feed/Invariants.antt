use Rattle.std.proofs.Common.{length}
use Rattle.witness.specs.WordStands.{JudgesLines}
use Rattle.witness.proofs.word_judge.WordJudge.feed.Given as goal

-- the lines in front of the rest are judged
abbrev pub invariant-loop-behind : goal.invariant-loop-behind
invariant-loop-behind l = JudgesLines l.fn.self l.self l.bytes l.rest

abbrev pub decreases-loop-behind : goal.decreases-loop-behind
decreases-loop-behind l = length l.rest
