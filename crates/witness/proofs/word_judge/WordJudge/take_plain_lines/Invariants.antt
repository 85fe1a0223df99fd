use Rattle.std.proofs.Common.{◌≡◌, [], None, length}
use Rattle.witness.specs.WordStands.{JudgesLines}
use Rattle.witness.proofs.word_judge.WordJudge.take_plain_lines.Given as goal

-- the lines in front of the rest are judged
abbrev pub invariant-loop-behind : goal.invariant-loop-behind
invariant-loop-behind l = JudgesLines l.fn.self l.self l.text l.rest × (l.self.refused ≡ None) × (l.self.line ≡ [])

abbrev pub decreases-loop-behind : goal.decreases-loop-behind
decreases-loop-behind l = length l.rest
