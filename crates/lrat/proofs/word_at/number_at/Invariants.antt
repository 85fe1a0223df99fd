use Rattle.lrat.proofs.WordAtLemmas.{IsReadTo}
use Rattle.lrat.proofs.word_at.number_at.Given as goal

-- the bytes before are the number's digits
abbrev pub invariant-loop-end : goal.invariant-loop-end
invariant-loop-end l = IsReadTo l.bytes l.at l.end l.value
