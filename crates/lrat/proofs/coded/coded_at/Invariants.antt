use Rattle.lrat.proofs.CodedLemmas.{IsCodedTo}
use Rattle.lrat.proofs.coded.coded_at.Given as goal

-- the bytes before have the top bit, and are counted
abbrev pub invariant-loop-end : goal.invariant-loop-end
invariant-loop-end l = IsCodedTo l.bytes l.at l.end l.value l.unit
