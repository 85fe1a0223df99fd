use Rattle.btor2text.proofs.NumberLemmas.{IsRead}
use Rattle.btor2text.proofs.places.number_at.Given as goal

-- the bytes before are digits, and the value is what they write
abbrev pub invariant-loop-at : goal.invariant-loop-at
invariant-loop-at l = IsRead l.line l.at l.value
