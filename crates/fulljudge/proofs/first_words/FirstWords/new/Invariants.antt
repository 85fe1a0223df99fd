use Rattle.std.proofs.Common.{◌≡◌, false, replicate}
use Rattle.fulljudge.proofs.first_words.FirstWords.new.Given as goal

-- so many flags are false
abbrev pub invariant-loop : goal.invariant-loop
invariant-loop l = l.flags.items ≡ replicate l.counter false
