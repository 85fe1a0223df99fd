use Rattle.std.proofs.Common.{◌≡◌, ℕ, ◌<◌, ◌≤◌, false}
use Rattle.verbs.specs.Asked.{is_called}
use Rattle.verbs.proofs.asked.first_called.Given as goal

abbrev pub invariant-loop-position : goal.invariant-loop-position
invariant-loop-position l = (j : ℕ) → l.from ≤ j → j < l.position → is_called l.subject l.word j ≡ false
