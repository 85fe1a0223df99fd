use Rattle.std.proofs.Common.{◌≡◌, ℕ, List, ◌+◌, ◌<◌}
use Rattle.btor2.specs.declared.item.Item.{Item}
use Rattle.btor2.specs.Trace.{Frame}
use Rattle.witness.specs.WordStands.{StandsForWitness}
use Rattle.witness.specs.ClosedWords.{IsClosedTrace, last_word}
use Rattle.fulljudge.specs.Compared.{bit_in}
use Rattle.fulljudge.proofs.compared.differ_within.Given as goal

-- the bits so far are the same
abbrev pub invariant-loop-place : goal.invariant-loop-place
invariant-loop-place l =
    (items : List Item) (text : List ℕ) (fs : List Frame) → StandsForWitness items l.fn.judge text → IsClosedTrace items text fs → (b : ℕ) → b < l.place → bit_in (last_word items text fs) l.fn.one (l.fn.from + b) ≡ bit_in (last_word items text fs) l.fn.other (l.fn.from + b)
