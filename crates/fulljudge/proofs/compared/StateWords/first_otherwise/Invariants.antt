use Rattle.std.proofs.Common.{◌≡◌, ℕ, List, ◌<◌, slice_get}
use Rattle.btor2.specs.declared.item.Item.{Item}
use Rattle.btor2.specs.Trace.{Frame}
use Rattle.witness.specs.WordStands.{StandsForWitness}
use Rattle.witness.specs.ClosedWords.{IsClosedTrace, last_word}
use Rattle.fulljudge.specs.Compared.{DiffersFirst}
use Rattle.fulljudge.proofs.compared.StateWords.first_otherwise.Given as goal

-- none of the states so far is told otherwise
abbrev pub invariant-loop-index : goal.invariant-loop-index
invariant-loop-index l =
    (items : List Item) (text : List ℕ) (fs : List Frame) → StandsForWitness items l.fn.judge text → IsClosedTrace items text fs → (i : ℕ) → i < l.index → (slice_get l.fn.self.leaves i ≡ slice_get l.fn.self.nodes i → ⊥)
    → DiffersFirst (last_word items text fs) l.fn.flags l.fn.states l.fn.self i → ⊥
