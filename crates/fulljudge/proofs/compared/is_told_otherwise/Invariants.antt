use Rattle.std.proofs.Common.{◌≡◌, ℕ, List, true, ◌+◌, ◌*◌, ◌<◌}
use Rattle.btor2.specs.declared.item.Item.{Item}
use Rattle.btor2.specs.Trace.{Frame}
use Rattle.fullmodel.specs.Lines.{sort_value}
use Rattle.witness.specs.WordStands.{StandsForWitness}
use Rattle.witness.specs.ClosedWords.{IsClosedTrace, last_word}
use Rattle.fulljudge.specs.Shapes.{word_width}
use Rattle.fulljudge.specs.Compared.{flag_at, DifferWithin}
use Rattle.fulljudge.proofs.compared.is_told_otherwise.Given as goal

-- none of the words so far that are told is another
abbrev pub invariant-loop-cell : goal.invariant-loop-cell
invariant-loop-cell l =
    (items : List Item) (text : List ℕ) (fs : List Frame) → StandsForWitness items l.fn.judge text → IsClosedTrace items text fs → (c : ℕ) → c < l.cell → flag_at l.fn.flags (l.fn.value.first + c) ≡ true
    → DifferWithin (last_word items text fs) l.fn.leaf l.fn.node (c * word_width (sort_value l.fn.value.sort)) (word_width (sort_value l.fn.value.sort)) → ⊥
