use Rattle.std.proofs.Common.{◌≡◌, ℕ, List, ◌++◌, length}
use Rattle.btor2.specs.declared.item.Item.{Item}
use Rattle.rises.specs.Notes.{NotesWords}
use Rattle.rises.proofs.word_noter.WordNoter.feed.Given as goal

-- the bytes in front of the rest are taken
abbrev pub invariant-loop-line : goal.invariant-loop-line
invariant-loop-line l = (items : List Item) (text : List ℕ) → NotesWords items l.fn.self text → (front : List ℕ) × ((l.bytes ≡ front ++ l.rest) × NotesWords items l.self (text ++ front))

abbrev pub decreases-loop-line : goal.decreases-loop-line
decreases-loop-line l = length l.rest
