use Rattle.std.proofs.Common.{◌≡◌, ℕ, Bool, List, ◌++◌, length}
use Rattle.aiger.specs.Circuit.{Circuit}
use Rattle.rises.specs.Notes.{NotesBits}
use Rattle.rises.proofs.bit_noter.BitNoter.feed.Given as goal

-- the bytes in front of the rest are taken
abbrev pub invariant-loop-line : goal.invariant-loop-line
invariant-loop-line l = (noted : Bool) (circuit : Circuit) (text : List ℕ) → NotesBits noted circuit l.fn.self text → (front : List ℕ) × ((l.bytes ≡ front ++ l.rest) × NotesBits noted circuit l.self (text ++ front))

abbrev pub decreases-loop-line : goal.decreases-loop-line
decreases-loop-line l = length l.rest
