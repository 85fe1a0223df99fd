-- What is noted of a text while it is judged, and which texts it is of.
use Rattle.std.specs.Prelude.{◌≡◌, ℕ, Bool, true, false, List, ◌∷◌, [], ◌++◌, Option, Some, None, option_map, slice_get}
use Rattle.base.specs.Lines.{IsLine}
use Rattle.btor2.specs.declared.item.Item.{Item}
use Rattle.btor2.specs.Trace.{Frame}
use Rattle.aiger.specs.Circuit.{Circuit}
use Rattle.witness.specs.ClosedWords.{IsClosedTrace}
use Rattle.witness.specs.WordStands.{StandsForWitness}
use Rattle.witness.specs.BitStands.{StandsForBits}
use Rattle.rises.specs.FirstRises.{word_first_rises, AreBitFirstRises}
use Rattle.rises.specs.declared.word_noter.WordNoter.{WordNoter}
use Rattle.rises.specs.declared.bit_noter.BitNoter.{BitNoter}

-- a whole line with its end
pub record EndsLine (bytes : List ℕ) : Type 0 where
  pub line : List ℕ
  pub is : bytes ≡ line ++ 10 ∷ []
  pub whole : IsLine line

-- the first rise of one bad property, where a frame more is closed and it is reached up to that one
abbrev pub noted : Bool → ℕ → Option ℕ → Option ℕ
noted reached frame (Some k) = Some k
noted true frame None = Some frame
noted false frame None = None

-- the same of each
abbrev pub IsNoted : (ℕ → Bool) → ℕ → List (Option ℕ) → List (Option ℕ) → Type 0
IsNoted reached frame before after = (k : ℕ) → slice_get after k ≡ option_map (noted (reached k) frame) (slice_get before k)

-- what is held is of a text over a model: the judge stands for it, and what is noted are its first rises
pub record NotesWords (items : List Item) (n : WordNoter) (text : List ℕ) : Type 0 where
  pub judge : StandsForWitness items n.judge text
  pub firsts : (fs : List Frame) → IsClosedTrace items text fs → n.firsts ≡ word_first_rises items text fs

-- the same over a circuit, where notes are taken; and where none are, the judge stands for it
pub record NotesBits (noted : Bool) (c : Circuit) (n : BitNoter) (text : List ℕ) : Type 0 where
  pub judge : StandsForBits c n.judge text
  pub firsts : noted ≡ true → AreBitFirstRises c text n.firsts
