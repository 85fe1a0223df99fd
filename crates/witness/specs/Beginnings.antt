-- Beginnings of witnesses: whole lines that further lines make the text of a witness, and the reading of a text from how far its lines are admitted
-- (this project's).
use Rattle.std.specs.Prelude.{ℕ, ◌≤◌, List, ◌++◌, length, All}
use Rattle.base.specs.Lines.{text_of_lines, IsLine}
use Rattle.aiger.specs.Circuit.{Circuit}
use Rattle.witness.specs.Texts.{Shape, Witness, Says}
use Rattle.witness.specs.BitTexts.{BitWitness, BitSays}

-- at most four lines more make a text that of a witness of a model
pub record IsBeginning (shape : Shape) (text : List ℕ) : Type 0 where
  pub more : List (List ℕ)
  pub lines : All IsLine more
  pub four : length more ≤ 4
  pub witness : Witness
  pub says : Says shape (text ++ text_of_lines more) witness

-- at most five lines more make a text that of a witness of a circuit
pub record IsBitBeginning (c : Circuit) (text : List ℕ) : Type 0 where
  pub more : List (List ℕ)
  pub lines : All IsLine more
  pub five : length more ≤ 5
  pub witness : BitWitness
  pub says : BitSays c (text ++ text_of_lines more) witness
