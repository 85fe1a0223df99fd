-- Which texts are witnesses of a circuit, and what they say (the AIGER format's witnesses, as the hardware model checking competitions read them). This
-- project's own: one claimed bad property, at least one frame, no bit left undetermined, and the limit of lines.
use Rattle.std.specs.Prelude.{◌≡◌, ◌≢◌, ℕ, ◌<◌, ◌≤◌, Bool, List, [], ◌∷◌, ◌++◌, codes, map, length, All}
use Rattle.base.specs.Lines.{text_of_lines}
use Rattle.aiger.specs.Circuit.{Circuit}
use Rattle.witness.specs.Texts.{digit, claim, most_lines}

-- What a witness of a circuit says: the bad property that it claims, the bits that the latches begin with, and those of the inputs in each frame.
pub record BitWitness : Type 0 where
  pub claim : ℕ
  pub initial : List Bool
  pub frames : List (List Bool)

-- bits in their order, a byte each
abbrev pub bit_line : List Bool → List ℕ
bit_line bits = map digit bits

-- all lines: the status, the claim, the initial bits, a line for each frame, and the end
abbrev pub bit_witness_lines : BitWitness → List (List ℕ)
bit_witness_lines w = codes "1" ∷ (claim w.claim ∷ (bit_line w.initial ∷ (map bit_line w.frames ++ codes "." ∷ [])))

-- what a witness may say over a circuit
pub record IsBitWitness (c : Circuit) (w : BitWitness) : Type 0 where
  pub claim : w.claim < length c.bads
  pub initial : length w.initial ≡ length c.latches
  pub some_frame : w.frames ≢ []
  pub frames : All (λ bits. length bits ≡ c.inputs) w.frames

-- a text says this: it is the lines of the witness
pub record BitSays (c : Circuit) (text : List ℕ) (w : BitWitness) : Type 0 where
  pub whole : text ≡ text_of_lines (bit_witness_lines w)
  pub valid : IsBitWitness c w
  pub few : length (bit_witness_lines w) ≤ most_lines
