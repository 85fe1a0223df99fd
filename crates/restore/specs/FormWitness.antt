-- What a witness of the engine form of a circuit, as the AIGER format has them, is restored to ("AIGER 1.9 and Beyond", its witnesses; where the frames end is this project's): the witness of the circuit that its frames say.
use Rattle.std.specs.Prelude.{◌≡◌, ℕ, ◌+◌, Bool, true, false, List, [], ◌∷◌, ◌++◌, Option, None, Some, codes, length, map, replicate}
use Rattle.base.specs.Lines.{text_of_lines, whole_lines}
use Rattle.base.specs.Literal.{Valuation}
use Rattle.aiger.specs.Circuit.{Circuit}
use Rattle.aiger.specs.Trace.{IsCircuitTrace}
use Rattle.witness.specs.declared.judgement.Judgement.{Judgement}
use Rattle.witness.specs.declared.judgement.Judgement.TheVariants as judgement
use Rattle.witness.specs.Judgements.{JudgesAs}
use Rattle.witness.specs.Readings.{reading}
use Rattle.witness.specs.BitTexts.{BitWitness, BitSays, bit_line}
use Rattle.witness.specs.BitAdmits.{BitRead, bit_reader, is_done, read_bit_text}
use Rattle.witness.specs.BitJudgements.{makes_no_bit_claim, BitJudges}
use Rattle.restore.specs.Counterexample.{first_bad}
use Rattle.restore.specs.Restored.{opening, written_frames, restored_witness}

-- the bad property of the circuit that a claim over its engine form is of: the same one where the form has all of them, and else the one that it was made for
abbrev pub property_of : Option ℕ → ℕ → ℕ
property_of None j = j
property_of (Some k) j = k

-- the lines before the last that frames of the form are restored to
abbrev pub restored_frame_lines : Circuit → ℕ → List (List Bool) → List (List ℕ)
restored_frame_lines c k given = opening c k given ++ map bit_line (written_frames c k given)

-- the last line, where that of the witness was read
abbrev pub last_line : Bool → List (List ℕ)
last_line true = codes "." ∷ []
last_line false = []

-- what admitted lines are restored to, by what they say: lines, and their text
abbrev pub read_restored_lines : Circuit → Option ℕ → BitRead → List (List ℕ)
read_restored_lines c choice r = restored_frame_lines c (property_of choice r.claim) r.frames ++ last_line (is_done r.place)

abbrev pub read_restored : Circuit → Option ℕ → BitRead → List ℕ
read_restored c choice r = text_of_lines (read_restored_lines c choice r)

-- what a text is restored to, a witness of the form with all bad properties or the chosen one: what its lines before the faulty one are, or all. Where it makes no claim no line is admitted, and it is restored to nothing
unfoldable pub form_restored_text : Circuit → Option ℕ → Circuit → List ℕ → List ℕ
form_restored_text c choice d text = read_restored c choice (reading (bit_reader d) text).read

-- what is judged of such a text: that it makes no claim, or which line is faulty over the form and why; else what is judged over the circuit of what it is restored to
abbrev pub FormJudges : Circuit → Option ℕ → Circuit → List ℕ → Judgement → Type 0
FormJudges c choice d text j = JudgesAs (λ r. BitJudges c (form_restored_text c choice d text)) (makes_no_bit_claim (whole_lines text)) (read_bit_text d text) j

-- A text that is accepted over the form says a witness, whose claim is first 1 in some frame of the form's trace; and what it is restored to is a witness of the circuit with the claimed property, which is accepted, with the frames up to and with that one.
pub record IsFoundAgain (c : Circuit) (choice : Option ℕ) (d : Circuit) (text : List ℕ) : Type 0 where
  pub witness : BitWitness
  pub says : BitSays d text witness
  pub trace : List Valuation
  pub is_trace : IsCircuitTrace d (replicate (length d.latches) false) witness.frames trace
  pub last : ℕ
  pub first : first_bad d witness.claim trace ≡ Some last
  pub restored : BitSays c (form_restored_text c choice d text) (restored_witness c (property_of choice witness.claim) witness.frames)
  pub accepted : BitJudges c (form_restored_text c choice d text) (judgement.Accepted (last + 1))

-- so it is of each text that is accepted over the form
abbrev pub FindsWitnessAgain : Circuit → Option ℕ → Circuit → List ℕ → Type 0
FindsWitnessAgain c choice d text = (frames : ℕ) → BitJudges d text (judgement.Accepted frames) → IsFoundAgain c choice d text
