-- What a text over the engine form of a circuit is restored to: the witness of the circuit that its frames say, up to and with the first in which the claimed property rises (the AIGER format's witnesses; where the frames end is this project's).
use Rattle.std.specs.Prelude.{ℕ, Bool, true, ◌&&◌, List, [], ◌∷◌, ◌++◌, Option, None, Some, codes, map, take, slice_index, if◌then◌else◌}
use Rattle.base.specs.Lines.{text_of_lines}
use Rattle.base.specs.Literal.{Valuation, literal_value}
use Rattle.aiger.specs.Circuit.{Circuit}
use Rattle.engine_form.specs.EngineForm.{begins, all_hold, input_count}
use Rattle.witness.specs.Texts.{claim}
use Rattle.witness.specs.BitTexts.{BitWitness, bit_line}
use Rattle.restore.specs.declared.fault.RestoreFault.{RestoreFault}
use Rattle.restore.specs.Frames.{trace_from}
use Rattle.restore.specs.Reading.{Found, read_found}

-- bad property k rises in a frame: it is 1, and all constraints hold, as they did in the frames before, which `met` says
abbrev pub rises_in : Circuit → ℕ → Bool → Valuation → Bool
rises_in c k met v = literal_value v (slice_index c.bads k) && (met && all_hold c v)

-- of the frames of a trace, what stands up to and with the first in which the property rises, or all
abbrev pub up_to_rise : {A : Type 0} → Circuit → ℕ → Bool → List Valuation → List A → List A
up_to_rise c k met [] xs = []
up_to_rise c k met (v ∷ vs) [] = []
up_to_rise c k met (v ∷ vs) (x ∷ xs) = x ∷ (if rises_in c k met v then [] else up_to_rise c k (met && all_hold c v) vs xs)

-- the circuit's own inputs in frames of its engine form
abbrev pub own_inputs : Circuit → List (List Bool) → List (List Bool)
own_inputs c given = map (take c.inputs) given

-- of frames of the circuit's inputs, from these bits of its latches on, those up to and with the first in which the property rises
abbrev pub cut_inputs : Circuit → ℕ → Bool → List Bool → List (List Bool) → List (List Bool)
cut_inputs c k met state inputs = up_to_rise c k met (trace_from c state inputs) inputs

-- the frames of the circuit that are written
abbrev pub written_frames : Circuit → ℕ → List (List Bool) → List (List Bool)
written_frames c k given = cut_inputs c k true (begins c given) (own_inputs c given)

-- the witness that these frames of the engine form are of the circuit, with this claim
abbrev pub restored_witness : Circuit → ℕ → List (List Bool) → BitWitness
restored_witness c k given = record { claim = k; initial = begins c given; frames = written_frames c k given }

-- ---- its text

-- the lines before the frames, where there is a frame: the status, the claim, and how the latches begin
abbrev pub opening : Circuit → ℕ → List (List Bool) → List (List ℕ)
opening c k [] = []
opening c k (bits ∷ more) = codes "1" ∷ (claim k ∷ (bit_line (begins c (bits ∷ more)) ∷ []))

-- the line behind them, where nothing is wrong
abbrev pub closing : Option RestoreFault → List (List ℕ)
closing None = codes "." ∷ []
closing (Some e) = []

-- all lines that are written of what is found
abbrev pub restored_lines : Circuit → ℕ → Found → List (List ℕ)
restored_lines c k found = opening c k found.frames ++ (map bit_line (written_frames c k found.frames) ++ closing found.fault)

-- what a text is restored to: where a line of it is faulty, what the lines before it give, and no last line
unfoldable pub restored_text : Circuit → ℕ → List ℕ → List ℕ
restored_text c k text = text_of_lines (restored_lines c k (read_found (input_count c) text))
