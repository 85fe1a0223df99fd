-- A circuit in the frames that a counterexample over its engine form gives, one after the other: which of them are played, and what is told of them in the end.
use Rattle.std.specs.Prelude.{◌≡◌, ◌<◌, ℕ, Bool, ◌+◌, ◌-◌, ◌^◌, ◌==◌, ◌&&◌, nat_le, min, false, not, List, [], ◌∷◌, length, Option, None, Some, is_none, option_map, take, drop, slice_index, if◌then◌else◌}
use Rattle.std.specs.Option.{option_or}
use Rattle.base.specs.Literal.{Valuation, literal_value}
use Rattle.aiger.specs.Circuit.{Circuit, IsCircuit}
use Rattle.aiger.specs.Trace.{next_latch_bits}
use Rattle.engine_form.specs.EngineForm.{first_bits}
use Rattle.runs.specs.CircuitRun.{CircuitRun}
use Rattle.witness.specs.declared.judgement.Judgement.{Judgement}
use Rattle.witness.specs.declared.judgement.Judgement.TheVariants as judgement
use Rattle.witness.specs.declared.why.Why.TheVariants as why
use Rattle.witness.specs.Texts.{most_lines}
use Rattle.witness.specs.Judgements.{Violation, violated_at, first_of}
use Rattle.witness.specs.BitPlays.{first_bit_violated}
use Rattle.restore.specs.declared.told.Restored.{Restored}
use Rattle.restore.specs.Frames.{frame_of}
use Rattle.restore.specs.Restored.{rises_in}

-- a circuit in the frame that follows: its claimed bad property, the bits of its latches, how many frames were before, told up to 2^64 - 1, the first constraint
-- that did not hold in them, the bits that the latches began with, the first of the frames that a witness may have in which the claimed property was 1, and whether
-- it rose in the last one
pub record Play : Type 0 where
  pub circuit : Circuit
  pub claim : ℕ
  pub state : List Bool
  pub frames : ℕ
  pub breach : Option Violation
  pub begins : List Bool
  pub first : Option ℕ
  pub risen : Bool

-- before its first frame
abbrev pub fresh : Circuit → ℕ → List Bool → List Bool → Play
fresh c k state begins = record { circuit = c; claim = k; state = state; frames = 0; breach = None; begins = begins; first = None; risen = false }

abbrev pub IsFresh : Circuit → ℕ → Play → Type 0
IsFresh c k p = p ≡ fresh c k p.state p.begins

-- its run is of the circuit, and as many bits are there as it has latches and inputs; the claimed bad property is there
pub record HoldsPlay (c : Circuit) (run : CircuitRun) (k many : ℕ) : Type 0 where
  pub valid : IsCircuit c
  pub circuit : run.circuit ≡ c
  pub latches : length run.latches ≡ length c.latches
  pub inputs : length run.inputs ≡ c.inputs
  pub begins : many ≡ length c.latches
  pub claim : k < length c.bads

-- all constraints held in the frames before
abbrev pub met : Play → Bool
met p = is_none p.breach

-- with the three lines before so many frames as many lines are there as may be, or more, so that none may follow
abbrev pub are_too_many : ℕ → Bool
are_too_many frames = nat_le most_lines (frames + 3)

-- the claimed property is 1 in a frame that may follow
abbrev pub is_bad_in : Play → Valuation → Bool
is_bad_in p v = literal_value v (slice_index p.circuit.bads p.claim) && not (are_too_many p.frames)

-- it begins with the first frame of its engine form
abbrev pub begun : Play → List Bool → Play
begun p bits = record p { state = first_bits p.circuit.latches (drop p.circuit.inputs bits); begins = first_bits p.circuit.latches (drop p.circuit.inputs bits) }

-- one frame later
abbrev pub played : Play → List Bool → Play
played p input =
    record p {
      state = next_latch_bits p.circuit (frame_of p.circuit p.state input);
      frames = min (p.frames + 1) (2 ^ 64 - 1);
      breach = option_or p.breach (violated_at p.frames (first_bit_violated p.circuit (frame_of p.circuit p.state input)) None);
      first = option_or p.first (if is_bad_in p (frame_of p.circuit p.state input) then Some p.frames else None);
      risen = rises_in p.circuit p.claim (met p) (frame_of p.circuit p.state input);
    }

-- the circuit's own inputs in a frame of its engine form
abbrev pub own_frame : Play → List Bool → List Bool
own_frame p bits = take p.circuit.inputs bits

-- with a frame of the engine form more: behind the rise none is played
abbrev pub took : Play → List Bool → Play
took p bits = if p.risen then p else played (if p.frames == 0 then begun p bits else p) (own_frame p bits)

abbrev pub taken : Play → List (List Bool) → Play
taken p [] = p
taken p (bits ∷ more) = taken (took p bits) more

-- ---- what is told in the end

-- the judgement of the witness with the frames that were played; the initial bits agree with the resets
abbrev pub play_judgement : Play → Judgement
play_judgement p =
    if are_too_many p.frames then judgement.Malformed (most_lines + 1) why.TooLong
    else first_of None p.breach (if p.risen then None else Some p.claim) p.frames

abbrev pub play_told : Play → Restored
play_told p = record { judgement = play_judgement p; first = option_map (λ frame. (p.claim, frame)) p.first }
