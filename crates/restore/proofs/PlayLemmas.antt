-- A run in the frame that is computed.
use Rattle.std.proofs.Common.{◌≡◌, ℕ, ◌+◌, ◌-◌, ◌^◌, min, Bool, true, false, not, ◌&&◌, if◌then◌else◌, List, length, get_or, Option, Some, None, is_none, refl, sym, ap, subst, ◌∙◌}
use Rattle.std.specs.Option.{option_or}
use Rattle.base.specs.Literal.{literal_value}
use Rattle.aiger.specs.Circuit.{Circuit, IsCircuit}
use Rattle.aiger.specs.Trace.{IsCircuitFrame, next_latch_bits}
use Rattle.engine_form.specs.EngineForm.{all_hold}
use Rattle.witness.specs.Judgements.{Violation, violated_at}
use Rattle.witness.specs.BitPlays.{first_bit_violated}
use Rattle.runs.specs.CircuitRun.{CircuitRun, IsFrameNow}
use Rattle.restore.specs.Frames.{frame_of}
use Rattle.restore.specs.Plays.{are_too_many, played}
use Rattle.restore.proofs.FrameOf.{frame_is}

-- a run that was given its inputs and is settled
pub settled_circuit : (c : Circuit) (r given : CircuitRun) (steps : ℕ) (input : List Bool) → r.circuit ≡ c → given ≡ record r { inputs = input; settled = false }
    → (settled : CircuitRun) → settled ≡ record given { settled = true; steps = steps } → settled.circuit ≡ c
settled_circuit c r given steps input circuit same settled is = ap (λ (q : CircuitRun). q.circuit) is ∙ (ap (λ (q : CircuitRun). q.circuit) same ∙ circuit)

pub settled_now : (c : Circuit) (r given : CircuitRun) (steps : ℕ) (input : List Bool) → IsCircuit c → r.circuit ≡ c → length r.latches ≡ length c.latches → length input ≡ c.inputs
    → given ≡ record r { inputs = input; settled = false } → (settled : CircuitRun) → settled ≡ record given { settled = true; steps = steps } → IsFrameNow settled (frame_of c r.latches input)
settled_now c r given steps input valid circuit states many same settled is =
    subst (λ (q : CircuitRun). IsFrameNow q (frame_of c r.latches input)) (sym is)
    (subst (λ (q : CircuitRun). IsCircuitFrame q.circuit q.latches q.inputs (frame_of c r.latches input)) (sym same)
    (subst (λ (k : Circuit). IsCircuitFrame k r.latches input (frame_of c r.latches input)) (sym circuit) (frame_is c r.latches input valid states many)))

pub by_other : (b other : Bool) → other ≡ not b → b ≡ not other
by_other true other h = ap not (sym h)
by_other false other h = ap not (sym h)

-- what was computed is the frame that was played
pub is_played : (c : Circuit) (k : ℕ) (state input : List Bool) (frames : ℕ) (breach : Option Violation) (begins : List Bool) (first : Option ℕ) (risen : Bool)
    → {state' : List Bool} {frames' : ℕ} {breach' : Option Violation} {first' : Option ℕ} {bad many unbroken : Bool}
    → state' ≡ next_latch_bits c (frame_of c state input) → frames' ≡ min (frames + 1) (2 ^ 64 - 1) → breach' ≡ option_or breach (violated_at frames (first_bit_violated c (frame_of c state input)) None)
    → first' ≡ option_or first (if bad && not many then Some frames else None)
    → bad ≡ literal_value (frame_of c state input) (get_or c.bads k 0) → many ≡ are_too_many frames → unbroken ≡ (is_none breach && all_hold c (frame_of c state input))
    → record { circuit = c; claim = k; state = state'; frames = frames'; breach = breach'; begins = begins; first = first'; risen = bad && unbroken }
    ≡ played (record { circuit = c; claim = k; state = state; frames = frames; breach = breach; begins = begins; first = first; risen = risen }) input
is_played c k state input frames breach begins first risen is_state is_frames is_breach is_first is_bad is_many is_unbroken =
    rw (is_state, is_frames, is_breach, is_first, is_bad, is_many, is_unbroken) refl
