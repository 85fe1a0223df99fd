-- The frames of a witness of a circuit, played one after the other while its lines are read: what is kept of them, and which lines it is of.
use Rattle.std.specs.Prelude.{◌≡◌, ℕ, ◌+◌, ◌*◌, Bool, false, not, List, [], ◌∷◌, Option, None, length, slice_index}
use Rattle.std.specs.List.{list_any, position_from}
use Rattle.base.specs.Literal.{Valuation, literal_value}
use Rattle.aiger.specs.Circuit.{Circuit}
use Rattle.aiger.specs.Trace.{IsCircuitTrace, next_latch_bits}
use Rattle.runs.specs.Run.{more_steps}
use Rattle.runs.specs.CircuitRun.{circuit_start, settle_steps}
use Rattle.witness.specs.declared.bit_play.BitPlay.{BitPlay}
use Rattle.witness.specs.BitJudgements.{first_reset_differing}
use Rattle.witness.specs.Fits.{breach_from}

-- nothing is read
abbrev pub play_start : Circuit → BitPlay
play_start c = record { run = circuit_start c; differs = None; frames = 0; breach = None; rose = false }

-- the steps of one frame, and of so many
abbrev pub bit_frame_steps : Circuit → ℕ
bit_frame_steps c = settle_steps c + length c.latches

abbrev pub bit_steps_of : Circuit → ℕ → ℕ
bit_steps_of c frames = more_steps (frames * bit_frame_steps c) 0

-- the bits that the latches have behind the frames of a trace
abbrev pub state_behind : Circuit → List Bool → List Valuation → List Bool
state_behind c state [] = state
state_behind c state (v ∷ vs) = state_behind c (next_latch_bits c v) vs

-- the first constraint that does not hold in a frame
abbrev pub first_bit_violated : Circuit → Valuation → Option ℕ
first_bit_violated c v = position_from (λ l. not (literal_value v l)) 0 c.constraints

-- a bad property is 1 in one of some frames
abbrev pub bit_rises : Circuit → ℕ → List Valuation → Bool
bit_rises c k vs = list_any (λ v. literal_value v (slice_index c.bads k)) vs

-- what a trace says of what is kept
pub record TracedBits (c : Circuit) (claim : ℕ) (initial : List Bool) (p : BitPlay) (vs : List Valuation) : Type 0 where
  pub latches : p.run.latches ≡ state_behind c initial vs
  pub breach : p.breach ≡ breach_from (first_bit_violated c) 0 vs
  pub rose : p.rose ≡ bit_rises c claim vs

-- these frames are closed
pub record PlaysBits (c : Circuit) (claim : ℕ) (initial : List Bool) (frames : List (List Bool)) (p : BitPlay) : Type 0 where
  pub run : p.run.circuit ≡ c
  pub differs : p.differs ≡ first_reset_differing 0 c.latches initial
  pub count : p.frames ≡ length frames
  pub steps : p.run.steps ≡ bit_steps_of c (length frames)
  pub traced : (vs : List Valuation) → IsCircuitTrace c initial frames vs → TracedBits c claim initial p vs
