-- Traces of a circuit ("AIGER 1.9 and Beyond", semantics: latches begin at their resets and take their next literals' bits).
use Rattle.std.specs.Prelude.{◌≡◌, ℕ, ◌≤◌, Bool, true, false, List, [], ◌∷◌, map}
use Rattle.std.specs.List.{AllZip}
use Rattle.aiger.specs.declared.circuit.Latch.{Latch}
use Rattle.aiger.specs.declared.circuit.Reset.{Reset}
use Rattle.aiger.specs.declared.circuit.Reset.TheVariants.{Zero, One, Free}
use Rattle.base.specs.Literal.{Valuation, literal_value}
use Rattle.aiger.specs.Net.{variables, Satisfies, net_input_bits, latch_bits}
use Rattle.aiger.specs.Circuit.{Circuit, net}

-- a frame from these latch bits and input bits: a valuation that satisfies the gates and has them
pub record IsCircuitFrame (c : Circuit) (state : List Bool) (input : List Bool) (v : Valuation) : Type 0 where
  pub gates : Satisfies (net c) v
  pub inputs : net_input_bits (net c) v ≡ input
  pub latches : latch_bits (net c) v ≡ state

-- the latches' bits in the frame after v: those of their next literals
abbrev pub next_latch_bits : Circuit → Valuation → List Bool
next_latch_bits c v = map (λ latch. literal_value v latch.next) c.latches

-- a trace: as many frames as input frames, each from the state that the one before leaves
abbrev pub IsCircuitTrace : Circuit → List Bool → List (List Bool) → List Valuation → Type 0
IsCircuitTrace c state [] [] = Unit {0}
IsCircuitTrace c state [] (v ∷ vs) = ⊥
IsCircuitTrace c state (input ∷ inputs) [] = ⊥
IsCircuitTrace c state (input ∷ inputs) (v ∷ vs) = IsCircuitFrame c state input v × IsCircuitTrace c (next_latch_bits c v) inputs vs

-- a first bit agrees with a reset
abbrev pub AgreesWithReset : Reset → Bool → Type 0
AgreesWithReset Zero b = b ≡ false
AgreesWithReset One b = b ≡ true
AgreesWithReset Free b = Unit {0}

-- initial bits: one for each latch, and each agrees with its reset
abbrev pub AreInitial : List Latch → List Bool → Type 0
AreInitial latches bits = AllZip (λ (l : Latch) b. AgreesWithReset l.reset b) latches bits

-- two valuations say the same of each variable of a circuit
abbrev pub SameCircuitFrame : Circuit → Valuation → Valuation → Type 0
SameCircuitFrame c v w = (k : ℕ) → 1 ≤ k → k ≤ variables (net c) → v k ≡ w k

-- two traces are as long, and say the same in each frame
abbrev pub SameCircuitTrace : Circuit → List Valuation → List Valuation → Type 0
SameCircuitTrace c vs ws = AllZip (SameCircuitFrame c) vs ws
