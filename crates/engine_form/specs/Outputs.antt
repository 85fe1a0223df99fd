-- A circuit whose outputs are bad properties ("AIGER 1.9 and Beyond", bad state properties: files of before that version have outputs in their place; and the symbol table).
use Rattle.std.specs.Prelude.{◌≡◌, ◌≢◌, ℕ, ◌+◌, ◌<◌, Bool, true, false, ◌&&◌, ◌||◌, List, [], ◌∷◌, ◌++◌, length, map, Option, None, Some, slice_get, unwrap_or, nat_lt, if◌then◌else◌}
use Rattle.std.specs.List.{list_all}
use Rattle.aiger.specs.declared.circuit.Section.{Section}
use Rattle.aiger.specs.declared.circuit.Section.TheVariants.{Output, Bad}
use Rattle.aiger.specs.declared.fault.CircuitFault.{CircuitFault}
use Rattle.aiger.specs.declared.fault.CircuitFault.TheVariants.{TooBig}
use Rattle.aiger.specs.Limits.{greatest_count}
use Rattle.base.specs.Literal.{Valuation, literal_value}
use Rattle.aiger.specs.Circuit.{Circuit, IsCircuit, section_count, name_of}
use Rattle.aiger.specs.Trace.{AreInitial, IsCircuitTrace}

-- a circuit has the outputs of another one as bad properties, and is else the same
pub record HasOutputsAsBads (c d : Circuit) : Type 0 where
  pub original : IsCircuit c
  pub circuit : IsCircuit d
  -- inputs, latches with their resets, gates, constraints, justice and fairness are the same
  pub inputs : d.inputs ≡ c.inputs
  pub latches : d.latches ≡ c.latches
  pub gates : d.gates ≡ c.gates
  pub constraints : d.constraints ≡ c.constraints
  pub justice : d.justice ≡ c.justice
  pub fair : d.fair ≡ c.fair
  -- the bad properties are those that there were, and behind them the outputs; there are no outputs any more
  pub bads : d.bads ≡ c.bads ++ c.outputs
  pub no_outputs : d.outputs ≡ []
  -- what is no output has the name that it had, or none, and a bad property that was an output has that of the output
  pub names : (s : Section) (k : ℕ) → s ≢ Output → k < section_count s c → name_of d s k ≡ name_of c s k
  pub output_names : (k : ℕ) → k < length c.outputs → name_of d Bad (length c.bads + k) ≡ name_of c Output k

-- the only refusal but want of memory: bad properties and outputs are together more than a circuit may have of the first
abbrev pub outputs_refusal : Circuit → Option CircuitFault
outputs_refusal c = if nat_lt greatest_count (length c.bads + length c.outputs) then Some TooBig else None

-- the bit of the output at a position
abbrev pub output_bit : Circuit → ℕ → Valuation → Bool
output_bit c k v = unwrap_or (slice_get (map (literal_value v) c.outputs) k) false

-- in one of some frames the output with a number, counted from 0, is 1, and in it and in each frame before it all constraints hold
abbrev pub is_one_within : Circuit → ℕ → List Valuation → Bool
is_one_within c k [] = false
is_one_within c k (v ∷ more) = list_all (literal_value v) c.constraints && (output_bit c k v || is_one_within c k more)

-- an output of a circuit can be 1: it is in a frame of a trace from initial bits that agree with the resets, up to which the constraints hold
pub record OutputCanBeOne (c : Circuit) (k : ℕ) : Type 0 where
  pub state : List Bool
  pub inputs : List (List Bool)
  pub frames : List Valuation
  pub initial : AreInitial c.latches state
  pub trace : IsCircuitTrace c state inputs frames
  pub one : is_one_within c k frames ≡ true
