-- What is written of a circuit with its outputs as bad properties, and what is refused.
use Rattle.std.specs.Prelude.{◌≡◌, ◌↔◌, ℕ, ◌+◌, ◌<◌, List, length, Option, Some}
use Rattle.std.specs.Io.KnownBytes.{Appends}
use Rattle.aiger.specs.Circuit.{Circuit}
use Rattle.aiger.specs.Reachability.{CanRiseInCircuit}
use Rattle.aiger.specs.declared.fault.CircuitFault.{CircuitFault}
use Rattle.aigertext.specs.declared.forms.Form.{Form}
use Rattle.aigertext.specs.Binary.{circuit_text}
use Rattle.engine_form.specs.EngineForm.{IsEngineFormOf}
use Rattle.engine_form.specs.Outputs.{HasOutputsAsBads, OutputCanBeOne, outputs_refusal}
use Rattle.engine_form.specs.Refusal.{engine_refusal}
use Rattle.engine_form.specs.declared.fault.EngineFault.{EngineFault}
use Rattle.verbs.specs.declared.refusals.Fault.{Fault}
use Rattle.verbs.specs.declared.refusals.Fault.TheVariants as fault
use Rattle.aigertext.specs.Spelling.{IsCircuitText}
use Rattle.verbs.specs.Circuits.{RiseAlike}
use Rattle.verbs.specs.Refusals.{IsNoCircuit}

-- ---- what is done

-- the bad properties behind those that there were can rise exactly where the outputs can be 1, and each of those that there were exactly where it could
pub record RiseAsOutputs (original made : Circuit) : Type 0 where
  pub outputs : (k : ℕ) → OutputCanBeOne original k ↔ CanRiseInCircuit made (length original.bads + k)
  pub bads : (b : ℕ) → b < length original.bads → CanRiseInCircuit original b ↔ CanRiseInCircuit made b

-- All that was to come is a text of some circuit, and what was written is the text of that with its outputs as bad properties, which can rise exactly where the outputs can be 1.
pub record ConvertsOutputs (known before now : Option (List ℕ)) (form : Form) : Type 0 where
  pub original : Circuit
  pub circuit : Circuit
  pub text : IsCircuitText known original
  pub outputs : HasOutputsAsBads original circuit
  pub rise : RiseAsOutputs original circuit
  pub appends : Appends before now (circuit_text form circuit)

-- The same, and what was written is the text of an engine form of it, whose bad properties can rise exactly where its can.
pub record ConvertsOutputsForEngines (known before now : Option (List ℕ)) (form : Form) (choice : Option ℕ) : Type 0 where
  pub original : Circuit
  pub made : Circuit
  pub circuit : Circuit
  pub text : IsCircuitText known original
  pub outputs : HasOutputsAsBads original made
  pub rise : RiseAsOutputs original made
  pub is_form : IsEngineFormOf made choice circuit
  pub rise_alike : RiseAlike (CanRiseInCircuit made) choice circuit
  pub appends : Appends before now (circuit_text form circuit)

-- ---- what is refused

-- a circuit has more bad properties and outputs than a circuit may have bad properties
abbrev pub HasTooManyOutputs : Circuit → Fault → Type 0
HasTooManyOutputs c (fault.Outputs e) = outputs_refusal c ≡ Some e
HasTooManyOutputs c _ = ⊥

-- the first text is of one that has
pub record GivesTooManyOutputs (known : Option (List ℕ)) (e : CircuitFault) : Type 0 where
  pub circuit : Circuit
  pub text : IsCircuitText known circuit
  pub refused : outputs_refusal circuit ≡ Some e

-- the first text is no circuit, or is of one that has
abbrev pub IsNotWithOutputs : Option (List ℕ) → Fault → Type 0
IsNotWithOutputs known (fault.Outputs e) = GivesTooManyOutputs known e
IsNotWithOutputs known f = IsNoCircuit known f

-- the first text is of a circuit, and this is the first that speaks against an engine form of it with its outputs as bad properties
pub record GivesOutputsWithoutForm (choice : Option ℕ) (known : Option (List ℕ)) (e : EngineFault) : Type 0 where
  pub circuit : Circuit
  pub made : Circuit
  pub text : IsCircuitText known circuit
  pub outputs : HasOutputsAsBads circuit made
  pub first : engine_refusal made choice ≡ Some e

-- the first text is no circuit, or is of one whose outputs are not taken so, or that has no such engine form then
abbrev pub IsNotWithOutputsForEngines : Option ℕ → Option (List ℕ) → Fault → Type 0
IsNotWithOutputsForEngines choice known (fault.Engine e) = GivesOutputsWithoutForm choice known e
IsNotWithOutputsForEngines choice known f = IsNotWithOutputs known f
