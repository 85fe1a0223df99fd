-- What is written of circuits.
use Rattle.std.specs.Prelude.{◌≡◌, ◌↔◌, ℕ, List, Option, Some, None}
use Rattle.std.specs.Io.KnownBytes.{Appends}
use Rattle.btor2.specs.declared.item.Item.{Item}
use Rattle.btor2.specs.Check.{IsWellFormed}
use Rattle.btor2.specs.Reachability.{CanRise}
use Rattle.full.specs.Runs.{CanRiseFull}
use Rattle.btor2text.specs.Spelling.{IsModelOf}
use Rattle.aiger.specs.Circuit.{Circuit, IsCircuit}
use Rattle.aiger.specs.Reachability.{CanRiseInCircuit}
use Rattle.aigertext.specs.Binary.{circuit_text}
use Rattle.aigertext.specs.Spelling.{IsCircuitText}
use Rattle.aigertext.specs.declared.forms.Form.{Form}
use Rattle.blast.specs.Cost.{cost, bound}
use Rattle.blast.specs.Lowering.{Lowers}
use Rattle.blast.specs.Refusal.{lowering_refusal}
use Rattle.engine_form.specs.EngineForm.{IsEngineFormOf}
use Rattle.verbs.specs.declared.lowering.Cost.{Cost}
use Rattle.verbs.specs.Fitting.{FitsFirst}
use Rattle.verbs.specs.Given.{LowersFitted}

-- all that was to come is a text of some circuit, and what was written is the writer's text of it in a form
pub record Rewrites (known before now : Option (List ℕ)) (form : Form) : Type 0 where
  pub circuit : Circuit
  pub is_circuit : IsCircuit circuit
  pub text : IsCircuitText known circuit
  pub appends : Appends before now (circuit_text form circuit)

-- bad properties of a circuit can rise exactly where some can: each where that of the same position can, or, where one was chosen, the first where the chosen one can
abbrev pub RiseAlike : (ℕ → Type 0) → Option ℕ → Circuit → Type 0
RiseAlike can_rise None c = (b : ℕ) → can_rise b ↔ CanRiseInCircuit c b
RiseAlike can_rise (Some b) c = can_rise b ↔ CanRiseInCircuit c 0

-- what was written is the text of an engine form of a circuit
pub record WritesEngineForm (original : Circuit) (choice : Option ℕ) (before now : Option (List ℕ)) (form : Form) : Type 0 where
  pub circuit : Circuit
  pub is_form : IsEngineFormOf original choice circuit
  pub appends : Appends before now (circuit_text form circuit)

-- All that was to come is a text of some model that nothing speaks against, and what was written is the text of an engine form of a circuit that lowers it. Its bad properties can rise exactly where those of the model can.
pub record LowersForEngines (known before now : Option (List ℕ)) (form : Form) (choice : Option ℕ) : Type 0 where
  pub items : List Item
  pub lowered : Circuit
  pub circuit : Circuit
  pub text : IsModelOf known items
  pub accepted : lowering_refusal items ≡ None
  pub lowers : Lowers items lowered
  pub is_form : IsEngineFormOf lowered choice circuit
  pub rise_alike : RiseAlike (CanRise items) choice circuit
  pub appends : Appends before now (circuit_text form circuit)

-- All that was to come is a text of some circuit, and what was written is the text of an engine form of it. Its bad properties can rise exactly where those of the circuit can.
pub record ConvertsForEngines (known before now : Option (List ℕ)) (form : Form) (choice : Option ℕ) : Type 0 where
  pub original : Circuit
  pub circuit : Circuit
  pub text : IsCircuitText known original
  pub is_form : IsEngineFormOf original choice circuit
  pub rise_alike : RiseAlike (CanRiseInCircuit original) choice circuit
  pub appends : Appends before now (circuit_text form circuit)

-- all that was to come is a text of some model, and so many gates and variables its lowering has at most
pub record IsCost (known : Option (List ℕ)) (r : Cost) : Type 0 where
  pub items : List Item
  pub text : IsModelOf known items
  pub well_formed : IsWellFormed items
  pub gates : r.gates ≡ cost items
  pub variables : r.variables ≡ bound items

-- All that was to come is fitted into a model that nothing speaks against, and what was written is the text of a circuit that lowers that. Its bad properties can rise exactly where those can of the model of the whole language that the text stands for.
pub record WritesFittedCircuit (known before now : Option (List ℕ)) (form : Form) : Type 0 where
  pub circuit : Circuit
  pub lowers : LowersFitted known circuit
  pub rise_alike : RiseAlike (CanRiseFull lowers.fits.lines) None circuit
  pub appends : Appends before now (circuit_text form circuit)

-- The same of an engine form of such a circuit.
pub record WritesFittedForm (known before now : Option (List ℕ)) (form : Form) (choice : Option ℕ) : Type 0 where
  pub lowered : Circuit
  pub circuit : Circuit
  pub lowers : LowersFitted known lowered
  pub is_form : IsEngineFormOf lowered choice circuit
  pub rise_alike : RiseAlike (CanRiseFull lowers.fits.lines) choice circuit
  pub appends : Appends before now (circuit_text form circuit)

-- all that was to come is fitted into a model, and so many gates and variables the lowering of that has at most
pub record IsCostFitted (known : Option (List ℕ)) (r : Cost) : Type 0 where
  pub narrow : List Item
  pub fits : FitsFirst known narrow
  pub gates : r.gates ≡ cost narrow
  pub variables : r.variables ≡ bound narrow
