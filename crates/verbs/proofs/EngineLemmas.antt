-- Bad properties of an engine form rise as those of a circuit, and of the model that it lowers.
use Rattle.std.proofs.Common.{◌≡◌, ◌↔◌, ℕ, ◌+◌, ◌<◌, List, length, Option, Some, None, Result, Ok, Err, OnOk}
use Rattle.std.specs.Io.KnownBytes.{Appends}
use Rattle.btor2.specs.declared.item.Item.{Item}
use Rattle.aiger.specs.Circuit.{Circuit}
use Rattle.aiger.specs.Reachability.{CanRiseInCircuit}
use Rattle.aigertext.specs.declared.forms.Form.{Form}
use Rattle.aigertext.specs.Binary.{circuit_text}
use Rattle.blast.specs.Lowering.{Lowers}
use Rattle.btor2.specs.Reachability.{CanRise}
use Rattle.full.specs.Runs.{CanRiseFull}
use Rattle.blast.specs.Refusal.{lowering_refusal}
use Rattle.engine_form.specs.EngineForm.{IsEngineFormOf}
use Rattle.engine_form.specs.Outputs.{HasOutputsAsBads, OutputCanBeOne}
use Rattle.verbs.specs.declared.refusals.Refusal.{Refusal}
use Rattle.btor2text.specs.Spelling.{IsModelOf}
use Rattle.aigertext.specs.Spelling.{IsCircuitText}
use Rattle.verbs.specs.Circuits.{ConvertsForEngines, LowersForEngines, RiseAlike, WritesEngineForm, WritesFittedCircuit, WritesFittedForm}
use Rattle.verbs.specs.Given.{LowersFitted}
use Rattle.verbs.specs.Outputs.{ConvertsOutputs, ConvertsOutputsForEngines}

-- the laws of engine forms: with all bad properties, and with a chosen one
abbrev pub AllRise : Type 0
AllRise = (c d : Circuit) (b : ℕ) → IsEngineFormOf c None d → CanRiseInCircuit c b ↔ CanRiseInCircuit d b

abbrev pub OneRises : Type 0
OneRises = (c d : Circuit) (b : ℕ) → IsEngineFormOf c (Some b) d → CanRiseInCircuit c b ↔ CanRiseInCircuit d 0

rise_alike : (choice : Option ℕ) (c d : Circuit) → AllRise → OneRises → IsEngineFormOf c choice d → RiseAlike (CanRiseInCircuit c) choice d
rise_alike None c d all one is_form = λ b. all c d b is_form
rise_alike (Some b) c d all one is_form = one c d b is_form

composed : {A B C : Type 0} → A ↔ B → B ↔ C → A ↔ C
composed f g = ((λ a. g.0 (f.0 a)), (λ c. f.1 (g.1 c)))

-- properties that rise as those of a circuit rise as those of its engine form
behind : (can_rise : ℕ → Type 0) (choice : Option ℕ) (c d : Circuit) → ((b : ℕ) → can_rise b ↔ CanRiseInCircuit c b) → RiseAlike (CanRiseInCircuit c) choice d → RiseAlike can_rise choice d
behind can_rise None c d first next = λ b. composed (first b) (next b)
behind can_rise (Some b) c d first next = composed (first b) next

pub converted : (r : Result (Unit {0}) Refusal) (known before now : Option (List ℕ)) (form : Form) (choice : Option ℕ) (c : Circuit)
    → IsCircuitText known c → AllRise → OneRises → OnOk r (WritesEngineForm c choice before now form) → OnOk r (ConvertsForEngines known before now form choice)
converted (Ok x) known before now form choice c text all one w = record {
  original = c;
  circuit = w.circuit;
  text = text;
  is_form = w.is_form;
  rise_alike = rise_alike choice c w.circuit all one w.is_form;
  appends = w.appends;
}
converted (Err e) known before now form choice c text all one w = w

pub lowered : (r : Result (Unit {0}) Refusal) (known before now : Option (List ℕ)) (form : Form) (choice : Option ℕ) (items : List Item) (c : Circuit)
    → IsModelOf known items → lowering_refusal items ≡ None → Lowers items c → ((b : ℕ) → CanRise items b ↔ CanRiseInCircuit c b) → AllRise → OneRises
    → OnOk r (WritesEngineForm c choice before now form) → OnOk r (LowersForEngines known before now form choice)
lowered (Ok x) known before now form choice items c text accepted lowers rise all one w = record {
  items = items;
  lowered = c;
  circuit = w.circuit;
  text = text;
  accepted = accepted;
  lowers = lowers;
  is_form = w.is_form;
  rise_alike = behind (CanRise items) choice c w.circuit rise (rise_alike choice c w.circuit all one w.is_form);
  appends = w.appends;
}
lowered (Err e) known before now form choice items c text accepted lowers rise all one w = w

-- ---- outputs as bad properties

-- the laws of them: those that were outputs rise where these can be 1, and the others where they could
abbrev pub OutputsRise : Type 0
OutputsRise = (c d : Circuit) → HasOutputsAsBads c d → (k : ℕ) → OutputCanBeOne c k ↔ CanRiseInCircuit d (length c.bads + k)

abbrev pub BadsRise : Type 0
BadsRise = (c d : Circuit) → HasOutputsAsBads c d → (b : ℕ) → b < length c.bads → CanRiseInCircuit c b ↔ CanRiseInCircuit d b

pub outputs_converted : (r : Result (Unit {0}) Refusal) (known before now : Option (List ℕ)) (form : Form) (c made : Circuit)
    → IsCircuitText known c → HasOutputsAsBads c made → OutputsRise → BadsRise → OnOk r (Appends before now (circuit_text form made)) → OnOk r (ConvertsOutputs known before now form)
outputs_converted (Ok x) known before now form c made text outputs rise others appends = record {
  original = c;
  circuit = made;
  text = text;
  outputs = outputs;
  rise = record { outputs = rise c made outputs; bads = others c made outputs };
  appends = appends;
}
outputs_converted (Err e) known before now form c made text outputs rise others appends = appends

pub outputs_for_engines : (r : Result (Unit {0}) Refusal) (known before now : Option (List ℕ)) (form : Form) (choice : Option ℕ) (c made : Circuit)
    → IsCircuitText known c → HasOutputsAsBads c made → OutputsRise → BadsRise → AllRise → OneRises → OnOk r (WritesEngineForm made choice before now form)
    → OnOk r (ConvertsOutputsForEngines known before now form choice)
outputs_for_engines (Ok x) known before now form choice c made text outputs rise others all one w = record {
  original = c;
  made = made;
  circuit = w.circuit;
  text = text;
  outputs = outputs;
  rise = record { outputs = rise c made outputs; bads = others c made outputs };
  is_form = w.is_form;
  rise_alike = rise_alike choice made w.circuit all one w.is_form;
  appends = w.appends;
}
outputs_for_engines (Err e) known before now form choice c made text outputs rise others all one w = w

-- ---- models that are fitted

-- properties that rise as those of a model that a circuit lowers rise as those of the circuit
fitted_alike : (known : Option (List ℕ)) (c : Circuit) (l : LowersFitted known c) → ((b : ℕ) → CanRise l.narrow b ↔ CanRiseInCircuit c b) → (b : ℕ) → CanRiseFull l.fits.lines b ↔ CanRiseInCircuit c b
fitted_alike known c l rise = λ b. composed (l.fits.rise_alike b) (rise b)

pub fitted_written : (r : Result (Unit {0}) Refusal) (known before now : Option (List ℕ)) (form : Form) (c : Circuit) → (l : LowersFitted known c) → ((b : ℕ) → CanRise l.narrow b ↔ CanRiseInCircuit c b)
    → OnOk r (Appends before now (circuit_text form c)) → OnOk r (WritesFittedCircuit known before now form)
fitted_written (Ok x) known before now form c l rise appends = record { circuit = c; lowers = l; rise_alike = fitted_alike known c l rise; appends = appends }
fitted_written (Err e) known before now form c l rise appends = appends

pub fitted_for_engines : (r : Result (Unit {0}) Refusal) (known before now : Option (List ℕ)) (form : Form) (choice : Option ℕ) (c : Circuit) → (l : LowersFitted known c)
    → ((b : ℕ) → CanRise l.narrow b ↔ CanRiseInCircuit c b) → AllRise → OneRises → OnOk r (WritesEngineForm c choice before now form) → OnOk r (WritesFittedForm known before now form choice)
fitted_for_engines (Ok x) known before now form choice c l rise all one w = record {
  lowered = c;
  circuit = w.circuit;
  lowers = l;
  is_form = w.is_form;
  rise_alike = behind (CanRiseFull l.fits.lines) choice c w.circuit (fitted_alike known c l rise) (rise_alike choice c w.circuit all one w.is_form);
  appends = w.appends;
}
fitted_for_engines (Err e) known before now form choice c l rise all one w = w
