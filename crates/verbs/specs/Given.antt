-- The circuit that a first text gives.
use Rattle.std.specs.Prelude.{◌≡◌, ℕ, List, Option, None, Some, IfSome}
use Rattle.btor2.specs.declared.item.Item.{Item}
use Rattle.btor2.specs.Reachability.{CanRise}
use Rattle.full.specs.Runs.{CanRiseFull}
use Rattle.btor2text.specs.Spelling.{IsModelOf}
use Rattle.aiger.specs.Circuit.{Circuit, IsCircuit}
use Rattle.aiger.specs.Reachability.{CanRiseInCircuit}
use Rattle.aigertext.specs.Numbering.{IsNumberingOfText}
use Rattle.aigertext.specs.Spelling.{IsCircuitText}
use Rattle.blast.specs.Lowering.{Lowers}
use Rattle.blast.specs.Refusal.{lowering_refusal}
use Rattle.invocation.specs.declared.tasks.Given.{Given}
use Rattle.invocation.specs.declared.tasks.Given.TheVariants as given
use Rattle.verbs.specs.declared.given.GivenCircuit.{GivenCircuit}
use Rattle.verbs.specs.declared.given.GivenModel.{GivenModel}
use Rattle.verbs.specs.declared.given.GivenModel.TheVariants as given_model
use Rattle.verbs.specs.declared.given.Lowered.{Lowered}
use Rattle.verbs.specs.Fitting.{FitsFirst}

-- the first text is of a model against which nothing speaks, and a circuit lowers it
pub record LowersFirst (first : Option (List ℕ)) (c : Circuit) : Type 0 where
  pub items : List Item
  pub text : IsModelOf first items
  pub accepted : lowering_refusal items ≡ None
  pub lowers : Lowers items c

-- the first text is fitted into a model against which nothing speaks, and a circuit lowers that
pub record LowersFitted (first : Option (List ℕ)) (c : Circuit) : Type 0 where
  pub narrow : List Item
  pub fits : FitsFirst first narrow
  pub accepted : lowering_refusal narrow ≡ None
  pub lowers : Lowers narrow c

-- the circuit that the first text gives: one that lowers its model, or the model that this is fitted into, or its own
abbrev pub GivesItsCircuit : Given → Option (List ℕ) → Circuit → Type 0
GivesItsCircuit given.Model first c = LowersFirst first c
GivesItsCircuit given.Fitted first c = LowersFitted first c
GivesItsCircuit given.Circuit first c = IsCircuit c × IsCircuitText first c

-- a bad property of what the first text gives, of the model or of the circuit, rises in no frame up to which its constraints hold
abbrev pub NeverRises : (g : Given) → (first : Option (List ℕ)) → (c : Circuit) → GivesItsCircuit g first c → ℕ → Type 0
NeverRises given.Model first c gives k = ¬ CanRise gives.items k
NeverRises given.Fitted first c gives k = ¬ CanRiseFull gives.fits.lines k
NeverRises given.Circuit first c gives k = ¬ CanRiseInCircuit c k

-- the numbering of the file of the circuit that the first text gives, by which the names of a witness circuit speak: where it lowers a model, the circuit's own
abbrev pub IsGivenNumbering : Given → Option (List ℕ) → Circuit → Option (List ℕ) → Type 0
IsGivenNumbering given.Model first c n = n ≡ None
IsGivenNumbering given.Fitted first c n = n ≡ None
IsGivenNumbering given.Circuit first c n = IfSome first (λ text. IsNumberingOfText text c n)

-- the model of the first text, where it is of one
abbrev pub HasItsModel : (g : Given) → (first : Option (List ℕ)) → (c : Circuit) → GivesItsCircuit g first c → Option GivenModel → Type 0
HasItsModel given.Model first c gives m = m ≡ Some (given_model.Profile gives.items)
HasItsModel given.Fitted first c gives m = m ≡ Some (given_model.Whole gives.fits.lines)
HasItsModel given.Circuit first c gives m = m ≡ None

-- what was read is what the first text gives: its circuit, the numbering of that, and the model
pub record IsGiven (g : Given) (first : Option (List ℕ)) (r : GivenCircuit) : Type 0 where
  pub gives : GivesItsCircuit g first r.circuit
  pub is_numbering : IsGivenNumbering g first r.circuit r.numbering
  pub model : HasItsModel g first r.circuit gives r.model

-- a first text is of a model against which nothing speaks, and this is that, with a circuit that lowers it
pub record IsLowered (first : Option (List ℕ)) (r : Lowered) : Type 0 where
  pub text : IsModelOf first r.model
  pub accepted : lowering_refusal r.model ≡ None
  pub lowers : Lowers r.model r.circuit

-- the first text is fitted into a model against which nothing speaks, and this is that, with a circuit that lowers it
pub record IsLoweredFitted (first : Option (List ℕ)) (r : Lowered) : Type 0 where
  pub fits : FitsFirst first r.model
  pub accepted : lowering_refusal r.model ≡ None
  pub lowers : Lowers r.model r.circuit
