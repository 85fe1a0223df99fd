-- One meaning of "reached": in a model, in the circuit that it is lowered to, in the engine form of that, by texts that are accepted, and by certificates.
use Rattle.std.specs.Prelude.{◌↔◌, ℕ, ◌≤◌, List, Option, length}
use Rattle.btor2.specs.declared.item.Item.{Item}
use Rattle.btor2.specs.Reachability.{CanRise}
use Rattle.aiger.specs.Circuit.{Circuit}
use Rattle.aiger.specs.Reachability.{CanRiseInCircuit}
use Rattle.drup.specs.declared.judgement.Judgement.TheVariants as verdict
use Rattle.certificates.specs.declared.proof_form.ProofForm.{ProofForm}
use Rattle.certificates.specs.Certificates.{IsCertified}
use Rattle.restore.specs.Counterexample.{place_in}
use Rattle.reached.specs.Accepted.{IsAcceptedFor, IsAcceptedForCircuit}

-- a bad property of a model, or of a circuit, can rise in a trace of so many frames at most
abbrev pub RisesBy : List Item → ℕ → ℕ → Type 0
RisesBy items k most = (h : CanRise items k) × (length h.frames ≤ most)

abbrev pub RisesInCircuitBy : Circuit → ℕ → ℕ → Type 0
RisesInCircuitBy c k most = (h : CanRiseInCircuit c k) × (length h.frames ≤ most)

-- some text that claims it is accepted over the model, or over the circuit, with so many frames at most
abbrev pub IsAcceptedBy : List Item → ℕ → ℕ → Type 0
IsAcceptedBy items k most = (text : List ℕ) × (a : IsAcceptedFor items text k) × (a.frames ≤ most)

abbrev pub IsAcceptedInCircuitBy : Circuit → ℕ → ℕ → Type 0
IsAcceptedInCircuitBy c k most = (text : List ℕ) × (a : IsAcceptedForCircuit c text k) × (a.frames ≤ most)

-- That bad property k of a model can rise, in so many frames at most, is the same as that it can in its circuit, that it can in the engine form of that, where
-- it has its place, and that a text is accepted over each of the three. And where a certificate of it is derived, none of this is so, in any number of frames.
pub record IsOneMeaning (items : List Item) (c : Circuit) (choice : Option ℕ) (d : Circuit) (k most : ℕ) : Type 0 where
  pub circuit : RisesBy items k most ↔ RisesInCircuitBy c k most
  pub form : RisesBy items k most ↔ RisesInCircuitBy d (place_in choice k) most
  pub text : RisesBy items k most ↔ IsAcceptedBy items k most
  pub circuit_text : RisesBy items k most ↔ IsAcceptedInCircuitBy c k most
  pub form_text : RisesBy items k most ↔ IsAcceptedInCircuitBy d (place_in choice k) most
  pub certificate : (form : ProofForm) (invariant proof : Option (List ℕ)) (line : ℕ) → IsCertified c k form invariant proof (verdict.Derived line) → ¬ CanRise items k

-- That bad property k of a model with words of any width can rise, in so many frames at most, is the same as that it can in the model that it is fitted into, for
-- which there is one meaning. And where a certificate of it is derived, it can in no number of frames.
pub record IsOneMeaningOfFitted (wide items : List Item) (c : Circuit) (choice : Option ℕ) (d : Circuit) (k most : ℕ) : Type 0 where
  pub model : RisesBy wide k most ↔ RisesBy items k most
  pub fitted : IsOneMeaning items c choice d k most
  pub certificate : (form : ProofForm) (invariant proof : Option (List ℕ)) (line : ℕ) → IsCertified c k form invariant proof (verdict.Derived line) → ¬ CanRise wide k
