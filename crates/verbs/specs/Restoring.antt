-- What is restored to a witness of a circuit.
use Rattle.std.specs.Prelude.{◌≡◌, ℕ, List, Option, None, Some, IfSome, Result, Ok, Err}
use Rattle.std.specs.Io.KnownBytes.{Appends}
use Rattle.aiger.specs.Circuit.{Circuit, IsCircuit}
use Rattle.aigertext.specs.Spelling.{IsCircuitText}
use Rattle.engine_form.specs.EngineForm.{IsEngineFormOf, input_count}
use Rattle.engine_form.specs.Refusal.{engine_refusal}
use Rattle.restore.specs.Accepted.{FindsAgain}
use Rattle.restore.specs.FormWitness.{form_restored_text, FindsWitnessAgain, FormJudges}
use Rattle.restore.specs.Reading.{read_found}
use Rattle.restore.specs.Restored.{restored_text}
use Rattle.restore.specs.declared.fault.RestoreFault.{RestoreFault}
use Rattle.witness.specs.BitJudgements.{BitJudges}
use Rattle.witness.specs.declared.judgement.Judgement.{Judgement}
use Rattle.verbs.specs.Claims.{IsClaim}
use Rattle.verbs.specs.declared.restoring.FoundRestored.{FoundRestored}
use Rattle.verbs.specs.declared.restoring.Restored.{Restored}

-- no line of a counterexample over the engine form of a circuit is faulty, and what it is restored to is judged so over the circuit: accepted, where the form's bad property is 1
pub record IsJudgedRestored (c : Circuit) (claim : ℕ) (found : List ℕ) (j : Judgement) : Type 0 where
  pub right : (read_found (input_count c) found).fault ≡ None
  pub judged : BitJudges c (restored_text c claim found) j
  pub again : FindsAgain c claim found j

-- what is told of a counterexample: how it is judged, or its first faulty line
abbrev pub IsToldOf : Circuit → ℕ → List ℕ → Result Judgement RestoreFault → Type 0
IsToldOf c claim found (Ok j) = IsJudgedRestored c claim found j
IsToldOf c claim found (Err e) = (read_found (input_count c) found).fault ≡ Some e

-- The first text is of a circuit that has an engine form for the bad property that is claimed; what was written is what the second, a counterexample over that form, is restored to; and this is told of it.
pub record IsFoundRestored (choice : Option ℕ) (circuit found before now : Option (List ℕ)) (r : FoundRestored) : Type 0 where
  pub is_circuit : IsCircuit r.circuit
  pub text : IsCircuitText circuit r.circuit
  pub is_claim : IsClaim choice r.circuit r.claim
  pub accepted : engine_refusal r.circuit (Some r.claim) ≡ None
  pub restored : IfSome found (λ text. Appends before now (restored_text r.circuit r.claim text))
  pub told : IfSome found (λ text. IsToldOf r.circuit r.claim text r.told)

-- The first text is of a circuit that has an engine form, with all its bad properties or the chosen one; what was written is what the second, a witness of that form, is restored to; and it is judged so: accepted, where it is so over the form.
pub record IsFormRestored (choice : Option ℕ) (circuit witness before now : Option (List ℕ)) (r : Restored) : Type 0 where
  pub is_circuit : IsCircuit r.circuit
  pub text : IsCircuitText circuit r.circuit
  pub form : Circuit
  pub is_form : IsEngineFormOf r.circuit choice form
  pub restored : IfSome witness (λ text. Appends before now (form_restored_text r.circuit choice form text))
  pub judged : IfSome witness (λ text. FormJudges r.circuit choice form text r.judgement)
  pub again : IfSome witness (FindsWitnessAgain r.circuit choice form)
