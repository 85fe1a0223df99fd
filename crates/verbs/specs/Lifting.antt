-- What is lifted to a witness of a model.
use Rattle.std.specs.Prelude.{◌≡◌, ℕ, Bool, true, List, Option, None, Some, IfSome, Ok, IfErr}
use Rattle.std.specs.Io.KnownBytes.{Appends}
use Rattle.aiger.specs.Circuit.{Circuit}
use Rattle.btor2.specs.declared.item.Item.{Item}
use Rattle.witness.specs.declared.judgement.Judgement.{Judgement}
use Rattle.engine_form.specs.EngineForm.{IsEngineFormOf}
use Rattle.engine_form.specs.Refusal.{engine_refusal}
use Rattle.lift.specs.EngineLifting.{LiftsForm, LiftsRestored}
use Rattle.lift.specs.Lifted.{lifted_with}
use Rattle.lift.specs.Verdicts.{KeepsVerdictIn}
use Rattle.restore.specs.Faults.{is_of_text}
use Rattle.rises.specs.FirstRises.{AreBitFirstRises}
use Rattle.witness.specs.BitJudgements.{BitJudges}
use Rattle.verbs.specs.Claims.{CanBeClaimed, IsClaim}
use Rattle.verbs.specs.Given.{IsLowered}
use Rattle.verbs.specs.declared.lifting.FoundLifted.{FoundLifted}
use Rattle.verbs.specs.declared.lifting.Lifted.{Lifted}

-- A witness of the circuit of a model is judged so over that; what was written is what it is lifted to, with names or without, of which the same verdict is judged over the model; and with names these are the first rises.
pub record LiftsWitness (named : Bool) (items : List Item) (c : Circuit) (witness before now : Option (List ℕ)) (verdict : Judgement) (firsts : List (Option ℕ)) : Type 0 where
  pub judged : IfSome witness (λ text. BitJudges c text verdict)
  pub rises : named ≡ true → IfSome witness (λ text. AreBitFirstRises c text firsts)
  pub lifted : IfSome witness (λ text. Appends before now (lifted_with named items c text))
  pub kept : IfSome witness (λ text. KeepsVerdictIn items c text (lifted_with named items c text) verdict)

-- The first text is of a model, which a circuit lowers of which a witness can claim a bad property that was meant; and the second is lifted so.
pub record IsLifted (named : Bool) (model witness before now : Option (List ℕ)) (r : Lifted) : Type 0 where
  pub lowered : IsLowered model r.lowered
  pub claimable : CanBeClaimed r.lowered.circuit
  pub lifts : LiftsWitness named r.lowered.model r.lowered.circuit witness before now r.judgement r.firsts

-- The first text is of a model, which a circuit lowers that has an engine form for the bad property that is claimed; and the second, a counterexample over that form, is lifted so, or its first faulty line is told, and what those before it give is lifted.
pub record IsFoundLifted (named : Bool) (choice : Option ℕ) (model found before now : Option (List ℕ)) (r : FoundLifted) : Type 0 where
  pub lowered : IsLowered model r.lowered
  pub is_claim : IsClaim choice r.lowered.circuit r.claim
  pub accepted : engine_refusal r.lowered.circuit (Some r.claim) ≡ None
  pub line : IfErr r.told (λ e. is_of_text e.why ≡ true)
  pub lifts : LiftsRestored r.told named r.lowered.model r.lowered.circuit r.claim found before now

-- The first text is of a model, which a circuit lowers that has an engine form, with all its bad properties or the chosen one; and the second, a witness of that form, is lifted so.
pub record IsFormLifted (named : Bool) (choice : Option ℕ) (model witness before now : Option (List ℕ)) (r : Lifted) : Type 0 where
  pub lowered : IsLowered model r.lowered
  pub form : Circuit
  pub is_form : IsEngineFormOf r.lowered.circuit choice form
  pub lifts : LiftsForm (Ok (r.judgement, r.firsts)) named r.lowered.model r.lowered.circuit choice form witness before now
