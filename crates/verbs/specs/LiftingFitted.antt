-- What is lifted to a witness of a model of the whole language: a witness of the model that this is fitted into, and what `unfit` makes of that.
use Rattle.std.specs.Prelude.{◌≡◌, ◌⊎◌, ℕ, Bool, true, List, [], Option, None, Some, IfSome, Result, Ok, Err, IfErr}
use Rattle.aiger.specs.Circuit.{Circuit}
use Rattle.engine_form.specs.EngineForm.{IsEngineFormOf}
use Rattle.engine_form.specs.Refusal.{engine_refusal}
use Rattle.fulltext.specs.Spelling.{StandsForFull}
use Rattle.lift.specs.EngineLifting.{LiftsForm, LiftsRestored}
use Rattle.lift.specs.declared.fault.LiftFault.{LiftFault}
use Rattle.lift.specs.declared.fault.LiftFault.TheVariants as lift
use Rattle.restore.specs.Faults.{is_of_text}
use Rattle.restore.specs.declared.fault.RestoreFault.{RestoreFault}
use Rattle.restore.specs.declared.fault.RestoreWhy.{RestoreWhy}
use Rattle.restore.specs.declared.fault.RestoreWhy.TheVariants as why
use Rattle.witness.specs.declared.judgement.Judgement.{Judgement}
use Rattle.witness.specs.declared.judgement.Judgement.TheVariants as judgement
use Rattle.verbs.specs.declared.lifting_fitted.FoundLiftedFitted.{FoundLiftedFitted}
use Rattle.verbs.specs.declared.lifting_fitted.LiftedFitted.{LiftedFitted}
use Rattle.verbs.specs.declared.refusals.Device.TheVariants as device
use Rattle.verbs.specs.declared.refusals.Refusal.{Refusal}
use Rattle.verbs.specs.declared.refusals.Refusal.TheVariants as refusal
use Rattle.verbs.specs.declared.refusals.Claimed.TheVariants as claimed
use Rattle.verbs.specs.declared.refusals.Fault.{Fault}
use Rattle.verbs.specs.Claims.{CanBeClaimed, IsClaim}
use Rattle.verbs.specs.Refusals.{IsUnclaimed, IsWithoutForm}
use Rattle.btor2.specs.declared.item.Item.{Item}
use Rattle.full.specs.Lines.{FullLine}
use Rattle.verbs.specs.declared.fits.LoweredFit.{LoweredFit}
use Rattle.verbs.specs.Fits.{UnfitsInto, UnfitsWith}
use Rattle.verbs.specs.Given.{LowersFitted}
use Rattle.verbs.specs.Lifting.{LiftsWitness}

-- what is told where this is judged over the circuit, and that of what was written over the model: the latter where the text is a witness
abbrev pub told_of : Judgement → Judgement → Judgement
told_of judgement.NoClaim j = judgement.NoClaim
told_of (judgement.Malformed line why) j = judgement.Malformed line why
told_of _ j = j

-- the same of a counterexample
abbrev pub told_with : Result (Judgement × List (Option ℕ)) RestoreFault → Judgement → Result (Judgement × List (Option ℕ)) RestoreFault
told_with (Ok found) j = Ok (told_of found.0 j, found.1)
told_with (Err e) j = Err e

-- why nothing is lifted to what is held, which can want memory alone
abbrev pub of_held_lift : LiftFault → Refusal
of_held_lift lift.Read = refusal.Failed device.Second
of_held_lift _ = refusal.NoMemory

abbrev pub of_held : RestoreWhy → Refusal
of_held why.Device = refusal.Failed device.Second
of_held _ = refusal.NoMemory

-- no bad property of a circuit is claimed by a counterexample; or this speaks against an engine form with the one that is
abbrev pub IsUnclaimedFound : Option ℕ → Circuit → Fault → Type 0
IsUnclaimedFound choice c f = ((choice ≡ None) × IsUnclaimed claimed.Found c f) ⊎ ((k : ℕ) × (IsClaim choice c k × IsWithoutForm c (Some k) f))

-- Of what is held, a witness of the model that a text is fitted into, what was written is the model's witness that says the same; and with what is judged of that this is told.
pub record UnfitsHeld {T : Type 0} (named : Bool) (lowered : LoweredFit) (held : List ℕ) (before now : Option (List ℕ)) (tells : Judgement → T) (told : T) : Type 0 where
  pub unfitted : Judgement
  pub unfits : UnfitsWith named lowered.text.items lowered.model lowered.fit held before now unfitted
  pub verdict : told ≡ tells unfitted

-- A witness of the circuit of the model that the first text is fitted into is judged over that, and lifted to a witness of the fitted model; what was written is what `unfit` makes of that, with names or without, of which it is told what is judged over the model. With names these are the first rises.
pub record LiftsInto (named : Bool) (model : Option (List ℕ)) (full : List FullLine) (narrow : List Item) (c : Circuit) (witness before now : Option (List ℕ)) (verdict : Judgement) (firsts : List (Option ℕ)) : Type 0 where
  pub found : Judgement
  pub held : List ℕ
  pub lifts : LiftsWitness named narrow c witness (Some []) (Some held) found firsts
  pub unfitted : Judgement
  pub unfits : UnfitsInto named model full narrow held before now unfitted
  pub told : verdict ≡ told_of found unfitted

-- The same of a witness of an engine form of the circuit.
pub record LiftsFormInto (named : Bool) (choice : Option ℕ) (model : Option (List ℕ)) (full : List FullLine) (narrow : List Item) (c form : Circuit) (witness before now : Option (List ℕ)) (verdict : Judgement) (firsts : List (Option ℕ)) : Type 0 where
  pub found : Judgement
  pub held : List ℕ
  pub lifts : LiftsForm (Ok (found, firsts)) named narrow c choice form witness (Some []) (Some held)
  pub unfitted : Judgement
  pub unfits : UnfitsInto named model full narrow held before now unfitted
  pub told : verdict ≡ told_of found unfitted

-- The same of a counterexample over an engine form; or its first faulty line is told, and what those before it give is lifted so.
pub record LiftsFoundInto (named : Bool) (model : Option (List ℕ)) (full : List FullLine) (narrow : List Item) (c : Circuit) (k : ℕ) (found before now : Option (List ℕ)) (told : Result (Judgement × List (Option ℕ)) RestoreFault) : Type 0 where
  pub restored : Result (Judgement × List (Option ℕ)) RestoreFault
  pub line : IfErr restored (λ e. is_of_text e.why ≡ true)
  pub held : List ℕ
  pub lifts : LiftsRestored restored named narrow c k found (Some []) (Some held)
  pub unfitted : Judgement
  pub unfits : UnfitsInto named model full narrow held before now unfitted
  pub verdict : told ≡ told_with restored unfitted

-- The first text is of a model of the whole language, which is fitted; a circuit lowers the fitted model, of which a witness can claim a bad property that was meant; and the second is lifted so.
pub record IsLiftedFitted (named : Bool) (model witness before now : Option (List ℕ)) (r : LiftedFitted) : Type 0 where
  pub stands : IfSome model (λ text. StandsForFull text r.model)
  pub gives : LowersFitted model r.circuit
  pub claimable : CanBeClaimed r.circuit
  pub lifts : LiftsInto named model r.model gives.narrow r.circuit witness before now r.judgement r.firsts

-- The same where the circuit has an engine form for the bad property that is claimed, and the second text is a counterexample over that form.
pub record IsFoundLiftedFitted (named : Bool) (choice : Option ℕ) (model found before now : Option (List ℕ)) (r : FoundLiftedFitted) : Type 0 where
  pub stands : IfSome model (λ text. StandsForFull text r.model)
  pub gives : LowersFitted model r.circuit
  pub is_claim : IsClaim choice r.circuit r.claim
  pub accepted : engine_refusal r.circuit (Some r.claim) ≡ None
  pub lifts : LiftsFoundInto named model r.model gives.narrow r.circuit r.claim found before now r.told

-- The same where the circuit has an engine form, with all its bad properties or the chosen one, and the second text is a witness of that.
pub record IsFormLiftedFitted (named : Bool) (choice : Option ℕ) (model witness before now : Option (List ℕ)) (r : LiftedFitted) : Type 0 where
  pub stands : IfSome model (λ text. StandsForFull text r.model)
  pub gives : LowersFitted model r.circuit
  pub form : Circuit
  pub is_form : IsEngineFormOf r.circuit choice form
  pub lifts : LiftsFormInto named choice model r.model gives.narrow r.circuit form witness before now r.judgement r.firsts
