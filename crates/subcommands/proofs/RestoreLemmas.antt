-- What a command has done that told how what it restored or lifted is judged.
use Rattle.std.proofs.Common.{ℕ, Bool, List, ◌++◌, Option, Result, Ok, Err, IfOk, OnOk, length}
use Rattle.std.specs.Io.KnownBytes.{Appends}
use Rattle.vcd.specs.declared.scope.Shown.{Shown}
use Rattle.witness.specs.declared.judgement.Judgement.{Judgement}
use Rattle.verbs.specs.declared.lifting.FoundLifted.{FoundLifted}
use Rattle.verbs.specs.declared.lifting.Lifted.{Lifted}
use Rattle.verbs.specs.declared.refusals.Refusal.{Refusal}
use Rattle.verbs.specs.declared.restoring.FoundRestored.{FoundRestored}
use Rattle.verbs.specs.declared.restoring.Restored.{Restored}
use Rattle.verbs.specs.Judging.{IsDumped}
use Rattle.verbs.specs.Lifting.{IsFormLifted, IsFoundLifted, IsLifted}
use Rattle.verbs.specs.LiftingFitted.{IsFormLiftedFitted, IsFoundLiftedFitted, IsLiftedFitted}
use Rattle.verbs.specs.declared.lifting_fitted.FoundLiftedFitted.{FoundLiftedFitted}
use Rattle.verbs.specs.declared.lifting_fitted.LiftedFitted.{LiftedFitted}
use Rattle.verbs.specs.Restoring.{IsFormRestored, IsFoundRestored}
use Rattle.subcommands.specs.declared.answers.Answer.{Answer}
use Rattle.subcommands.specs.Assumed.{assumed_said}
use Rattle.subcommands.specs.Done.{Dumps, IsSo, Judged, judgement_line}
use Rattle.subcommands.specs.Restoring.{Lifts, LiftsFitted, LiftsForm, LiftsFormFitted, LiftsFound, LiftsFoundFitted, Restores, RestoresForm, TellsLifted, TellsRestored, lifting_fitted_said, lifting_said}

pub restores : (r : Result Answer Refusal) (choice : Option ℕ) (circuit found before now told told' : Option (List ℕ)) (x : FoundRestored) → IsFoundRestored choice circuit found before now x → IfOk r (λ a. TellsRestored x.told a told told')
    → IfOk r (Restores choice circuit found before now told told')
restores (Ok a) choice circuit found before now told told' x is tells = record { restored = x; is_restored = is; tells = tells }
restores (Err e) choice circuit found before now told told' x is tells = tt

pub restores_form : (r : Result Answer Refusal) (choice : Option ℕ) (circuit found before now told told' : Option (List ℕ)) (x : Restored) → IsFormRestored choice circuit found before now x
    → OnOk r (Appends told told' (judgement_line x.judgement ++ assumed_said choice (length x.circuit.bads))) → IfOk r (λ a. IsSo a x.judgement) → IfOk r (RestoresForm choice circuit found before now told told')
restores_form (Ok a) choice circuit found before now told told' x is line so = record { restored = x; is_restored = is; so = so; line = line }
restores_form (Err e) choice circuit found before now told told' x is line so = tt

pub lifts : (r : Result Answer Refusal) (named : Bool) (model witness before now told told' : Option (List ℕ)) (x : Lifted) → IsLifted named model witness before now x
    → OnOk r (Appends told told' (judgement_line x.judgement ++ lifting_said named x.lowered x.firsts x.judgement)) → IfOk r (λ a. IsSo a x.judgement) → IfOk r (Lifts named model witness before now told told')
lifts (Ok a) named model witness before now told told' x is line so = record { lifted = x; is_lifted = is; so = so; lines = line }
lifts (Err e) named model witness before now told told' x is line so = tt

pub lifts_found : (r : Result Answer Refusal) (named : Bool) (choice : Option ℕ) (model found before now told told' : Option (List ℕ)) (x : FoundLifted) → IsFoundLifted named choice model found before now x
    → IfOk r (λ a. TellsLifted (lifting_said named x.lowered) x.told a told told') → IfOk r (LiftsFound named choice model found before now told told')
lifts_found (Ok a) named choice model found before now told told' x is tells = record { lifted = x; is_lifted = is; tells = tells }
lifts_found (Err e) named choice model found before now told told' x is tells = tt

pub lifts_form : (r : Result Answer Refusal) (named : Bool) (choice : Option ℕ) (model found before now told told' : Option (List ℕ)) (x : Lifted) → IsFormLifted named choice model found before now x
    → OnOk r (Appends told told' ((judgement_line x.judgement ++ lifting_said named x.lowered x.firsts x.judgement) ++ assumed_said choice (length x.lowered.circuit.bads))) → IfOk r (λ a. IsSo a x.judgement)
    → IfOk r (LiftsForm named choice model found before now told told')
lifts_form (Ok a) named choice model found before now told told' x is line so = record { lifted = x; is_lifted = is; so = so; lines = line }
lifts_form (Err e) named choice model found before now told told' x is line so = tt

pub lifts_fitted : (r : Result Answer Refusal) (named : Bool) (model witness before now told told' : Option (List ℕ)) (x : LiftedFitted) → IsLiftedFitted named model witness before now x
    → OnOk r (Appends told told' (judgement_line x.judgement ++ lifting_fitted_said named x.model x.firsts x.judgement)) → IfOk r (λ a. IsSo a x.judgement) → IfOk r (LiftsFitted named model witness before now told told')
lifts_fitted (Ok a) named model witness before now told told' x is line so = record { lifted = x; is_lifted = is; so = so; lines = line }
lifts_fitted (Err e) named model witness before now told told' x is line so = tt

pub lifts_found_fitted : (r : Result Answer Refusal) (named : Bool) (choice : Option ℕ) (model found before now told told' : Option (List ℕ)) (x : FoundLiftedFitted) → IsFoundLiftedFitted named choice model found before now x
    → IfOk r (λ a. TellsLifted (lifting_fitted_said named x.model) x.told a told told') → IfOk r (LiftsFoundFitted named choice model found before now told told')
lifts_found_fitted (Ok a) named choice model found before now told told' x is tells = record { lifted = x; is_lifted = is; tells = tells }
lifts_found_fitted (Err e) named choice model found before now told told' x is tells = tt

pub lifts_form_fitted : (r : Result Answer Refusal) (named : Bool) (choice : Option ℕ) (model found before now told told' : Option (List ℕ)) (x : LiftedFitted) → IsFormLiftedFitted named choice model found before now x
    → OnOk r (Appends told told' ((judgement_line x.judgement ++ lifting_fitted_said named x.model x.firsts x.judgement) ++ assumed_said choice (length x.circuit.bads))) → IfOk r (λ a. IsSo a x.judgement)
    → IfOk r (LiftsFormFitted named choice model found before now told told')
lifts_form_fitted (Ok a) named choice model found before now told told' x is line so = record { lifted = x; is_lifted = is; so = so; lines = line }
lifts_form_fitted (Err e) named choice model found before now told told' x is line so = tt

pub dumps : (r : Result Answer Refusal) (shown : Shown) (title : List ℕ) (model witness before now told told' : Option (List ℕ)) (j : Judgement) → IsDumped shown title model witness before now j
    → OnOk r (Appends told told' (judgement_line j)) → IfOk r (λ a. IsSo a j) → IfOk r (Judged (Dumps shown model witness before now told told'))
dumps (Ok a) shown title model witness before now told told' j is line so = record { verdict = j; is_judged = record { title = title; dumped = is; line = line }; so = so }
dumps (Err e) shown title model witness before now told told' j is line so = tt

-- how what was lifted is judged
pub lifted_told : (r : Result Answer Refusal) (said : List (Option ℕ) → Judgement → List ℕ) (j : Judgement) (firsts : List (Option ℕ)) (told told' : Option (List ℕ)) → OnOk r (Appends told told' (judgement_line j ++ said firsts j)) → IfOk r (λ a. IsSo a j)
    → IfOk r (λ a. TellsLifted said (Ok (j, firsts)) a told told')
lifted_told (Ok a) said j firsts told told' line so = (so, line)
lifted_told (Err e) said j firsts told told' line so = tt
