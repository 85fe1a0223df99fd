-- What is refused of a first text that gives a circuit.
use Rattle.std.proofs.Common.{◌≡◌, inl, inr, ℕ, List, Option, None, Some, Result, Ok, Err, IfErr, IfOk, refl}
use Rattle.btor2.specs.declared.item.Item.{Item}
use Rattle.btor2.specs.Check.{IsWellFormed}
use Rattle.btor2.specs.Lists.{first_init_without_next}
use Rattle.btor2text.specs.Spelling.{IsModelOf}
use Rattle.aiger.specs.Circuit.{Circuit}
use Rattle.aigertext.specs.Spelling.{IsCircuitText}
use Rattle.engine_form.specs.Outputs.{HasOutputsAsBads}
use Rattle.lift.specs.declared.fault.LiftFault.{LiftFault}
use Rattle.lift.specs.declared.fault.LiftFault.TheVariants as lift
use Rattle.vcd.specs.Answers.{AnswersWave, IsBefore}
use Rattle.vcd.specs.declared.fault.WaveFault.{WaveFault}
use Rattle.vcd.specs.declared.fault.WaveFault.TheVariants as wave
use Rattle.witness.specs.Answers.{AnswersJudge}
use Rattle.witness.specs.declared.fault.JudgeFault.{JudgeFault}
use Rattle.witness.specs.declared.fault.JudgeFault.TheVariants as judge
use Rattle.engine_form.specs.Refusal.{AnswersForm, engine_refusal}
use Rattle.engine_form.specs.declared.fault.EngineFault.{EngineFault}
use Rattle.engine_form.specs.declared.fault.EngineFault.TheVariants as engine
use Rattle.invocation.specs.declared.tasks.Given.{Given}
use Rattle.invocation.specs.declared.tasks.Given.TheVariants as given
use Rattle.verbs.specs.declared.given.Lowered.{Lowered}
use Rattle.verbs.specs.declared.refusals.Claimed.{Claimed}
use Rattle.verbs.specs.declared.refusals.Fault.{Fault}
use Rattle.verbs.specs.declared.refusals.Fault.TheVariants as fault
use Rattle.verbs.specs.declared.refusals.Refusal.{Refusal}
use Rattle.verbs.specs.declared.refusals.Refusal.TheVariants as refusal
use Rattle.verbs.specs.Claims.{IsClaim}
use Rattle.verbs.specs.Asked.{IsNotJudgedWith, IsUnjudgedFor}
use Rattle.verbs.specs.Judging.{IsJudgedFor}
use Rattle.verbs.specs.declared.judging.JudgedOverModel.{JudgedOverModel}
use Rattle.verbs.proofs.AskedLemmas.{unasked_words}
use Rattle.verbs.specs.Conversions.{of_dumping, of_engine_form, of_judging, of_lifting}
use Rattle.verbs.specs.Fitting.{FitsFirst, IsNotFitted}
use Rattle.verbs.specs.Given.{GivesItsCircuit, IsLowered, IsLoweredFitted, LowersFitted}
use Rattle.verbs.specs.Refusals.{HasOutputsAlone, IsAgainst, IsNotClaimable, IsNotClaimed, IsNotForEngines, IsNotGiven, IsNotJudged, IsNotLowered, IsNotLoweredFitted, IsUnclaimed, IsWithoutForm}
use Rattle.verbs.specs.Outputs.{IsNotWithOutputsForEngines}
use Rattle.verbs.specs.Statuses.{IfInput}

-- a text whose model is lowered gives that circuit
pub gives_lowered : (first : Option (List ℕ)) (r : Lowered) → IsLowered first r → GivesItsCircuit given.Model first r.circuit
gives_lowered first r is = record { items = r.model; text = is.text; accepted = is.accepted; lowers = is.lowers }

-- so does one whose fitted model is
pub gives_fitted : (first : Option (List ℕ)) (r : Lowered) → IsLoweredFitted first r → LowersFitted first r.circuit
gives_fitted first r is = record { narrow = r.model; fits = is.fits; accepted = is.accepted; lowers = is.lowers }

-- what speaks against lowering the text's model, and the model that it is fitted into
pub not_lowered : (known : Option (List ℕ)) (items : List Item) (x : Refusal) → IsModelOf known items → IsWellFormed items → IfInput (IsAgainst items) x → IfInput (IsNotLowered known) x
not_lowered known items (refusal.Input (fault.Lowering e)) text valid against = record { items = items; text = text; well_formed = valid; first = against }
not_lowered known items (refusal.Input _) text valid against = absurd against
not_lowered known items _ text valid against = tt

pub not_lowered_fitted : (known : Option (List ℕ)) (narrow : List Item) (x : Refusal) → FitsFirst known narrow → IfInput (IsAgainst narrow) x → IfInput (IsNotLoweredFitted known) x
not_lowered_fitted known narrow (refusal.Input (fault.Lowering e)) fits against = record { narrow = narrow; fits = fits; first = against }
not_lowered_fitted known narrow (refusal.Input _) fits against = absurd against
not_lowered_fitted known narrow _ fits against = tt

-- a text that is not fitted
pub unfitted : (known : Option (List ℕ)) (x : Refusal) → IfInput (IsNotFitted known) x → IfInput (IsNotLoweredFitted known) x
unfitted known (refusal.Input (fault.Lowering e)) is = absurd is
unfitted known (refusal.Input _) is = is
unfitted known _ is = tt

-- no bad property of it is claimed so
pub not_claimed : (m : Claimed) (g : Given) (known : Option (List ℕ)) (c : Circuit) (f : Fault) → GivesItsCircuit g known c → IsUnclaimed m c f → IsNotClaimed m g None known f
not_claimed m g known c (fault.Engine e) gives is = inr (record { circuit = c; gives = gives; unchosen = refl; none = is.0; first = is.1 })
not_claimed m g known c (fault.Unchosen n) gives is = (is.0, record { circuit = c; gives = gives; unchosen = refl; several = is.1 })
not_claimed m g known c _ gives is = absurd is

pub unclaimed_so : (m : Claimed) (g : Given) (choice : Option ℕ) (known : Option (List ℕ)) (c : Circuit) (f : Fault) → GivesItsCircuit g known c → (choice ≡ None) × IsUnclaimed m c f → IsNotClaimed m g choice known f
unclaimed_so m g choice known c f gives is = rw is.0 (not_claimed m g known c f gives is.1)

-- it has no engine form with the bad property that is claimed
pub formless : (m : Claimed) (g : Given) (choice : Option ℕ) (known : Option (List ℕ)) (c : Circuit) (claim : ℕ) (x : Refusal) → GivesItsCircuit g known c → IsClaim choice c claim → IfInput (IsWithoutForm c (Some claim)) x → IfInput (IsNotClaimed m g choice known) x
formless m g choice known c claim (refusal.Input (fault.Engine e)) gives is without = inl (record { circuit = c; claim = claim; gives = gives; is_claim = is; first = without })
formless m g choice known c claim (refusal.Input _) gives is without = absurd without
formless m g choice known c claim _ gives is without = tt

-- or none at all
pub not_for_engines : (g : Given) (choice : Option ℕ) (known : Option (List ℕ)) (c : Circuit) (x : Refusal) → GivesItsCircuit g known c → IfInput (IsWithoutForm c choice) x → IfInput (IsNotForEngines g choice known) x
not_for_engines g choice known c (refusal.Input (fault.Engine e)) gives without = record { circuit = c; gives = gives; first = without }
not_for_engines g choice known c (refusal.Input _) gives without = absurd without
not_for_engines g choice known c _ gives without = tt

pub no_form : (c : Circuit) (choice : Option ℕ) (e : EngineFault) → AnswersForm {T = Circuit} (Err e) (engine_refusal c choice) → IfInput (IsWithoutForm c choice) (of_engine_form e)
no_form c choice engine.NoMemory answer = tt
no_form c choice _ (inl is) = is
no_form c choice _ (inr memory) = absurd (cc)

-- or outputs alone
pub not_claimable : (g : Given) (known : Option (List ℕ)) (c : Circuit) (x : Refusal) → GivesItsCircuit g known c → IfInput (HasOutputsAlone c) x → IfInput (IsNotClaimable g known) x
not_claimable g known c (refusal.Input (fault.Engine e)) gives alone = record { circuit = c; gives = gives; alone = alone }
not_claimable g known c (refusal.Input _) gives alone = absurd alone
not_claimable g known c _ gives alone = tt

-- ---- a text that gives none

pub none_claimable : (g : Given) (known : Option (List ℕ)) (x : Refusal) → IfInput (IsNotGiven g known) x → IfInput (IsNotClaimable g known) x
none_claimable given.Model known (refusal.Input (fault.Engine e)) none = absurd none
none_claimable given.Fitted known (refusal.Input (fault.Engine e)) none = absurd none
none_claimable given.Circuit known (refusal.Input (fault.Engine e)) none = absurd none
none_claimable g known (refusal.Input _) none = none
none_claimable g known _ none = tt

pub none_claimed : (m : Claimed) (g : Given) (choice : Option ℕ) (known : Option (List ℕ)) (x : Refusal) → IfInput (IsNotGiven g known) x → IfInput (IsNotClaimed m g choice known) x
none_claimed m given.Model choice known (refusal.Input (fault.Engine e)) none = absurd none
none_claimed m given.Fitted choice known (refusal.Input (fault.Engine e)) none = absurd none
none_claimed m given.Circuit choice known (refusal.Input (fault.Engine e)) none = absurd none
none_claimed m given.Model choice known (refusal.Input (fault.Unchosen n)) none = absurd none
none_claimed m given.Fitted choice known (refusal.Input (fault.Unchosen n)) none = absurd none
none_claimed m given.Circuit choice known (refusal.Input (fault.Unchosen n)) none = absurd none
none_claimed m g choice known (refusal.Input _) none = none
none_claimed m g choice known _ none = tt

pub none_for_engines : (g : Given) (choice : Option ℕ) (known : Option (List ℕ)) (x : Refusal) → IfInput (IsNotGiven g known) x → IfInput (IsNotForEngines g choice known) x
none_for_engines given.Model choice known (refusal.Input (fault.Engine e)) none = absurd none
none_for_engines given.Fitted choice known (refusal.Input (fault.Engine e)) none = absurd none
none_for_engines given.Circuit choice known (refusal.Input (fault.Engine e)) none = absurd none
none_for_engines g choice known (refusal.Input _) none = none
none_for_engines g choice known _ none = tt

-- what is so of each failure
pub where_failed : {T : Type 0} (r : Result T Refusal) (P Q : Refusal → Type 0) → ((x : Refusal) → P x → Q x) → IfErr r P → IfErr r Q
where_failed {T} (Ok v) P Q so h = tt
where_failed {T} (Err x) P Q so h = so x h

-- a circuit with its outputs as bad properties has no engine form
pub outputs_formless : (choice : Option ℕ) (known : Option (List ℕ)) (c made : Circuit) (x : Refusal) → IsCircuitText known c → HasOutputsAsBads c made → IfInput (IsWithoutForm made choice) x → IfInput (IsNotWithOutputsForEngines choice known) x
outputs_formless choice known c made (refusal.Input (fault.Engine e)) text outputs without = record { circuit = c; made = made; text = text; outputs = outputs; first = without }
outputs_formless choice known c made (refusal.Input _) text outputs without = absurd without
outputs_formless choice known c made _ text outputs without = tt

-- ---- a text over whose model nothing is judged

pub unjudged : (known : Option (List ℕ)) (items : List Item) (e : JudgeFault) → IsModelOf known items → IsWellFormed items → AnswersJudge {T = ℕ} (Err e) (first_init_without_next items items) → IfInput (IsNotJudged known) (of_judging e)
unjudged known items (judge.NoNext id) text valid answer = record { items = items; text = text; well_formed = valid; first = answer }
unjudged known items judge.Device text valid answer = tt
unjudged known items judge.NoMemory text valid answer = tt

-- over which nothing is judged, or of which no bad property is asked for
pub unjudged_for : (word : Option (List ℕ)) (items : List Item) (e : JudgeFault) → AnswersJudge {T = ℕ} (Err e) (first_init_without_next items items) → IfInput (IsUnjudgedFor word items) (of_judging e)
unjudged_for word items (judge.NoNext id) answer = answer
unjudged_for word items judge.Device answer = tt
unjudged_for word items judge.NoMemory answer = tt

not_judged_by : (word known : Option (List ℕ)) (items : List Item) (x : Refusal) → IsModelOf known items → IsWellFormed items → IfInput (IsUnjudgedFor word items) x → IfInput (IsNotJudgedWith word known) x
not_judged_by None known items (refusal.Input (fault.NoNext id)) text valid h = record { items = items; text = text; well_formed = valid; first = h }
not_judged_by (Some word) known items (refusal.Input (fault.NoNext id)) text valid h = record { items = items; text = text; well_formed = valid; first = h }
not_judged_by None known items (refusal.Input _) text valid h = absurd h
not_judged_by (Some word) known items (refusal.Input f) text valid h = unasked_words (Some word) known items f text h
not_judged_by word known items _ text valid h = tt

pub not_judged_for : {T : Type 0} (r : Result T Refusal) (word known : Option (List ℕ)) (items : List Item) → IsModelOf known items → IsWellFormed items → IfErr r (IfInput (IsUnjudgedFor word items))
    → IfErr r (IfInput (IsNotJudgedWith word known))
not_judged_for (Ok j) word known items text valid h = tt
not_judged_for (Err x) word known items text valid h = not_judged_by word known items x text valid h

-- what is judged over it is judged over a text of it
pub judged_for : (r : Result JudgedOverModel Refusal) (word known witness : Option (List ℕ)) (items : List Item) → IsModelOf known items
    → IfOk r (λ judged. (judged.model ≡ items) × ((known : Option (List ℕ)) → IsModelOf known items → IsJudgedFor word known witness judged))
    → IfOk r (IsJudgedFor word known witness)
judged_for (Ok judged) word known witness items text h = h.1 known text
judged_for (Err x) word known witness items text h = tt

pub undumped : (known : Option (List ℕ)) (items : List Item) (e : WaveFault) → IsModelOf known items → IsWellFormed items → AnswersWave {T = ℕ} (Err e) (first_init_without_next items items) → IfInput (IsNotJudged known) (of_dumping e)
undumped known items (wave.NoNext id) text valid answer = record { items = items; text = text; well_formed = valid; first = answer }
undumped known items wave.Read text valid answer = tt
undumped known items wave.Write text valid answer = tt
undumped known items wave.NoMemory text valid answer = tt

-- and nothing is written then
pub undumped_unwritten : (e : WaveFault) (X : Type 0) → (IsBefore {T = ℕ} (Err e) → X) → IfInput (λ _. X) (of_dumping e)
undumped_unwritten (wave.NoNext id) X before = before tt
undumped_unwritten wave.Read X before = tt
undumped_unwritten wave.Write X before = tt
undumped_unwritten wave.NoMemory X before = tt

-- lifting refuses no text
pub unlifted : (e : LiftFault) (P : Fault → Type 0) → IfInput P (of_lifting e)
unlifted lift.Read P = tt
unlifted lift.Write P = tt
unlifted lift.NoMemory P = tt
