-- Of models of the whole language that are fitted and lowered, what their witnesses need, and what is lifted over them.
use Rattle.std.proofs.Common.{◌≡◌, true, inl, inr, ℕ, Bool, List, [], Option, Some, IfSome, Result, Ok, Err, IfOk, IfErr, refl, sym, arith, ◌∙◌}
use Rattle.btor2.specs.declared.item.Item.{Item}
use Rattle.full.specs.Lines.{FullLine}
use Rattle.lift.specs.Answers.{CountsLift}
use Rattle.lift.specs.declared.fault.LiftFault.{LiftFault}
use Rattle.lift.specs.declared.fault.LiftFault.TheVariants as lift
use Rattle.restore.specs.Answers.{CountsRestoreWhy}
use Rattle.restore.specs.declared.fault.RestoreFault.{RestoreFault}
use Rattle.restore.specs.declared.fault.RestoreWhy.{RestoreWhy}
use Rattle.restore.specs.declared.fault.RestoreWhy.TheVariants as why
use Rattle.witness.specs.declared.judgement.Judgement.{Judgement}
use Rattle.verbs.specs.declared.refusals.Device.TheVariants as device
use Rattle.verbs.specs.declared.refusals.Fault.{Fault}
use Rattle.verbs.specs.declared.refusals.Refusal.{Refusal}
use Rattle.verbs.specs.declared.refusals.Refusal.TheVariants as refusal
use Rattle.verbs.specs.Fits.{UnfitsInto, UnfitsWith, narrow_in}
use Rattle.verbs.specs.declared.fits.LoweredFit.{LoweredFit}
use Rattle.restore.specs.Faults.{is_of_text}
use Rattle.verbs.specs.declared.fits.Fit.TheVariants as fit
use Rattle.verbs.specs.declared.unfitting.Ready.{Ready}
use Rattle.verbs.specs.declared.whole.Whole.{Whole}
use Rattle.verbs.specs.Lifting.{LiftsWitness}
use Rattle.aiger.specs.Circuit.{Circuit}
use Rattle.std.specs.Io.KnownBytes.{Appends}
use Rattle.lift.specs.EngineLifting.{LiftsForm, LiftsRestored}
use Rattle.lift.specs.Lifted.{lifted_with}
use Rattle.lift.specs.Verdicts.{KeepsVerdictIn}
use Rattle.rises.specs.FirstRises.{AreBitFirstRises}
use Rattle.witness.specs.BitJudgements.{BitJudges}
use Rattle.engine_form.specs.EngineForm.{IsEngineFormOf}
use Rattle.invocation.specs.declared.tasks.Given.TheVariants as given
use Rattle.verbs.specs.declared.refusals.Claimed.TheVariants as claimed
use Rattle.verbs.specs.Claims.{IsClaim}
use Rattle.verbs.specs.Given.{LowersFitted}
use Rattle.verbs.specs.Refusals.{IsNotClaimed, IsWithoutForm}
use Rattle.verbs.proofs.GivenLemmas.{formless, unclaimed_so}
use Rattle.verbs.proofs.WholeLemmas.{never_input}
use Rattle.verbs.specs.LiftingFitted.{IsUnclaimedFound, LiftsFormInto, LiftsFoundInto, LiftsInto, UnfitsHeld, of_held, of_held_lift, told_of, told_with}
use Rattle.verbs.specs.Statuses.{Counts, Ends, IfInput, IsOfNoInput}
use Rattle.verbs.specs.Statuses.Use.{Unused, Used}
use Rattle.verbs.specs.Unfitting.{IsUnfittedWide}
use Rattle.verbs.specs.Whole.{IsUnfittedByWhole}
use Rattle.verbs.proofs.UnfittingLemmas.{ready_as}

-- ---- what is written of a witness that is held

pub lifted_so : (named : Bool) (narrow other : List Item) (c : Circuit) (witness before now : Option (List ℕ)) (j : Judgement) (firsts : List (Option ℕ)) → narrow ≡ other
    → IfSome witness (λ text. BitJudges c text j) → (named ≡ true → IfSome witness (λ text. AreBitFirstRises c text firsts)) → IfSome witness (λ text. Appends before now (lifted_with named narrow c text))
    → IfSome witness (λ text. KeepsVerdictIn narrow c text (lifted_with named narrow c text) j) → LiftsWitness named other c witness before now j firsts
lifted_so named narrow other c witness before now j firsts same judged rises lifted kept = rw (sym same) (record { judged = judged; rises = rises; lifted = lifted; kept = kept })

pub lifts_held : (named : Bool) (narrow other : List Item) (c : Circuit) (witness before now : Option (List ℕ)) (held : List ℕ) (j : Judgement) (firsts : List (Option ℕ)) → narrow ≡ other → before ≡ Some [] → now ≡ Some held
    → LiftsWitness named narrow c witness before now j firsts → LiftsWitness named other c witness (Some []) (Some held) j firsts
lifts_held named narrow other c witness before now held j firsts same empty bytes h = rw (sym same, sym empty, sym bytes) h

pub restored_held : (told : Result (Judgement × List (Option ℕ)) RestoreFault) (named : Bool) (narrow other : List Item) (c : Circuit) (k : ℕ) (found before now : Option (List ℕ)) (held : List ℕ) → narrow ≡ other → before ≡ Some [] → now ≡ Some held
    → LiftsRestored told named narrow c k found before now → LiftsRestored told named other c k found (Some []) (Some held)
restored_held told named narrow other c k found before now held same empty bytes h = rw (sym same, sym empty, sym bytes) h

pub form_held : (told : Result (Judgement × List (Option ℕ)) RestoreFault) (named : Bool) (narrow other : List Item) (c : Circuit) (choice : Option ℕ) (d : Circuit) (witness before now : Option (List ℕ)) (held : List ℕ) → narrow ≡ other → before ≡ Some [] → now ≡ Some held
    → LiftsForm told named narrow c choice d witness before now → LiftsForm told named other c choice d witness (Some []) (Some held)
form_held told named narrow other c choice d witness before now held same empty bytes h = rw (sym same, sym empty, sym bytes) h

-- over a text that was read it is so over what was to come
pub into_known : (named : Bool) (known : Option (List ℕ)) (text : List ℕ) (full : List FullLine) (narrow other : List Item) (witness : List ℕ) (before now : Option (List ℕ)) (j : Judgement) → IfSome known (λ all. text ≡ all) → narrow ≡ other
    → UnfitsInto named (Some text) full narrow witness before now j → UnfitsInto named known full other witness before now j
into_known named known text full narrow other witness before now j same alike (inl h) =
    inl (record { wide = h.0.wide; narrow = h.0.narrow; ready = ready_as known text h.0.wide h.0.narrow same h.0.ready; judged = h.0.judged; written = h.0.written; kept = h.0.kept }, h.1 ∙ alike)
into_known named known text full narrow other witness before now j same alike (inr h) = inr (h.0, h.1 ∙ alike)

-- what is written over either of the two
pub unfits_words : (r : Result Judgement Refusal) (named : Bool) (text other : List ℕ) (full : List FullLine) (x : Ready) (witness : List ℕ) (before now : Option (List ℕ)) → other ≡ text
    → IfOk r (λ j. (u : IsUnfittedWide named (Some other) (Some witness) before now j) × (u.narrow ≡ x.narrow)) → IfOk r (UnfitsWith named text full (fit.Words x) witness before now)
unfits_words (Ok j) named text other full x witness before now same h = rw (sym same) (inl h)
unfits_words (Err e) named text other full x witness before now same h = tt

pub unfits_whole : (r : Result Judgement Refusal) (named : Bool) (text : List ℕ) (full : List FullLine) (x : Whole) (witness : List ℕ) (before now : Option (List ℕ))
    → IfOk r (λ j. (u : IsUnfittedByWhole named full (Some witness) before now j) × (u.narrow ≡ x.narrow)) → IfOk r (UnfitsWith named text full (fit.Whole x) witness before now)
unfits_whole (Ok j) named text full x witness before now h = inr h
unfits_whole (Err e) named text full x witness before now h = tt

-- what is lifted is held, and unfitted
pub lifts_into : (named : Bool) (lowered : LoweredFit) (witness before now : Option (List ℕ)) (old new : Option (List ℕ)) (held : List ℕ) (found verdict : Judgement) (firsts others : List (Option ℕ)) → old ≡ Some [] → new ≡ Some held → others ≡ firsts
    → LiftsWitness named (narrow_in lowered.fit) lowered.circuit witness old new found firsts → UnfitsHeld named lowered held before now (told_of found) verdict
    → LiftsInto named (Some lowered.text.items) lowered.model (narrow_in lowered.fit) lowered.circuit witness before now verdict others
lifts_into named lowered witness before now old new held found verdict firsts others empty bytes same lifts unfits = record {
  found = found;
  held = held;
  lifts = rw same (lifts_held named (narrow_in lowered.fit) (narrow_in lowered.fit) lowered.circuit witness old new held found firsts refl empty bytes lifts);
  unfitted = unfits.unfitted;
  unfits = unfits.unfits;
  told = unfits.verdict;
}

pub lifts_form_into : (named : Bool) (choice : Option ℕ) (lowered : LoweredFit) (form : Circuit) (witness before now : Option (List ℕ)) (old new : Option (List ℕ)) (held : List ℕ) (found verdict : Judgement) (firsts others : List (Option ℕ)) → old ≡ Some [] → new ≡ Some held → others ≡ firsts
    → LiftsForm (Ok (found, firsts)) named (narrow_in lowered.fit) lowered.circuit choice form witness old new → UnfitsHeld named lowered held before now (told_of found) verdict
    → LiftsFormInto named choice (Some lowered.text.items) lowered.model (narrow_in lowered.fit) lowered.circuit form witness before now verdict others
lifts_form_into named choice lowered form witness before now old new held found verdict firsts others empty bytes same lifts unfits = record {
  found = found;
  held = held;
  lifts = rw same (form_held (Ok (found, firsts)) named (narrow_in lowered.fit) (narrow_in lowered.fit) lowered.circuit choice form witness old new held refl empty bytes lifts);
  unfitted = unfits.unfitted;
  unfits = unfits.unfits;
  told = unfits.verdict;
}

pub lifts_found_into : (named : Bool) (lowered : LoweredFit) (k : ℕ) (narrow : List Item) (witness before now : Option (List ℕ)) (old new : Option (List ℕ)) (held : List ℕ) (restored told : Result (Judgement × List (Option ℕ)) RestoreFault) → narrow ≡ narrow_in lowered.fit → old ≡ Some [] → new ≡ Some held
    → IfErr restored (λ e. is_of_text e.why ≡ true) → LiftsRestored restored named narrow lowered.circuit k witness old new → UnfitsHeld named lowered held before now (told_with restored) told
    → LiftsFoundInto named (Some lowered.text.items) lowered.model (narrow_in lowered.fit) lowered.circuit k witness before now told
lifts_found_into named lowered k narrow witness before now old new held restored told same empty bytes line lifts unfits = record {
  restored = restored;
  line = line;
  held = held;
  lifts = restored_held restored named narrow (narrow_in lowered.fit) lowered.circuit k witness old new held same empty bytes lifts;
  unfitted = unfits.unfitted;
  unfits = unfits.unfits;
  verdict = unfits.verdict;
}

pub lifts_over : (r : Result (Judgement × List (Option ℕ)) Refusal) (named : Bool) (lowered : LoweredFit) (witness before now old new : Option (List ℕ)) (held : List ℕ) (found : Judgement) (firsts : List (Option ℕ)) → old ≡ Some [] → new ≡ Some held
    → LiftsWitness named (narrow_in lowered.fit) lowered.circuit witness old new found firsts → IfOk r (λ told. UnfitsHeld named lowered held before now (told_of found) told.0) → IfOk r (λ told. told.1 ≡ firsts)
    → IfOk r (λ told. LiftsInto named (Some lowered.text.items) lowered.model (narrow_in lowered.fit) lowered.circuit witness before now told.0 told.1)
lifts_over (Ok told) named lowered witness before now old new held found firsts empty bytes lifts unfits same = lifts_into named lowered witness before now old new held found told.0 firsts told.1 empty bytes same lifts unfits
lifts_over (Err x) named lowered witness before now old new held found firsts empty bytes lifts unfits same = tt

pub lifts_form_over : (r : Result (Judgement × List (Option ℕ)) Refusal) (named : Bool) (choice : Option ℕ) (lowered : LoweredFit) (form : Circuit) (witness before now old new : Option (List ℕ)) (held : List ℕ) (found : Judgement) (firsts : List (Option ℕ)) → old ≡ Some [] → new ≡ Some held
    → LiftsForm (Ok (found, firsts)) named (narrow_in lowered.fit) lowered.circuit choice form witness old new → IfOk r (λ told. UnfitsHeld named lowered held before now (told_of found) told.0) → IfOk r (λ told. told.1 ≡ firsts)
    → IfOk r (λ told. LiftsFormInto named choice (Some lowered.text.items) lowered.model (narrow_in lowered.fit) lowered.circuit form witness before now told.0 told.1)
lifts_form_over (Ok told) named choice lowered form witness before now old new held found firsts empty bytes lifts unfits same = lifts_form_into named choice lowered form witness before now old new held found told.0 firsts told.1 empty bytes same lifts unfits
lifts_form_over (Err x) named choice lowered form witness before now old new held found firsts empty bytes lifts unfits same = tt

pub lifts_found_over : (r : Result (Result (Judgement × List (Option ℕ)) RestoreFault) Refusal) (named : Bool) (lowered : LoweredFit) (k : ℕ) (narrow : List Item) (witness before now old new : Option (List ℕ)) (held : List ℕ) (restored : Result (Judgement × List (Option ℕ)) RestoreFault) → narrow ≡ narrow_in lowered.fit → old ≡ Some [] → new ≡ Some held
    → IfErr restored (λ e. is_of_text e.why ≡ true) → LiftsRestored restored named narrow lowered.circuit k witness old new → IfOk r (UnfitsHeld named lowered held before now (told_with restored))
    → IfOk r (LiftsFoundInto named (Some lowered.text.items) lowered.model (narrow_in lowered.fit) lowered.circuit k witness before now)
lifts_found_over (Ok told) named lowered k narrow witness before now old new held restored same empty bytes line lifts unfits = lifts_found_into named lowered k narrow witness before now old new held restored told same empty bytes line lifts unfits
lifts_found_over (Err x) named lowered k narrow witness before now old new held restored same empty bytes line lifts unfits = tt

-- over a text that was read it is so over what was to come
pub into_first : (named : Bool) (known : Option (List ℕ)) (text : List ℕ) (full : List FullLine) (narrow other : List Item) (c : Circuit) (witness before now : Option (List ℕ)) (j : Judgement) (firsts : List (Option ℕ)) → IfSome known (λ all. text ≡ all) → narrow ≡ other
    → LiftsInto named (Some text) full narrow c witness before now j firsts → LiftsInto named known full other c witness before now j firsts
into_first named known text full narrow other c witness before now j firsts same alike h = record {
  found = h.found;
  held = h.held;
  lifts = rw (sym alike) h.lifts;
  unfitted = h.unfitted;
  told = h.told;
  unfits = into_known named known text full narrow other h.held before now h.unfitted same alike h.unfits;
}

pub form_into_first : (named : Bool) (choice : Option ℕ) (known : Option (List ℕ)) (text : List ℕ) (full : List FullLine) (narrow other : List Item) (c form : Circuit) (witness before now : Option (List ℕ)) (j : Judgement) (firsts : List (Option ℕ)) → IfSome known (λ all. text ≡ all) → narrow ≡ other
    → LiftsFormInto named choice (Some text) full narrow c form witness before now j firsts → LiftsFormInto named choice known full other c form witness before now j firsts
form_into_first named choice known text full narrow other c form witness before now j firsts same alike h = record {
  found = h.found;
  held = h.held;
  lifts = rw (sym alike) h.lifts;
  unfitted = h.unfitted;
  told = h.told;
  unfits = into_known named known text full narrow other h.held before now h.unfitted same alike h.unfits;
}

pub found_into_first : (named : Bool) (known : Option (List ℕ)) (text : List ℕ) (full : List FullLine) (narrow other : List Item) (c : Circuit) (k : ℕ) (witness before now : Option (List ℕ)) (told : Result (Judgement × List (Option ℕ)) RestoreFault) → IfSome known (λ all. text ≡ all) → narrow ≡ other
    → LiftsFoundInto named (Some text) full narrow c k witness before now told → LiftsFoundInto named known full other c k witness before now told
found_into_first named known text full narrow other c k witness before now told same alike h = record {
  restored = h.restored;
  line = h.line;
  held = h.held;
  lifts = rw (sym alike) h.lifts;
  unfitted = h.unfitted;
  verdict = h.verdict;
  unfits = into_known named known text full narrow other h.held before now h.unfitted same alike h.unfits;
}

-- ---- how it ends

-- a source that never fails
still : {T : Type 0} (r : Result T Refusal) (f f' n o o' e e' : ℕ) → Counts r f f' 0 0 o o' e e' → Counts r f f' n n o o' e e'
still (Err (refusal.Failed device.First)) f f' n o o' e e' h = (h.0, refl, h.2, h.3)
still (Err (refusal.Failed device.Second)) f f' n o o' e e' h = absurd (omega (arith, h.1))
still (Err (refusal.Failed device.Output)) f f' n o o' e e' h = (h.0, refl, h.2, h.3)
still (Err (refusal.Failed device.Error)) f f' n o o' e e' h = (h.0, refl, h.2, h.3)
still (Err (refusal.Failed device.Third)) f f' n o o' e e' h = absurd h
still (Err (refusal.Second x)) f f' n o o' e e' h = absurd h
still (Err (refusal.Input x)) f f' n o o' e e' h = (h.0, refl, h.2, h.3)
still (Err refusal.NoMemory) f f' n o o' e e' h = (h.0, refl, h.2, h.3)
still (Ok x) f f' n o o' e e' h = (h.0, refl, h.2, h.3)

pub ends_still : {T : Type 0} {r : Result T Refusal} {S O : Type 0} {old new : S} {fo : O → ℕ} {o o' : O} → Ends r Unused (Used (λ (s : S). 0) old new) (Used fo o o') Unused → Ends r Unused Unused (Used fo o o') Unused
ends_still {T} {r} {S} {O} {old} {new} {fo} {o} {o'} h = record {
  counted = λ f n e. still r f f n (fo o) (fo o') e e (h.counted f e);
  unwritten = h.unwritten;
  untold = tt;
}

pub held_lift_ends : (T U : Type 0) (e : LiftFault) {B : Type 0} {fb : B → ℕ} {b b' : B} (h h' : ℕ) → CountsLift {J = T} (Err e) (fb b) (fb b') h h' → Ends {T = U} (Err (of_held_lift e)) Unused (Used fb b b') Unused Unused
held_lift_ends T U lift.Read h h' c = record { counted = λ f o e. (refl, c.0, refl, refl); unwritten = tt; untold = tt }
held_lift_ends T U lift.Write h h' c = record { counted = λ f o e. (refl, c.0, refl, refl); unwritten = tt; untold = tt }
held_lift_ends T U lift.NoMemory h h' c = record { counted = λ f o e. (refl, c.0, refl, refl); unwritten = tt; untold = tt }

pub no_input_held_lift : (e : LiftFault) (P : Fault → Type 0) → IfInput P (of_held_lift e)
no_input_held_lift lift.Read P = tt
no_input_held_lift lift.Write P = tt
no_input_held_lift lift.NoMemory P = tt

pub held_counts : (U : Type 0) (w : RestoreWhy) (s s' h h' f o e : ℕ) → CountsRestoreWhy w s s' h h' → Counts {T = U} (Err (of_held w)) f f s s' o o e e
held_counts U why.Device s s' h h' f o e c = (refl, c.0, refl, refl)
held_counts U why.Write s s' h h' f o e c = (refl, c.0, refl, refl)
held_counts U _ s s' h h' f o e c = (refl, c.0, refl, refl)

pub no_input_held : (w : RestoreWhy) (P : Fault → Type 0) → IfInput P (of_held w)
no_input_held why.Device P = tt
no_input_held _ P = tt

pub told_ends : {T : Type 0} (x : Refusal) {B : Type 0} {fb : B → ℕ} {b b' : B} → IsOfNoInput {T = T} (Err x) → ((f o e : ℕ) → Counts {T = T} (Err x) f f (fb b) (fb b') o o e e) → Ends {T = T} (Err x) Unused (Used fb b b') Unused Unused
told_ends x none c = record { counted = c; unwritten = tt; untold = tt }

-- ---- what is refused

pub never_told : {T : Type 0} (r : Result T Refusal) (P : Fault → Type 0) → IfErr r (IfInput (λ f. ⊥)) → IfErr r (IfInput P)
never_told (Ok x) P h = tt
never_told (Err x) P h = never_input P x h

pub without_form : (choice : Option ℕ) (c : Circuit) (k : ℕ) (x : Refusal) → IsClaim choice c k → IfInput (IsWithoutForm c (Some k)) x → IfInput (IsUnclaimedFound choice c) x
without_form choice c k (refusal.Input f) is h = inr (k, (is, h))
without_form choice c k _ is h = tt

pub not_claimed_found : (choice : Option ℕ) (known : Option (List ℕ)) (c : Circuit) (x : Refusal) → LowersFitted known c → IfInput (IsUnclaimedFound choice c) x → IfInput (IsNotClaimed claimed.Found given.Fitted choice known) x
not_claimed_found choice known c (refusal.Input f) gives (inl h) = unclaimed_so claimed.Found given.Fitted choice known c f gives h
not_claimed_found choice known c (refusal.Input f) gives (inr h) = formless claimed.Found given.Fitted choice known c h.0 (refusal.Input f) gives h.1.0 h.1.1
not_claimed_found choice known c _ gives h = tt

pub form_told : (r : Result (Judgement × List (Option ℕ)) Refusal) (named : Bool) (choice : Option ℕ) (model : Option (List ℕ)) (full : List FullLine) (narrow : List Item) (form : Circuit) (witness before now : Option (List ℕ)) {c : Circuit} → IsEngineFormOf c choice form
    → IfOk r (λ told. LiftsFormInto named choice model full narrow c form witness before now told.0 told.1)
    → IfOk r (λ told. (d : Circuit) × (IsEngineFormOf c choice d × LiftsFormInto named choice model full narrow c d witness before now told.0 told.1))
form_told (Ok told) named choice model full narrow form witness before now {c} is h = (form, (is, h))
form_told (Err x) named choice model full narrow form witness before now {c} is h = tt
