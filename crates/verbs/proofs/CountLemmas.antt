-- How commands of several steps end.
use Rattle.std.proofs.Common.{◌≡◌, ℕ, Result, Ok, Err, IfErr, refl, sym, subst, ap}
use Rattle.std.specs.Result.{IsErr, IsErrAnd}
use Rattle.base.specs.Device.{HasRisen}
use Rattle.verbs.specs.declared.refusals.Device.TheVariants as device
use Rattle.verbs.specs.declared.refusals.Fault.{Fault}
use Rattle.verbs.specs.declared.refusals.Refusal.{Refusal}
use Rattle.verbs.specs.declared.refusals.Refusal.TheVariants as refusal
use Rattle.engine_form.specs.declared.fault.EngineFault.{EngineFault}
use Rattle.engine_form.specs.declared.fault.EngineFault.TheVariants as engine
use Rattle.lift.specs.Answers.{CountsLift}
use Rattle.lift.specs.declared.fault.LiftFault.{LiftFault}
use Rattle.lift.specs.declared.fault.LiftFault.TheVariants as lift
use Rattle.rejoin.specs.Faults.{CountsUnfit}
use Rattle.rejoin.specs.declared.fault.UnfitFault.{UnfitFault}
use Rattle.rejoin.specs.declared.fault.UnfitFault.TheVariants as unfit
use Rattle.vcd.specs.Answers.{CountsWave}
use Rattle.vcd.specs.declared.fault.WaveFault.{WaveFault}
use Rattle.vcd.specs.declared.fault.WaveFault.TheVariants as wave
use Rattle.witness.specs.Answers.{CountsJudge}
use Rattle.witness.specs.declared.fault.JudgeFault.{JudgeFault}
use Rattle.witness.specs.declared.fault.JudgeFault.TheVariants as judge
use Rattle.verbs.specs.Conversions.{of_dumping, of_engine_form, of_judging, of_lifting, of_unfitting}
use Rattle.verbs.specs.Statuses.{Counts, CountsAll, CountsUses, Ends, EndsAll, EndsUnrefused, ErrUntold, IfInput, IfSecond, IfUsed, IsOfNoInput, OverCounts, Use}
use Rattle.verbs.specs.Statuses.Use.{Unused, Used}

pub risen : (e m e' : ℕ) → m ≡ e → HasRisen m e' → HasRisen e e'
risen e m e' same h = let P : ℕ → Type 0 = λ n. HasRisen n e' in subst P same h

-- ---- of one use

over : (u : Use) (P Q : ℕ → ℕ → Type 0) → ((n n' : ℕ) → P n n' → Q n n') → OverCounts u P → OverCounts u Q
over Unused P Q f h = λ n. f n n (h n)
over (Used failures old new) P Q f h = f (failures old) (failures new) h

over_any : (u : Use) (X : Type 0) → OverCounts u (λ _ _. X) → X
over_any Unused X h = h 0
over_any (Used failures old new) X h = h

if_used : (u : Use) (P : Type 0 → Type 0) → ((X : Type 0) → P X) → IfUsed u P
if_used Unused P all = tt
if_used (Used failures old new) P all = all (new ≡ old)

-- what is so of the counts of one use is so of those of another, which a longer command makes of the same file
pub record Extends (u v : Use) : Type 1 where
  pub counts : (P Q : ℕ → ℕ → Type 0) → ((n n' : ℕ) → P n n' → Q n n') → OverCounts u P → OverCounts v Q

pub as_is : {u : Use} → Extends u u
as_is {u} = record { counts = over u }

-- it was used before, and did not fail
pub unfailed : {S : Type 0} {failures : S → ℕ} {old new : S} → failures new ≡ failures old → Extends Unused (Used failures old new)
unfailed {S} {failures} {old} {new} same = record { counts = λ P Q f h. let R : ℕ → Type 0 = λ n. P (failures old) n in f (failures old) (failures new) (subst R (sym same) (h (failures old))) }

-- and it is as before in the one where it is in the other
pub record Keeps (u v : Use) : Type 1 where
  pub extends : Extends u v
  pub keeps : (P : Type 0 → Type 0) → ((X : Type 0) → X → P X) → IfUsed u P → IfUsed v P

pub as_was : {u : Use} → Keeps u u
as_was = record { extends = as_is; keeps = λ P f h. h }

pub idle : {S : Type 0} {failures : S → ℕ} {state : S} → Keeps Unused (Used failures state state)
idle {S} {failures} {state} = record { extends = unfailed refl; keeps = λ P f h. f (state ≡ state) refl }

-- ---- of another step

input_kept : {T : Type 0} (r : Result T Refusal) (X : Type 0) → X → IfErr r (IfInput (λ _. X))
input_kept (Err (refusal.Input f)) X x = x
input_kept _ X x = tt

second_kept : {T : Type 0} (r : Result T Refusal) (X : Type 0) → X → IfErr r (IfSecond (λ _. X))
second_kept (Err (refusal.Second f)) X x = x
second_kept _ X x = tt

untold_kept : {T : Type 0} (r : Result T Refusal) (X : Type 0) → X → ErrUntold r X
untold_kept (Ok y) X x = tt
untold_kept (Err (refusal.Failed device.Error)) X x = tt
untold_kept (Err _) X x = x

-- a command ends as one of its steps, where nothing failed in the others
pub ends_as : {T : Type 0} {r : Result T Refusal} {first second out err first' second' out' err' : Use} → Extends first first' → Extends second second' → Keeps out out' → Keeps err err' → Ends r first second out err → Ends r first' second' out' err'
ends_as {T} {r} f s o e h = record {
  counted = f.counts _ _ (λ n n'. s.counts _ _ (λ m m'. o.extends.counts _ _ (λ k k'. e.extends.counts _ _ (λ l l' c. c)))) h.counted;
  unwritten = o.keeps _ (input_kept r) h.unwritten;
  untold = e.keeps _ (untold_kept r) h.untold;
}

pub ends_all_as : {T : Type 0} {r : Result T Refusal} {first second third out err first' second' third' out' err' : Use} → Extends first first' → Extends second second' → Extends third third' → Keeps out out' → Keeps err err' → EndsAll r first second third out err → EndsAll r first' second' third' out' err'
ends_all_as {T} {r} f s t o e h = record {
  counted = f.counts _ _ (λ n n'. s.counts _ _ (λ m m'. t.counts _ _ (λ i i'. o.extends.counts _ _ (λ k k'. e.extends.counts _ _ (λ l l' c. c))))) h.counted;
  unwritten = o.keeps _ (input_kept r) h.unwritten;
  unwritten_second = o.keeps _ (second_kept r) h.unwritten_second;
  untold = e.keeps _ (untold_kept r) h.untold;
}

-- ---- of a refusal that is handed on

ends_err : (T U : Type 0) (x : Refusal) {first second out err : Use} → Ends {T = T} (Err x) first second out err → Ends {T = U} (Err x) first second out err
ends_err T U (refusal.Failed device.First) h = record { counted = h.counted; unwritten = h.unwritten; untold = h.untold }
ends_err T U _ h = record { counted = h.counted; unwritten = h.unwritten; untold = h.untold }

pub handed_on : {T U : Type 0} {r : Result U Refusal} {x : Refusal} {first second out err : Use} → r ≡ Err x → Ends {T = T} (Err x) first second out err → Ends r first second out err
handed_on {T} {U} {r} {x} is h = rw is (ends_err T U x h)

ends_all_err : (T U : Type 0) (x : Refusal) {first second third out err : Use} → EndsAll {T = T} (Err x) first second third out err → EndsAll {T = U} (Err x) first second third out err
ends_all_err T U (refusal.Failed device.First) h = record { counted = h.counted; unwritten = h.unwritten; unwritten_second = h.unwritten_second; untold = h.untold }
ends_all_err T U _ h = record { counted = h.counted; unwritten = h.unwritten; unwritten_second = h.unwritten_second; untold = h.untold }

pub all_handed_on : {T U : Type 0} {r : Result U Refusal} {x : Refusal} {first second third out err : Use} → r ≡ Err x → EndsAll {T = T} (Err x) first second third out err → EndsAll r first second third out err
all_handed_on {T} {U} {r} {x} is h = rw is (ends_all_err T U x h)

-- ---- of one word and another

no_second_counted : {T : Type 0} (r : Result T Refusal) (P : Fault → Type 0) (first second out err : Use) → CountsUses r first second out err → IfErr r (IfSecond P)
no_second_counted (Err (refusal.Second x)) P first second out err c = absurd (over_any err _ (over_any out _ (over_any second _ (over_any first _ c))))
no_second_counted _ P first second out err c = tt

-- a command that refuses no second file
pub no_second : {T : Type 0} {r : Result T Refusal} (P : Fault → Type 0) {first second out err : Use} → Ends r first second out err → IfErr r (IfSecond P)
no_second {T} {r} P {first} {second} {out} {err} h = no_second_counted r P first second out err h.counted

counted_all : {T : Type 0} (r : Result T Refusal) (f f' s s' t o o' e e' : ℕ) → Counts r f f' s s' o o' e e' → CountsAll r f f' s s' t t o o' e e'
counted_all (Err (refusal.Second x)) f f' s s' t o o' e e' c = absurd c
counted_all (Err (refusal.Failed device.Third)) f f' s s' t o o' e e' c = absurd c
counted_all _ f f' s s' t o o' e e' c = (c, refl)

-- and reads no third
pub ends_all : {T : Type 0} {r : Result T Refusal} {first second out err : Use} → Ends r first second out err → EndsAll r first second Unused out err
ends_all {T} {r} {first} {second} {out} {err} h = record {
  counted = over first _ _ (λ f f'. over second _ _ (λ s s' c t. over out _ _ (λ o o'. over err _ _ (λ e e'. counted_all r f f' s s' t o o' e e')) c)) h.counted;
  unwritten = h.unwritten;
  unwritten_second = if_used out _ (λ X. no_second_counted r (λ _. X) first second out err h.counted);
  untold = h.untold;
}

pub no_input : {T : Type 0} (r : Result T Refusal) (P : Fault → Type 0) → IsOfNoInput r → IfErr r (IfInput P)
no_input (Err (refusal.Input f)) P h = absurd h
no_input _ P h = tt

pub unrefused : {T : Type 0} {r : Result T Refusal} {first second out err : Use} → EndsUnrefused r first second out err → Ends r first second out err
unrefused {T} {r} {first} {second} {out} {err} h = record { counted = h.counted; unwritten = if_used out _ (λ X. no_input r (λ _. X) h.no_input); untold = h.untold }

-- ---- of what is told behind a verb

behind : {T : Type 0} (r : Result T Refusal) (f f' s s' o o' e e' : ℕ) → f' ≡ f → s' ≡ s → o' ≡ o → Counts r f f s s o o e e' → Counts r f f' s s' o o' e e'
behind r f f' s s' o o' e e' first second out c =
    subst (λ (n : ℕ). Counts r f n s s' o o' e e') (sym first) (subst (λ (n : ℕ). Counts r f f s n o o' e e') (sym second) (subst (λ (n : ℕ). Counts r f f s s o n e e') (sym out) c))

-- a command ends as what it tells behind a verb that has read and written
pub told_behind : {T : Type 0} {r : Result T Refusal} {A B O : Type 0} {fa : A → ℕ} {a a' : A} {fb : B → ℕ} {b b' : B} {fo : O → ℕ} {o o' : O} {err : Use}
    → fa a' ≡ fa a → fb b' ≡ fb b → fo o' ≡ fo o → EndsUnrefused r Unused Unused Unused err → Ends r (Used fa a a') (Used fb b b') (Used fo o o') err
told_behind {T} {r} {A} {B} {O} {fa} {a} {a'} {fb} {b} {b'} {fo} {o} {o'} {err} first second out h = record {
  counted = over err _ _ (λ e e' c. behind r (fa a) (fa a') (fb b) (fb b') (fo o) (fo o') e e' first second out c) (h.counted (fa a) (fb b) (fo o));
  unwritten = no_input r (λ _. o' ≡ o) h.no_input;
  untold = h.untold;
}

-- ---- of a library's fault behind a text that was read

pub judging_failed : (T U : Type 0) (e : JudgeFault) (f f' s s' : ℕ) → f' ≡ f → CountsJudge {T = T} (Err e) s s' → (o err : ℕ) → Counts {T = U} (Err (of_judging e)) f f' s s' o o err err
judging_failed T U (judge.NoNext id) f f' s s' first c o err = (first, c, refl, refl)
judging_failed T U judge.Device f f' s s' first c o err = (first, c, refl, refl)
judging_failed T U judge.NoMemory f f' s s' first c o err = (first, c, refl, refl)

pub dumping_failed : (T U : Type 0) (e : WaveFault) (f f' s s' o o' : ℕ) → f' ≡ f → CountsWave {T = T} (Err e) s s' o o' → (err : ℕ) → Counts {T = U} (Err (of_dumping e)) f f' s s' o o' err err
dumping_failed T U (wave.NoNext id) f f' s s' o o' first c err = (first, c.0, c.1, refl)
dumping_failed T U wave.Read f f' s s' o o' first c err = (first, c.0, c.1, refl)
dumping_failed T U wave.Write f f' s s' o o' first c err = (first, c.0, c.1, refl)
dumping_failed T U wave.NoMemory f f' s s' o o' first c err = (first, c.0, c.1, refl)

pub lifting_failed : (T U : Type 0) (e : LiftFault) (f f' s s' o o' : ℕ) → f' ≡ f → CountsLift {J = T} (Err e) s s' o o' → (err : ℕ) → Counts {T = U} (Err (of_lifting e)) f f' s s' o o' err err
lifting_failed T U lift.Read f f' s s' o o' first c err = (first, c.0, c.1, refl)
lifting_failed T U lift.Write f f' s s' o o' first c err = (first, c.0, c.1, refl)
lifting_failed T U lift.NoMemory f f' s s' o o' first c err = (first, c.0, c.1, refl)

pub unfitting_failed : (T U : Type 0) (e : UnfitFault) (f f' s s' o o' : ℕ) → f' ≡ f → CountsUnfit {J = T} (Err e) s s' o o' → (err : ℕ) → Counts {T = U} (Err (of_unfitting e)) f f' s s' o o' err err
unfitting_failed T U (unfit.NoNext id) f f' s s' o o' first c err = (first, c.0, c.1, refl)
unfitting_failed T U unfit.Read f f' s s' o o' first c err = (first, c.0, c.1, refl)
unfitting_failed T U unfit.Write f f' s s' o o' first c err = (first, c.0, c.1, refl)
unfitting_failed T U unfit.NoMemory f f' s s' o o' first c err = (first, c.0, c.1, refl)

-- ---- of a first text that is refused behind its reading, and of a second that is read no more

pub input_ends : {T : Type 0} {f : Fault} → Ends {T = T} (Err (refusal.Input f)) Unused Unused Unused Unused
input_ends {T} {f} = record { counted = λ a b c d. (refl, refl, refl, refl); unwritten = tt; untold = tt }

pub counted_behind : {T : Type 0} {x : Refusal} {A B O : Type 0} {fa : A → ℕ} {a a' : A} {fb : B → ℕ} {b b' : B} {fo : O → ℕ} {o o' : O} {err : Use}
    → fa a' ≡ fa a → IsOfNoInput {T = T} (Err x) → IfUsed err (ErrUntold {T = T} (Err x)) → OverCounts err (Counts {T = T} (Err x) (fa a) (fa a) (fb b) (fb b') (fo o) (fo o')) → Ends {T = T} (Err x) (Used fa a a') (Used fb b b') (Used fo o o') err
counted_behind {T} {x} {A} {B} {O} {fa} {a} {a'} {fb} {b} {b'} {fo} {o} {o'} {err} first none untold c = record {
  counted = over err _ _ (λ e e' h. subst (λ (n : ℕ). Counts {T = T} (Err x) (fa a) n (fb b) (fb b') (fo o) (fo o') e e') (sym first) h) c;
  unwritten = no_input {T = T} (Err x) (λ _. o' ≡ o) none;
  untold = untold;
}

-- a circuit without an engine form
pub engine_ends : {T : Type 0} (e : EngineFault) → Ends {T = T} (Err (of_engine_form e)) Unused Unused Unused Unused
engine_ends {T} engine.NoMemory = record { counted = λ a b c d. (refl, refl, refl, refl); unwritten = tt; untold = tt }
engine_ends {T} _ = input_ends

-- what is no refusal of a first text
pub of_no_input : (T : Type 0) (x : Refusal) (P : Fault → Type 0) → IsOfNoInput {T = T} (Err x) → IfInput P x
of_no_input T (refusal.Input f) P h = absurd h
of_no_input T _ P h = tt

-- what a step hands on that is not done
pub failed : {T : Type 0} (r : Result T Refusal) (x : Refusal) → IsErr r × IsErrAnd r (λ y. y ≡ x) → r ≡ Err x
failed {T} (Ok v) x h = absurd h.1
failed {T} (Err y) x h = ap Err h.1
