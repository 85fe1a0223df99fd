-- Why calls stop, by what is told.
use Rattle.std.proofs.Common.{ℕ, Err}
use Rattle.verbs.specs.declared.refusals.Fault.{Fault}
use Rattle.verbs.specs.declared.refusals.Refusal.{Refusal as Against}
use Rattle.verbs.specs.declared.refusals.Refusal.TheVariants as against
use Rattle.verbs.specs.Statuses.{Ends, IfInput, IfSecond, Use}
use Rattle.verbs.proofs.CountLemmas.{no_second}
use Rattle.capi.specs.Stops.{CallTells, Stops}
use Rattle.capi.specs.Stops.Stops.{First, Second, Failed}
use Rattle.capi.specs.declared.answers.Refusal.{Refusal}

-- a call stops for what is told, of a fault of the first text that is so, or of the second
pub stopped : {OfFirst OfSecond : Fault → Type 0} (why : Against) {status : ℕ} {old new : Refusal} → CallTells why status old new → IfInput OfFirst why → IfSecond OfSecond why → Stops OfFirst OfSecond status old new
stopped (against.Input f) tells first second = First f first tells.0 tells.1
stopped (against.Second f) tells first second = Second f second tells.0 tells.1
stopped _ tells first second = Failed tells.0 tells.1

-- the same of one that refuses no second text
pub stopped_first : {T : Type 0} {OfFirst : Fault → Type 0} (why : Against) {status : ℕ} {old new : Refusal} {first second out err : Use} → CallTells why status old new → IfInput OfFirst why → Ends {T = T} (Err why) first second out err → Stops OfFirst (λ _. ⊥) status old new
stopped_first why tells is ends = stopped why tells is (no_second (λ _. ⊥) ends)
