-- Why exported calls stop, and what is told of it.
use Rattle.std.specs.Prelude.{◌≡◌, ℕ, unwrap_or}
use Rattle.btor2text.specs.Whys.{printed_number}
use Rattle.aiger.specs.Refusal.{circuit_fault_number}
use Rattle.aigertext.specs.Whys.{circuit_why_number}
use Rattle.blast.specs.Faults.{lower_number}
use Rattle.blast.specs.declared.fault.LowerFault.{LowerFault}
use Rattle.blast.specs.declared.fault.LowerFault.TheVariants as lower
use Rattle.fitting.specs.Faults.{fit_fault_item, fit_fault_number}
use Rattle.writeout.specs.Numbers.{write_fault_item, write_fault_number}
use Rattle.engine_form.specs.Faults.{engine_fault_number}
use Rattle.certificates.specs.Faults.{invariant_why_number, obligation_number}
use Rattle.witness_circuits.specs.Faults.{test_number}
use Rattle.witness.specs.Answers.{judge_number}
use Rattle.witness.specs.declared.fault.JudgeFault.TheVariants as judge
use Rattle.verbs.specs.declared.refusals.Fault.{Fault}
use Rattle.verbs.specs.declared.refusals.Fault.TheVariants as fault
use Rattle.verbs.specs.declared.refusals.Refusal.{Refusal as Against}
use Rattle.verbs.specs.declared.refusals.Refusal.TheVariants as against
use Rattle.capi.specs.declared.answers.Refusal.{Refusal}

-- the item that a lowering is refused for, by its id, or 0 where it is the model as a whole
abbrev pub fault_place : LowerFault → ℕ
fault_place (lower.Justice id) = id
fault_place (lower.Fair id) = id
fault_place (lower.NoNext id) = id
fault_place _ = 0

-- what is told of a fault: its number, and its place: the line of a text, from 1, of a circuit's the byte, from 0, or the id of an item; 0 where it has none, and 0 for a number that it has not
abbrev pub told_fault : Fault → Refusal
told_fault (fault.Model e) = record { number = printed_number e.why; place = e.line }
told_fault (fault.Circuit e) = record { number = circuit_why_number e.why; place = e.place }
told_fault (fault.Lowering e) = record { number = lower_number e; place = fault_place e }
told_fault (fault.Fitting e) = record { number = fit_fault_number e; place = unwrap_or (fit_fault_item e) 0 }
told_fault (fault.Writing e) = record { number = write_fault_number e; place = unwrap_or (write_fault_item e) 0 }
told_fault (fault.Outputs e) = record { number = circuit_fault_number e; place = 0 }
told_fault (fault.Engine e) = record { number = engine_fault_number e; place = 0 }
told_fault (fault.Invariant e) = record { number = invariant_why_number e.why; place = e.line }
told_fault (fault.Obligation e) = record { number = obligation_number e; place = 0 }
told_fault (fault.Test e) = record { number = test_number e; place = 0 }
told_fault (fault.NoNext id) = record { number = judge_number (judge.NoNext id); place = id }
told_fault _ = record { number = 0; place = 0 }

-- the status of a call whose first text has a fault: that it is no model or no circuit, or that what it says is not taken
abbrev pub first_status : Fault → ℕ
first_status (fault.Model e) = 2
first_status (fault.Circuit e) = 2
first_status _ = 3

-- the status of one whose second text has a fault: an obligation that is too big is told of the model
abbrev pub second_status : Fault → ℕ
second_status (fault.Obligation e) = 3
second_status _ = 5

-- the status of a call, and what is told of why it stops, in place of what was told before
abbrev pub CallTells : Against → ℕ → Refusal → Refusal → Type 0
CallTells (against.Input f) status old new = (status ≡ first_status f) × (new ≡ told_fault f)
CallTells (against.Second f) status old new = (status ≡ second_status f) × (new ≡ told_fault f)
CallTells _ status old new = (status ≡ 4) × (new ≡ old)

-- a call stops with a status: for a fault of the first text that is so, for one of the second that is so, or since memory was wanting or a device failed, and what was told before stays then
pub data Stops (OfFirst OfSecond : Fault → Type 0) (status : ℕ) (old new : Refusal) : Type 0 where
  First : (f : Fault) → OfFirst f → status ≡ first_status f → new ≡ told_fault f → Stops OfFirst OfSecond status old new
  Second : (f : Fault) → OfSecond f → status ≡ second_status f → new ≡ told_fault f → Stops OfFirst OfSecond status old new
  Failed : status ≡ 4 → new ≡ old → Stops OfFirst OfSecond status old new
