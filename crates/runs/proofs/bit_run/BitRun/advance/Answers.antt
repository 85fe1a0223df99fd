use Rattle.std.proofs.Common.{◌≡◌, ℕ, ◌+◌, ◌<◌, true, false, List, length, get_or, ap, refl, sym, subst, ◌∙◌, arith}
use Rattle.base.proofs.FixedLemmas.{refilled_is}
use Rattle.base.specs.Fixed.{refilled}
use Rattle.base.specs.Literal.{Valuation, literal_value, valuation_of}
use Rattle.aiger.specs.Trace.{next_latch_bits}
use Rattle.base.specs.Steps.{more_steps}
use Rattle.runs.specs.CircuitRun.{CircuitRun, IsFrameNow}
use Rattle.runs.specs.CircuitHolds.{IsCopied}
use Rattle.runs.proofs.BitRunLemmas.{AfterAdvance, latches_in, inputs_in, nexts_inside, many_nexts, advance_keeps, circuit_run_same}
use Rattle.runs.proofs.bit_run.BitRun.advance.Goals as goal
use Rattle.runs.proofs.bit_run.BitRun.advance.Goals.{After-clear_inputs}

pub take_nexts-requires-clause-inside : goal.take_nexts-requires-clause-inside
take_nexts-requires-clause-inside c = rw (c.deref.ensures, c.deref-2.ensures) (nexts_inside _ _ _ _ _ _ c.self.invariant)

pub take_nexts-requires-clause-constant : goal.take_nexts-requires-clause-constant
take_nexts-requires-clause-constant c = ap (λ (l : List ℕ). valuation_of l 0) c.deref-2.ensures ∙ c.self.invariant.constant

pub take_nexts-requires-clause-as_many : goal.take_nexts-requires-clause-as_many
take_nexts-requires-clause-as_many c = ap length c.deref_mut.ensures.value ∙ c.self.invariant.many_latches ∙ sym (ap length c.deref.ensures ∙ many_nexts _ _ _ _ _ _ c.self.invariant)

-- the bits taken, those between, and those at the end
taken_is : (c : After-clear_inputs) → (refilled c.self.inside.next_bits c.take_nexts.new.taken) ≡ c.take_nexts.new.taken
taken_is c = refilled_is c.self.inside.next_bits c.take_nexts.new.taken (omega (arith, ap length c.deref_mut.ensures.value))

put_is : (c : After-clear_inputs) → (refilled c.self.inside.bits c.put_taken.new.bits) ≡ c.put_taken.new.bits
put_is c = refilled_is c.self.inside.bits c.put_taken.new.bits (omega (arith, ap length c.deref_mut-2.ensures.value))

cleared_is : (c : After-clear_inputs) → (refilled (refilled c.self.inside.bits c.put_taken.new.bits) c.clear_inputs.new.bits) ≡ c.clear_inputs.new.bits
cleared_is c = refilled_is (refilled c.self.inside.bits c.put_taken.new.bits) c.clear_inputs.new.bits (omega (arith, ap length c.deref_mut-3.ensures.value))

after : (c : After-clear_inputs) → c.self.inside.settled ≡ true → AfterAdvance c.self.inside.circuit.now c.self.inside.arrangement c.self.inside.nexts c.self.inside.bits c.self.inside.next_bits c.self.inside.settled c.self.invariant c.take_nexts.new.taken c.clear_inputs.new.bits
after c done =
    let circuit = c.self.inside.circuit.now in
    let given : c.deref-3.result.now ≡ c.take_nexts.new.taken = c.deref-3.ensures ∙ taken_is c in
    let between : c.deref_mut-3.result.now ≡ c.put_taken.new.bits = c.deref_mut-3.ensures.value ∙ put_is c in
    let count : c.inputs-inputs.result ≡ circuit.inputs = c.inputs-inputs.ensures.count in
    advance_keeps _ _ _ _ _ _ c.self.invariant done c.take_nexts.new.taken c.put_taken.new.bits c.clear_inputs.new.bits (1 + c.inputs-inputs.result) (ap (λ (n : ℕ). 1 + n) count)
    (λ j within.
    c.take_nexts.ensures.taken j (subst (λ (l : List ℕ). j < length l) (sym c.deref.ensures) within)
    ∙ ap (λ (bits : List ℕ). literal_value (valuation_of bits) (get_or c.deref.result.now j 0)) c.deref-2.ensures
    ∙ ap (λ (l : List ℕ). literal_value (valuation_of c.self.inside.bits) (get_or l j 0)) c.deref.ensures)
    (c.take_nexts.ensures.as_many ∙ ap length c.deref_mut.ensures.value)
    (subst (λ (l : List ℕ). IsCopied c.take_nexts.new.taken (1 + c.inputs-inputs.result) l c.put_taken.new.bits) c.deref_mut-2.ensures.value
    (subst (λ (l : List ℕ). IsCopied l (1 + c.inputs-inputs.result) c.deref_mut-2.result.now c.put_taken.new.bits) given c.put_taken.ensures))
    (subst (λ (n : ℕ). (j : ℕ) → j < n → valuation_of c.clear_inputs.new.bits (1 + j) ≡ false) count c.clear_inputs.ensures.cleared)
    (λ p h. c.clear_inputs.ensures.others p (subst (λ (n : ℕ). n < p) (sym count) h) ∙ ap (λ (l : List ℕ). get_or l p 0) between) (c.clear_inputs.ensures.constant ∙ ap (λ (l : List ℕ). get_or l 0 0) between)
    (c.clear_inputs.ensures.as_many ∙ ap length between)

pub invariant_of-self : goal.invariant_of-self
invariant_of-self c =
    let end = (goal.at.invariant_of-self c).After-clear_inputs in
    rw (cleared_is end, taken_is end) (after end (subst (λ (r : CircuitRun). r.settled ≡ true) (sym c.self.view_is) c.requires)).keeps

pub returns-clause-latches : goal.returns-clause-latches
returns-clause-latches c =
    let end = (goal.at.returns-clause-latches c).After-clear_inputs in
    let moved = after end (subst (λ (r : CircuitRun). r.settled ≡ true) (sym c.self.view_is) c.requires) in
    subst (λ (r : CircuitRun). (v : Valuation) → IsFrameNow r v → latches_in c.self.inside.circuit.now (refilled (refilled c.self.inside.bits c.put_taken.new.bits) c.clear_inputs.new.bits) ≡ next_latch_bits r.circuit v) c.self.view_is
    (λ v frame. ap (latches_in c.self.inside.circuit.now) (cleared_is end) ∙ moved.latches v frame)

pub returns-clause-others : goal.returns-clause-others
returns-clause-others c =
    let end = (goal.at.returns-clause-others c).After-clear_inputs in
    let moved = after end (subst (λ (r : CircuitRun). r.settled ≡ true) (sym c.self.view_is) c.requires) in
    let steps = c.take_nexts.ensures.steps ∙ ap (λ (n : ℕ). more_steps n c.self.inside.tally) (ap length c.deref.ensures ∙ many_nexts _ _ _ _ _ _ c.self.invariant) in
    rw (← c.self.view_is) (circuit_run_same _ _ _ _ _ _ _ _ refl (ap (inputs_in c.self.inside.circuit.now) (cleared_is end) ∙ moved.inputs) steps)
