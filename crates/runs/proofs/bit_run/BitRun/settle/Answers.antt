use Rattle.std.proofs.Common.{◌≡◌, ℕ, ◌+◌, ◌<◌, List, length, get_or, ap, ap₂, subst, ◌∙◌, arith}
use Rattle.base.proofs.FixedLemmas.{refilled_is}
use Rattle.base.specs.Fixed.{refilled}
use Rattle.aiger.specs.declared.circuit.Gate.{Gate}
use Rattle.base.specs.Steps.{more_steps}
use Rattle.base.proofs.StepLemmas.{more_steps-sum}
use Rattle.base.specs.Literal.{valuation_of, IsAnd}
use Rattle.runs.specs.Arranging.{first_gate, left_operand, right_operand}
use Rattle.runs.proofs.BitRunLemmas.{AfterSettle, latches_in, inputs_in, settle_keeps, circuit_run_same}
use Rattle.runs.proofs.bit_run.BitRun.settle.Goals as goal
use Rattle.runs.proofs.bit_run.BitRun.settle.Goals.{After-settle_gates}

-- the bits at the end
settled_is : (c : After-settle_gates) → (refilled c.self.inside.bits c.settle_gates.new.bits) ≡ c.settle_gates.new.bits
settled_is c = refilled_is c.self.inside.bits c.settle_gates.new.bits (omega (arith, ap length c.deref_mut.ensures.value))

after : (c : After-settle_gates) → AfterSettle c.self.inside.circuit.now c.self.inside.arrangement c.self.inside.nexts c.self.inside.bits c.self.inside.next_bits c.self.inside.settled c.self.invariant c.settle_gates.new.bits
after c =
    let circuit = c.self.inside.circuit.now in
    let between : c.deref_mut.result.now ≡ c.self.inside.bits = c.deref_mut.ensures.value in
    let first : ℕ = 1 + c.inputs-inputs.result + length c.latches.result.now in
    let place : first ≡ first_gate circuit = ap₂ (λ (i l : ℕ). 1 + i + l) c.inputs-inputs.ensures.count (ap length c.latches.ensures.items) in
    let bits : List ℕ = c.settle_gates.new.bits in
    let gates = subst (λ (gs : List Gate). (j : ℕ) → j < length gs → IsAnd (valuation_of bits) (first + j) (left_operand gs j) (right_operand gs j)) c.gates.ensures c.settle_gates.ensures.gates in
    settle_keeps _ _ _ _ _ _ c.self.invariant first bits place gates (λ p h. c.settle_gates.ensures.others p h ∙ ap (λ (l : List ℕ). get_or l p 0) between) (c.settle_gates.ensures.as_many ∙ ap length between)

pub invariant_of-self : goal.invariant_of-self
invariant_of-self c =
    let end = (goal.at.invariant_of-self c).After-settle_gates in
    rw (settled_is end) (after end).keeps

pub returns : goal.returns
returns c =
    let circuit = c.self.inside.circuit.now in
    let end = (goal.at.returns c).After-settle_gates in
    let steps = c.settle_gates.ensures.steps ∙ ap₂ (λ (n t : ℕ). more_steps n t) (ap length c.gates.ensures ∙ c.self.invariant.arranged.many) (c.take_all.ensures ∙ ap (λ (n : ℕ). more_steps n c.self.inside.tally) c.inputs-inputs.ensures.count)
    ∙ more_steps-sum circuit.inputs (length circuit.gates) c.self.inside.tally in
    rw (← c.self.view_is) (circuit_run_same _ _ _ _ _ _ _ _ (ap (latches_in circuit) (settled_is end) ∙ (after end).latches) (ap (inputs_in circuit) (settled_is end) ∙ (after end).inputs) steps)
