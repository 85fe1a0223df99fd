use Rattle.std.proofs.Common.{◌≡◌, ◌+◌, ℕ, List, length, ap, sym, subst, refl, ◌∙◌, arith}
use Rattle.base.proofs.FixedLemmas.{refilled_is}
use Rattle.runs.specs.CircuitRun.{CircuitRun}
use Rattle.runs.specs.CircuitHolds.{IsPut}
use Rattle.runs.proofs.BitRunLemmas.{put_latches_keeps, circuit_run_same, latches_in, inputs_in}
use Rattle.runs.proofs.bit_run.BitRun.set_states.Goals as goal

pub returns : goal.returns
returns c =
    let circuit = c.self.inside.circuit.now in
    let there = subst (λ (r : CircuitRun). length c.args.bits.now ≡ length r.circuit.latches) (sym c.self.view_is) c.requires in
    let put = subst (λ (l : List ℕ). IsPut c.args.bits.now (1 + c.inputs.result) l c.put_bits.new.bits) c.deref_mut.ensures.value c.put_bits.ensures in
    let after = put_latches_keeps _ _ _ _ _ _ c.self.invariant c.args.bits.now (1 + c.inputs.result) c.put_bits.new.bits (ap (λ (n : ℕ). 1 + n) c.inputs.ensures.count) (there) put in
    let is = refilled_is c.self.inside.bits c.put_bits.new.bits (omega (arith, ap length c.deref_mut.ensures.value)) in
    rw (← c.self.view_is) (circuit_run_same _ _ _ _ _ _ _ _ (ap (latches_in circuit) is ∙ after.latches) (ap (inputs_in circuit) is ∙ after.inputs) refl)
