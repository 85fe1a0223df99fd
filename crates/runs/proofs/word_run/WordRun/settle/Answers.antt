use Rattle.std.proofs.Common.{ℕ, length, ap, ap₂, ◌∙◌, arith}
use Rattle.base.proofs.FixedLemmas.{refilled_is}
use Rattle.base.specs.Steps.{more_steps}
use Rattle.runs.specs.Nodes.{settled_values}
use Rattle.runs.proofs.InvariantLemmas.{settle_fits, settle_few, settle_keeps, run_same}
use Rattle.runs.proofs.word_run.WordRun.settle.Goals as goal

pub settle_nodes-requires-clause-fit : goal.settle_nodes-requires-clause-fit
settle_nodes-requires-clause-fit c = rw (c.deref.ensures, c.deref_mut.ensures.value) (settle_fits _ _ _ _ _ _ _ _ _ _ _ c.self.invariant)

pub settle_nodes-requires-clause-most : goal.settle_nodes-requires-clause-most
settle_nodes-requires-clause-most c = rw (c.deref.ensures, c.deref_mut.ensures.value) (settle_few _ _ _ _ _ _ _ _ _ _ _ c.self.invariant)

pub invariant_of-self : goal.invariant_of-self
invariant_of-self c =
    let same = refilled_is c.self.inside.values c.settle_nodes.new.values (omega (arith, ap length c.deref_mut.ensures.value)) in
    (settle_keeps _ _ _ _ _ _ _ _ _ _ _ c.self.invariant _
    (same ∙ c.settle_nodes.ensures.values ∙ ap₂ settled_values c.deref.ensures c.deref_mut.ensures.value)).keeps

pub returns : goal.returns
returns c =
    let same = refilled_is c.self.inside.values c.settle_nodes.new.values (omega (arith, ap length c.deref_mut.ensures.value)) in
    let after = settle_keeps _ _ _ _ _ _ _ _ _ _ _ c.self.invariant _
    (same ∙ c.settle_nodes.ensures.values ∙ ap₂ settled_values c.deref.ensures c.deref_mut.ensures.value) in
    let steps = c.settle_nodes.ensures.steps ∙ ap (λ (n : ℕ). more_steps n c.self.inside.tally) (ap length c.deref_mut.ensures.value ∙ c.self.invariant.many_nodes) in
    rw (← c.self.view_is) (run_same _ _ _ _ _ _ _ _ after.same_states after.same_inputs steps)
