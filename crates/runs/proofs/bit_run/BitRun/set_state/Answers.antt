use Rattle.std.proofs.Common.{◌≡◌, ◌<◌, ℕ, ◌+◌, Bool, length, set, ap, sym, subst, refl, ◌∙◌, rules}
use Rattle.base.specs.Literal.{bit_of}
use Rattle.runs.specs.CircuitRun.{CircuitRun}
use Rattle.runs.proofs.BitRunLemmas.{set_latch_keeps, circuit_run_same, latches_in}
use Rattle.runs.proofs.bit_run.BitRun.set_state.Goals as goal

pub returns : goal.returns
returns c =
    let there = subst (λ (r : CircuitRun). c.args.k < length r.circuit.latches) (sym c.self.view_is) c.requires in
    let holds : bit_of c.from.result ≡ c.args.bit = search rules in
    let after = set_latch_keeps _ _ _ _ _ _ c.self.invariant c.args.k (1 + c.inputs.result + c.args.k) c.from.result there (ap (λ (n : ℕ). 1 + n + c.args.k) c.inputs.ensures.count) in
    rw (← c.self.view_is) (circuit_run_same _ _ _ _ _ _ _ _ (after.latches ∙ ap (λ (b : Bool). set (latches_in c.self.inside.circuit.now c.self.inside.bits) c.args.k b) holds) after.inputs refl)
