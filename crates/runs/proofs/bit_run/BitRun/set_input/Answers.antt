use Rattle.std.proofs.Common.{◌≡◌, ◌<◌, ◌+◌, Bool, set, ap, sym, subst, refl, ◌∙◌, rules}
use Rattle.base.specs.Literal.{bit_of}
use Rattle.runs.specs.CircuitRun.{CircuitRun}
use Rattle.runs.proofs.BitRunLemmas.{set_input_keeps, circuit_run_same, inputs_in}
use Rattle.runs.proofs.bit_run.BitRun.set_input.Goals as goal

pub returns : goal.returns
returns c =
    let there = subst (λ (r : CircuitRun). c.args.k < r.circuit.inputs) (sym c.self.view_is) c.requires in
    let holds : bit_of c.from.result ≡ c.args.bit = search rules in
    let after = set_input_keeps _ _ _ _ _ _ c.self.invariant c.args.k (1 + c.args.k) c.from.result there refl in
    rw (← c.self.view_is) (circuit_run_same _ _ _ _ _ _ _ _ after.latches (after.inputs ∙ ap (λ (b : Bool). set (inputs_in c.self.inside.circuit.now c.self.inside.bits) c.args.k b) holds) refl)
