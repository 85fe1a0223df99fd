use Rattle.std.proofs.Common.{◌≡◌, suc, ◌+◌, ◌-◌, List, length, get_or, ap, ◌∙◌, arith}
use Rattle.aiger.specs.declared.circuit.Gate.{Gate}
use Rattle.certificates.proofs.PutLemmas.{gates_at, gates_front, leaves_less}
use Rattle.certificates.proofs.obligations.put_gates.Goals as goal

pub put_gate-requires-clause-literals : goal.put_gate-requires-clause-literals
put_gate-requires-clause-literals c =
    let d = c.args.circuit.now in
    let place = c.loop-place.place in
    let many : length c.gates-gates.result.now ≡ length d.gates = ap length c.gates-gates.ensures.items in
    let item : c.index-gates-place.result ≡ get_or d.gates place c.index-gates-place.result = c.index-gates-place.is ∙ ap (λ (gs : List Gate). get_or gs place c.index-gates-place.result) c.gates-gates.ensures.items in
    gates_front _ _ _ c.args.truth (suc (d.inputs + length d.latches)) (c.args.truth - length c.gates-gates.result.now + place) place d.gates c.index-gates-place.result (omega (arith, c.requires.truth, many)) (omega (arith, c.loop-place-test.true, many)) item
    c.loop-place.invariant

pub loop-place-preserved : goal.loop-place-preserved
loop-place-preserved c =
    let d = c.args.circuit.now in
    let place = c.loop-place.place in
    let many : length c.gates-gates.result.now ≡ length d.gates = ap length c.gates-gates.ensures.items in
    let item : c.index-gates-place.result ≡ get_or d.gates place c.index-gates-place.result = c.index-gates-place.is ∙ ap (λ (gs : List Gate). get_or gs place c.index-gates-place.result) c.gates-gates.ensures.items in
    leaves_less _ _ _ _ _ _ _
    (gates_at c.args.truth (suc (d.inputs + length d.latches)) (c.args.truth - length c.gates-gates.result.now + place) place d.gates c.index-gates-place.result (omega (arith, c.requires.truth, many)) (omega (arith, c.loop-place-test.true, many)) item)
    c.loop-place.invariant c.in_ok-put_gate.ensures
