use Rattle.std.proofs.Common.{◌≡◌, replicate, rules, arith}
use Rattle.aiger.specs.Circuit.{fresh_latch}
use Rattle.aiger.proofs.FreshLemmas.{IsCircuit-fresh}
use Rattle.aiger.proofs.circuit.Circuit.new.Goals as goal

pub invariant_of-result : goal.invariant_of-result
invariant_of-result c =
    let e : c.in_ok-fresh_latches.fresh_latches.items ≡ replicate c.args.latches fresh_latch = search rules in
    rw (e, c.new.ensures.items, c.new-2.ensures.outputs, c.new-2.ensures.bads, c.new-2.ensures.constraints, c.new-2.ensures.justice, c.new-2.ensures.fair, c.new-3.ensures) (IsCircuit-fresh c.args.inputs c.args.latches (omega arith))
