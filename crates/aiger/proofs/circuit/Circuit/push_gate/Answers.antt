use Rattle.std.proofs.Common.{◌≡◌, is_ok, arith, ap, sym, ◌∙◌}
use Rattle.aiger.specs.Net.{variables, IsDefined}
use Rattle.aiger.specs.Circuit.{net}
use Rattle.aiger.specs.View.{circuit_of}
use Rattle.aiger.proofs.CircuitLemmas.{IsCircuit-pushed, defined_from_test}
use Rattle.aiger.proofs.circuit.Circuit.push_gate.Goals as goal

pub invariant_of-self : goal.invariant_of-self
invariant_of-self c =
    let greatest : c.variables-greatest.result ≡ variables (net (circuit_of c.self.inside)) = c.variables-greatest.ensures.count ∙ ap (λ x. variables (net x)) (sym c.self.view_is) in
    let defined : IsDefined (net (circuit_of c.self.inside)) c.args.rhs0 = defined_from_test (circuit_of c.self.inside) c.args.self.now c.args.rhs0 c.self.view_is c.if-not-is_defined.ensures in
    IsCircuit-pushed (circuit_of c.self.inside) (record { rhs0 = c.args.rhs0; rhs1 = c.args.rhs1 }) (is_ok c.push.result) c.push.new.self.items c.push.ensures.items c.self.invariant (omega arith) defined (omega arith)
