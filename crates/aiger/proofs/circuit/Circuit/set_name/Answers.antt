use Rattle.std.proofs.Common.{refl, sym, ap, ◌∙◌, arith}
use Rattle.aiger.specs.Net.{IsDefined}
use Rattle.aiger.specs.Circuit.{Circuit, net, section_count}
use Rattle.aiger.specs.View.{circuit_of}
use Rattle.aiger.proofs.CircuitLemmas.{IsCircuit-kept, are_kept, kept_name}
use Rattle.aiger.proofs.NameLemmas.{IsName-from_test}
use Rattle.aiger.proofs.circuit.Circuit.set_name.Goals as goal

pub invariant_of-self : goal.invariant_of-self
invariant_of-self c =
    let d : Circuit = circuit_of c.self.inside in
    IsCircuit-kept d _ c.self.invariant refl
    (kept_name (IsDefined (net d)) d _ _ _ c.give.new.self c.give.result c.give.ensures.ok (are_kept d c.self.invariant)
    (omega (arith, c.count.ensures.count ∙ ap (section_count c.args.section) (sym c.self.view_is)))
    (IsName-from_test c.args.name.now (sym c.if-not-is_good_name.ensures)) c.give.ensures.sorted c.give.ensures.err)
