use Rattle.std.proofs.Common.{refl, rules, arith, []}
use Rattle.std.specs.Prelude.{codes}
use Rattle.aiger.specs.declared.circuit.Section.TheVariants as section
use Rattle.aiger.specs.Net.{AreOrdered}
use Rattle.aiger.specs.Circuit.{Circuit, IsCircuit, HasFew, HasDefined, net, with_name}
use Rattle.engine_form.specs.Worked.{conjunction, conjunction_bad, named_circuit, named_bad}
use Rattle.engine_form.proofs.WorkedLemmas.{plain_circuit}
use Rattle.engine_form.proofs.laws.worked_output_circuits.Goals as goal

pub returns-clause-conjunction : goal.returns-clause-conjunction
returns-clause-conjunction c = (
  (let few : HasFew conjunction = search rules in
      let defined : HasDefined (net conjunction) conjunction = search rules in
      let ordered : AreOrdered (net conjunction) = search rules in
      plain_circuit conjunction (omega arith) few ordered defined refl),
  (let few : HasFew conjunction_bad = search rules in
      let defined : HasDefined (net conjunction_bad) conjunction_bad = search rules in
      let ordered : AreOrdered (net conjunction_bad) = search rules in
      plain_circuit conjunction_bad (omega arith) few ordered defined refl),
)

pub returns-clause-named : goal.returns-clause-named
returns-clause-named c = (
  (let plain : Circuit = record named_circuit { names = [] } in
      let few : HasFew plain = search rules in
      let defined : HasDefined (net plain) plain = search rules in
      let ordered : AreOrdered (net plain) = search rules in
      let bare : IsCircuit plain = plain_circuit plain (omega arith) few ordered defined refl in
      let more : Circuit = with_name plain section.Output 0 (codes "out") in
      c.circuit_with_a_name.ensures more section.Bad 0 (codes "low") (c.circuit_with_a_name.ensures plain section.Output 0 (codes "out") bare refl) refl),
  (let plain : Circuit = record named_bad { names = [] } in
      let few : HasFew plain = search rules in
      let defined : HasDefined (net plain) plain = search rules in
      let ordered : AreOrdered (net plain) = search rules in
      let bare : IsCircuit plain = plain_circuit plain (omega arith) few ordered defined refl in
      let more : Circuit = with_name plain section.Bad 0 (codes "low") in
      c.circuit_with_a_name.ensures more section.Bad 1 (codes "out") (c.circuit_with_a_name.ensures plain section.Bad 0 (codes "low") bare refl) refl),
)
