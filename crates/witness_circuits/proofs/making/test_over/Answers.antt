use Rattle.std.proofs.Common.{◌≡◌, ℕ, true, List, Option, All, ap, sym, subst, ◌∙◌, rules}
use Rattle.std.proofs.lemmas.Result.{IfOk-weaker}
use Rattle.aiger.specs.Net.{Net}
use Rattle.aiger.specs.Circuit.{Circuit, with_bad}
use Rattle.gates.specs.Made.{gates_only}
use Rattle.witness_circuits.specs.Mapping.{Mapping, IsMappingOf, said_by_names, are_inside, mapping_of}
use Rattle.witness_circuits.specs.Tests.{IsTestOf}
use Rattle.witness_circuits.specs.Made.{IsMadeFrom}
use Rattle.witness_circuits.specs.Parts.{parts_of_test, bare_test}
use Rattle.witness_circuits.proofs.InsideLemmas.{AreShared, mapping_inside}
use Rattle.witness_circuits.proofs.SharedLemmas.{shared_mapping}
use Rattle.witness_circuits.proofs.RefusalLemmas.{accepted_inside}
use Rattle.witness_circuits.proofs.TestMadeLemmas.{inputs_defined, many_inputs, test_made}
use Rattle.witness_circuits.proofs.making.test_over.Goals as goal

pub cut-parts-requires : goal.cut-parts-requires
cut-parts-requires c = many_inputs c.args.circuit.now c.args.witness.now c.args.inputs.now c.requires.inputs

pub make-requires-clause-mapping : goal.make-requires-clause-mapping
make-requires-clause-mapping c = subst (IsMappingOf c.args.witness.now) (sym c.requires.shared) (shared_mapping c.args.numbering.now c.args.circuit.now c.args.witness.now)

pub make-requires-clause-inputs_inside : goal.make-requires-clause-inputs_inside
make-requires-clause-inputs_inside c =
    (subst (AreShared c.args.circuit.now) (sym c.requires.shared) (mapping_inside c.args.numbering.now c.args.circuit.now c.args.witness.now (accepted_inside c.args.numbering.now c.args.circuit.now c.args.bad c.args.witness.now c.requires.accepted))).inputs

pub make-requires-clause-latches_inside : goal.make-requires-clause-latches_inside
make-requires-clause-latches_inside c =
    (subst (AreShared c.args.circuit.now) (sym c.requires.shared) (mapping_inside c.args.numbering.now c.args.circuit.now c.args.witness.now (accepted_inside c.args.numbering.now c.args.circuit.now c.args.bad c.args.witness.now c.requires.accepted))).latches

pub make-requires-clause-defined : goal.make-requires-clause-defined
make-requires-clause-defined c = inputs_defined c.args.circuit.now c.args.witness.now c.args.gates c.args.inputs.now _ c.requires.bare c.cut-parts.ensures.parts c.requires.inputs

pub returns-in-Ok-clause-ok : goal.returns-in-Ok-clause-ok
returns-in-Ok-clause-ok c =
    let circuit = c.args.circuit.now in
    let witness = c.args.witness.now in
    let numbering = c.args.numbering.now in
    let shared : AreShared circuit (mapping_of numbering circuit witness) = mapping_inside numbering circuit witness (accepted_inside numbering circuit c.args.bad witness c.requires.accepted) in
    let made : IsMadeFrom circuit c.args.bad witness (mapping_of numbering circuit witness) (parts_of_test c.cut-parts.result) (bare_test circuit witness) c.make.new.g c.in-Ok.lit =
    subst (λ (n : Net). IsMadeFrom circuit c.args.bad witness (mapping_of numbering circuit witness) (parts_of_test c.cut-parts.result) n c.make.new.g c.in-Ok.lit) c.requires.bare
    (subst (λ (m : Mapping). IsMadeFrom circuit c.args.bad witness m (parts_of_test c.cut-parts.result) c.args.gates c.make.new.g c.in-Ok.lit) c.requires.shared c.in-Ok.ensures.ok) in
    IfOk-weaker c.with_bad.result _ _
    (λ t is.
    test_made circuit c.args.bad witness (mapping_of numbering circuit witness) (parts_of_test c.cut-parts.result) c.make.new.g c.in-Ok.lit made t c.requires.valid c.requires.witness (shared_mapping numbering circuit witness) shared
    (c.cut-parts.ensures.parts ∙ c.requires.inputs) c.cut-parts.ensures.many c.finish.ensures.valuations (is.0 ∙ ap (λ (x : Circuit). with_bad x c.in-Ok.lit) c.finish.ensures.circuit) is.1)
    c.with_bad.ensures.ok
