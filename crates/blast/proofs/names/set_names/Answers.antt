use Rattle.std.proofs.Common.{length, refl, ◌∙◌, arith}
use Rattle.aiger.specs.declared.circuit.Section.TheVariants as section
use Rattle.btor2.specs.declared.leaves.Leaves.TheVariants as leaves
use Rattle.blast.specs.Sections.{part_names}
use Rattle.blast.proofs.NameLemmas.{length-given, length-carried, open_section, open_behind, few_names, few_behind, TakesNames-made}
use Rattle.blast.proofs.names.set_names.Goals as goal

pub name_part-requires-clause-blank : goal.name_part-requires-clause-blank
name_part-requires-clause-blank c =
    (open_section section.Input c.args.circuit.now c.args.circuit.now 0 (length (part_names c.args.model.now leaves.Inputs)) c.requires.unnamed (omega (arith, c.requires.inputs, length-given c.args.model.now)) refl).blank

pub name_part-requires-clause-room : goal.name_part-requires-clause-room
name_part-requires-clause-room c =
    (open_section section.Input c.args.circuit.now c.args.circuit.now 0 (length (part_names c.args.model.now leaves.Inputs)) c.requires.unnamed (omega (arith, c.requires.inputs, length-given c.args.model.now)) refl).room

pub name_part-requires-clause-few : goal.name_part-requires-clause-few
name_part-requires-clause-few c = few_names section.Input c.args.circuit.now c.args.circuit.now c.variables.ensures.valid refl

pub name_part-requires-2-clause-blank : goal.name_part-requires-2-clause-blank
name_part-requires-2-clause-blank c =
    (open_behind section.Input c.args.circuit.now c.name_part.new.circuit c.in_ok-inputs.inputs (length (part_names c.args.model.now leaves.Free)) (part_names c.args.model.now leaves.Inputs) c.requires.unnamed
    (omega (arith, c.requires.inputs, length-given c.args.model.now)) (c.in_ok-inputs.ensures.next ∙ omega arith) c.in_ok-inputs.ensures.ok).blank

pub name_part-requires-2-clause-room : goal.name_part-requires-2-clause-room
name_part-requires-2-clause-room c =
    (open_behind section.Input c.args.circuit.now c.name_part.new.circuit c.in_ok-inputs.inputs (length (part_names c.args.model.now leaves.Free)) (part_names c.args.model.now leaves.Inputs) c.requires.unnamed
    (omega (arith, c.requires.inputs, length-given c.args.model.now)) (c.in_ok-inputs.ensures.next ∙ omega arith) c.in_ok-inputs.ensures.ok).room

pub name_part-requires-2-clause-few : goal.name_part-requires-2-clause-few
name_part-requires-2-clause-few c =
    few_behind section.Input c.args.circuit.now c.name_part.new.circuit (part_names c.args.model.now leaves.Inputs) c.variables.ensures.valid (omega (arith, c.requires.inputs, length-given c.args.model.now)) c.in_ok-inputs.ensures.ok

pub name_part-requires-3-clause-blank : goal.name_part-requires-3-clause-blank
name_part-requires-3-clause-blank c =
    (open_section section.Latch c.args.circuit.now c.name_part-2.new.circuit 0 (length (part_names c.args.model.now leaves.Carried)) c.requires.unnamed (omega (arith, c.requires.latches, length-carried c.args.model.now))
    (c.in_ok-name_part.ensures.ok.others section.Latch (λ q. cc) ∙ c.in_ok-inputs.ensures.ok.others section.Latch (λ q. cc))).blank

pub name_part-requires-3-clause-room : goal.name_part-requires-3-clause-room
name_part-requires-3-clause-room c =
    (open_section section.Latch c.args.circuit.now c.name_part-2.new.circuit 0 (length (part_names c.args.model.now leaves.Carried)) c.requires.unnamed (omega (arith, c.requires.latches, length-carried c.args.model.now))
    (c.in_ok-name_part.ensures.ok.others section.Latch (λ q. cc) ∙ c.in_ok-inputs.ensures.ok.others section.Latch (λ q. cc))).room

pub name_part-requires-3-clause-few : goal.name_part-requires-3-clause-few
name_part-requires-3-clause-few c =
    few_names section.Latch c.args.circuit.now c.name_part-2.new.circuit c.variables.ensures.valid (c.in_ok-name_part.ensures.ok.others section.Latch (λ q. cc) ∙ c.in_ok-inputs.ensures.ok.others section.Latch (λ q. cc))

pub returns-clause-ok : goal.returns-clause-ok
returns-clause-ok c =
    TakesNames-made c.args.model.now c.args.circuit.now c.name_part.new.circuit c.name_part-2.new.circuit c.name_part-3.new.circuit c.in_ok-inputs.inputs c.requires.inputs c.requires.latches
    c.in_ok-inputs.ensures.next c.in_ok-inputs.ensures.ok c.in_ok-name_part.ensures.ok c.in_ok-name_part-2.ensures.ok
