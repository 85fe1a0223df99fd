use Rattle.std.proofs.Common.{ℕ, None, subst, sym, ◌∙◌, arith}
use Rattle.aiger.specs.Circuit.{section_names}
use Rattle.blast.specs.Blocks.{IsBlank}
use Rattle.blast.proofs.NameLemmas.{length-leaf_names}
use Rattle.blast.proofs.names.name_leaf.Goals as goal

pub name_bits-requires-clause-free : goal.name_bits-requires-clause-free
name_bits-requires-clause-free c =
    subst (λ (n : ℕ). IsBlank None c.args.first n (section_names c.args.section c.args.circuit.now)) (length-leaf_names c.args.model.now c.args.item.now ∙ sym c.bit_count-count.ensures.value) c.requires.free

pub name_bits-requires-clause-room : goal.name_bits-requires-clause-room
name_bits-requires-clause-room c = omega (arith, length-leaf_names c.args.model.now c.args.item.now)

pub returns-clause-count : goal.returns-clause-count
returns-clause-count c = c.bit_count-count.ensures.value ∙ sym (length-leaf_names c.args.model.now c.args.item.now)
