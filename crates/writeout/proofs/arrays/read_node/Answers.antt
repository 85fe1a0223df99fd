use Rattle.std.proofs.Common.{ℕ, ◌*◌, ◌^◌, ◌≤◌, Some, subst, sym, ap, ap₂, ◌∙◌}
use Rattle.full.specs.Lines.{width_of, size_of}
use Rattle.fullmodel.specs.Lines.{operand_of}
use Rattle.writeout.specs.Nodes.{IsMade}
use Rattle.writeout.specs.Tables.{writing}
use Rattle.writeout.specs.Widths.{index_bits, element_bits}
use Rattle.writeout.proofs.GrowLemmas.{width_on}
use Rattle.writeout.proofs.OperandLemmas.{ok_with₂, operand_line}
use Rattle.writeout.proofs.NodeLemmas.{made_behind}
use Rattle.writeout.proofs.ArrayLemmas.{read_line, read_nodes, read_done, read_made, some_index}
use Rattle.writeout.proofs.arrays.read_node.Goals as goal

pub operand-requires-clause-node : goal.operand-requires-clause-node
operand-requires-clause-node g c = (read_nodes c.args.full.now g.line c.requires.1.1.0.0 c.args.array (operand_of c.args.index) c.know.ensures.model c.requires.1.0 c.requires.1.1.0.1).1

pub operand-requires-clause-done : goal.operand-requires-clause-done
operand-requires-clause-done g c = (read_done c.args.full.now (writing c.args.tables.now c.args.maker.now) g.line.says c.requires.1.1.0.0 c.args.array (operand_of c.args.index) c.requires.1.1.0.1 c.requires.1.1.1).1

pub read-requires-clause-some : goal.read-requires-clause-some
read-requires-clause-some g c =
    let r = read_line c.args.full.now g.line c.requires.1.1.0.0 c.args.array (operand_of c.args.index) c.know.ensures.model c.requires.1.0 c.requires.1.1.0.1 in
    let k = c.index_bits.ensures ∙ ap index_bits (c.sort_of_node-sort.ensures.sort ∙ r.of_array) in
    subst (λ (n : ℕ). 1 ≤ n) (sym k) (some_index _ r.k (c.know.ensures.nodes c.args.index.id) r.of_index)

pub read-requires-clause-array : goal.read-requires-clause-array
read-requires-clause-array g c =
    let w = writing c.args.tables.now c.args.maker.now in
    let index = operand_of c.args.index in
    let r = read_line c.args.full.now g.line c.requires.1.1.0.0 c.args.array index c.know.ensures.model c.requires.1.0 c.requires.1.1.0.1 in
    let k = c.index_bits.ensures ∙ ap index_bits (c.sort_of_node-sort.ensures.sort ∙ r.of_array) in
    let n = c.element_bits.ensures ∙ ap element_bits (c.sort_of_node-sort.ensures.sort ∙ r.of_array) in
    let line = operand_line c.args.full.now w c.args.array c.node-a.result c.requires.0 (read_nodes c.args.full.now g.line c.requires.1.1.0.0 c.args.array index c.know.ensures.model c.requires.1.0 c.requires.1.1.0.1).0
    (read_done c.args.full.now w g.line.says c.requires.1.1.0.0 c.args.array index c.requires.1.1.0.1 c.requires.1.1.1).0 c.node-a.ensures in
    width_on c.args.full.now w c.operand.new.maker c.node-a.result (width_of c.args.full.now c.args.array) c.in_ok-i.ensures.grows line.width ∙ ap (λ o. Some (size_of o)) r.of_array ∙ ap₂ (λ (x y : ℕ). Some (2 ^ x * y)) (sym k) (sym n)

pub read-requires-clause-index : goal.read-requires-clause-index
read-requires-clause-index g c =
    let r = read_line c.args.full.now g.line c.requires.1.1.0.0 c.args.array (operand_of c.args.index) c.know.ensures.model c.requires.1.0 c.requires.1.1.0.1 in
    let k = c.index_bits.ensures ∙ ap index_bits (c.sort_of_node-sort.ensures.sort ∙ r.of_array) in
    c.in_ok-i.ensures.operand.width ∙ ap (λ o. Some (size_of o)) r.of_index ∙ ap (λ (x : ℕ). Some x) (sym k)

pub returns : goal.returns
returns g c =
    let w = writing c.args.tables.now c.args.maker.now in
    let w1 = writing c.args.tables.now c.operand.new.maker in
    let index = operand_of c.args.index in
    let r = read_line c.args.full.now g.line c.requires.1.1.0.0 c.args.array index c.know.ensures.model c.requires.1.0 c.requires.1.1.0.1 in
    let n = c.element_bits.ensures ∙ ap element_bits (c.sort_of_node-sort.ensures.sort ∙ r.of_array) in
    let line = operand_line c.args.full.now w c.args.array c.node-a.result c.requires.0 (read_nodes c.args.full.now g.line c.requires.1.1.0.0 c.args.array index c.know.ensures.model c.requires.1.0 c.requires.1.1.0.1).0
    (read_done c.args.full.now w g.line.says c.requires.1.1.0.0 c.args.array index c.requires.1.1.0.1 c.requires.1.1.1).0 c.node-a.ensures in
    ok_with₂ _ _ (λ id. (leaf : ℕ) → IsMade c.args.full.now w c.read.new.self g.line leaf id) c.read.result
    (λ id gives new leaf.
    made_behind c.args.full.now w c.operand.new.maker c.read.new.self g.line leaf id c.in_ok-i.ensures.grows
    (read_made c.args.full.now w1 c.read.new.self g.line c.requires.1.1.0.0 c.args.array index c.node-a.result c.in_ok-i.i c.element_bits.result id leaf c.in_ok-i.ensures.stands c.requires.1.1.0.1 (r.width ∙ sym n) c.in_ok-i.ensures.operand line.other
    (λ p wide go. line.place p wide c.read.new.self go) c.read.ensures.extends new gives))
    c.read.ensures.node c.read.ensures.new
