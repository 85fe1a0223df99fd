use Rattle.std.proofs.Common.{ℕ, ◌*◌, ◌^◌, ◌≤◌, Some, subst, sym, ap, ap₂, ◌∙◌}
use Rattle.full.specs.Lines.{width_of, size_of}
use Rattle.fullmodel.specs.Lines.{operand_of}
use Rattle.writeout.specs.Nodes.{IsMade}
use Rattle.writeout.specs.Tables.{writing}
use Rattle.writeout.specs.Widths.{index_bits, element_bits}
use Rattle.writeout.proofs.GrowLemmas.{width_on, grows_on, operand_on}
use Rattle.writeout.proofs.OperandLemmas.{ok_with₂, operand_line}
use Rattle.writeout.proofs.NodeLemmas.{made_behind}
use Rattle.writeout.proofs.ArrayLemmas.{write_line, write_nodes, write_done, write_made, some_index}
use Rattle.writeout.proofs.arrays.write_node.Goals as goal

pub operand-requires-clause-node : goal.operand-requires-clause-node
operand-requires-clause-node g c = (write_nodes c.args.full.now g.line c.requires.1.1.0.0 c.args.array (operand_of c.args.index) (operand_of c.args.word) c.know.ensures.model c.requires.1.0 c.requires.1.1.0.1).1

pub operand-requires-clause-done : goal.operand-requires-clause-done
operand-requires-clause-done g c = (write_done c.args.full.now (writing c.args.tables.now c.args.maker.now) g.line.says c.requires.1.1.0.0 c.args.array (operand_of c.args.index) (operand_of c.args.word) c.requires.1.1.0.1 c.requires.1.1.1).1

pub operand-requires-2-clause-node : goal.operand-requires-2-clause-node
operand-requires-2-clause-node g c = (write_nodes c.args.full.now g.line c.requires.1.1.0.0 c.args.array (operand_of c.args.index) (operand_of c.args.word) c.know.ensures.model c.requires.1.0 c.requires.1.1.0.1).2

pub operand-requires-2-clause-done : goal.operand-requires-2-clause-done
operand-requires-2-clause-done g c = (write_done c.args.full.now (writing c.args.tables.now c.args.maker.now) g.line.says c.requires.1.1.0.0 c.args.array (operand_of c.args.index) (operand_of c.args.word) c.requires.1.1.0.1 c.requires.1.1.1).2

pub write-requires-clause-some : goal.write-requires-clause-some
write-requires-clause-some g c =
    let r = write_line c.args.full.now g.line c.requires.1.1.0.0 c.args.array (operand_of c.args.index) (operand_of c.args.word) c.know.ensures.model c.requires.1.0 c.requires.1.1.0.1 in
    let k = c.index_bits.ensures ∙ ap index_bits (c.sort_of_node-sort.ensures.sort ∙ r.of_array) in
    subst (λ (n : ℕ). 1 ≤ n) (sym k) (some_index _ r.k (c.know.ensures.nodes c.args.index.id) r.of_index)

pub write-requires-clause-array : goal.write-requires-clause-array
write-requires-clause-array g c =
    let w = writing c.args.tables.now c.args.maker.now in
    let index = operand_of c.args.index in
    let word = operand_of c.args.word in
    let r = write_line c.args.full.now g.line c.requires.1.1.0.0 c.args.array index word c.know.ensures.model c.requires.1.0 c.requires.1.1.0.1 in
    let k = c.index_bits.ensures ∙ ap index_bits (c.sort_of_node-sort.ensures.sort ∙ r.of_array) in
    let n = c.element_bits.ensures ∙ ap element_bits (c.sort_of_node-sort.ensures.sort ∙ r.of_array) in
    let line = operand_line c.args.full.now w c.args.array c.node-a.result c.requires.0 (write_nodes c.args.full.now g.line c.requires.1.1.0.0 c.args.array index word c.know.ensures.model c.requires.1.0 c.requires.1.1.0.1).0
    (write_done c.args.full.now w g.line.says c.requires.1.1.0.0 c.args.array index word c.requires.1.1.0.1 c.requires.1.1.1).0 c.node-a.ensures in
    width_on c.args.full.now w c.operand-2.new.maker c.node-a.result (width_of c.args.full.now c.args.array) (grows_on c.args.full.now w c.operand.new.maker c.operand-2.new.maker c.in_ok-i.ensures.grows c.in_ok-v.ensures.grows) line.width
    ∙ ap (λ o. Some (size_of o)) r.of_array ∙ ap₂ (λ (x y : ℕ). Some (2 ^ x * y)) (sym k) (sym n)

pub write-requires-clause-index : goal.write-requires-clause-index
write-requires-clause-index g c =
    let r = write_line c.args.full.now g.line c.requires.1.1.0.0 c.args.array (operand_of c.args.index) (operand_of c.args.word) c.know.ensures.model c.requires.1.0 c.requires.1.1.0.1 in
    let k = c.index_bits.ensures ∙ ap index_bits (c.sort_of_node-sort.ensures.sort ∙ r.of_array) in
    (operand_on c.args.full.now (writing c.args.tables.now c.operand.new.maker) c.operand-2.new.maker (operand_of c.args.index) c.in_ok-i.i c.in_ok-v.ensures.grows c.in_ok-i.ensures.operand).width ∙ ap (λ o. Some (size_of o)) r.of_index ∙ ap (λ (x : ℕ). Some x) (sym k)

pub write-requires-clause-word : goal.write-requires-clause-word
write-requires-clause-word g c =
    let r = write_line c.args.full.now g.line c.requires.1.1.0.0 c.args.array (operand_of c.args.index) (operand_of c.args.word) c.know.ensures.model c.requires.1.0 c.requires.1.1.0.1 in
    let n = c.element_bits.ensures ∙ ap element_bits (c.sort_of_node-sort.ensures.sort ∙ r.of_array) in
    c.in_ok-v.ensures.operand.width ∙ ap (λ o. Some (size_of o)) r.of_word ∙ ap (λ (x : ℕ). Some x) (sym n)

pub returns : goal.returns
returns g c =
    let w = writing c.args.tables.now c.args.maker.now in
    let w2 = writing c.args.tables.now c.operand-2.new.maker in
    let index = operand_of c.args.index in
    let word = operand_of c.args.word in
    let r = write_line c.args.full.now g.line c.requires.1.1.0.0 c.args.array index word c.know.ensures.model c.requires.1.0 c.requires.1.1.0.1 in
    let k = c.index_bits.ensures ∙ ap index_bits (c.sort_of_node-sort.ensures.sort ∙ r.of_array) in
    let n = c.element_bits.ensures ∙ ap element_bits (c.sort_of_node-sort.ensures.sort ∙ r.of_array) in
    let line = operand_line c.args.full.now w c.args.array c.node-a.result c.requires.0 (write_nodes c.args.full.now g.line c.requires.1.1.0.0 c.args.array index word c.know.ensures.model c.requires.1.0 c.requires.1.1.0.1).0
    (write_done c.args.full.now w g.line.says c.requires.1.1.0.0 c.args.array index word c.requires.1.1.0.1 c.requires.1.1.1).0 c.node-a.ensures in
    ok_with₂ _ _ (λ id. (leaf : ℕ) → IsMade c.args.full.now w c.write.new.self g.line leaf id) c.write.result
    (λ id gives new leaf.
    made_behind c.args.full.now w c.operand-2.new.maker c.write.new.self g.line leaf id (grows_on c.args.full.now w c.operand.new.maker c.operand-2.new.maker c.in_ok-i.ensures.grows c.in_ok-v.ensures.grows)
    (write_made c.args.full.now w2 c.write.new.self g.line c.requires.1.1.0.0 c.args.array index word c.node-a.result c.in_ok-i.i c.in_ok-v.v c.index_bits.result c.element_bits.result id leaf c.in_ok-v.ensures.stands c.requires.1.1.0.1
    (r.width ∙ ap₂ (λ (x y : ℕ). 2 ^ x * y) (sym k) (sym n)) (ap size_of r.of_word ∙ sym n) (operand_on c.args.full.now (writing c.args.tables.now c.operand.new.maker) c.operand-2.new.maker index c.in_ok-i.i c.in_ok-v.ensures.grows c.in_ok-i.ensures.operand)
    c.in_ok-v.ensures.operand line.other (λ p wide go. line.place p wide c.write.new.self go) c.write.ensures.extends new gives))
    c.write.ensures.node c.write.ensures.new
