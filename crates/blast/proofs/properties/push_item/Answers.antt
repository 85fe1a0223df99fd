use Rattle.std.proofs.Common.{◌≡◌, ap, length, All, sym, subst, ◌∙◌, arith}
use Rattle.std.proofs.lemmas.Result.{on_ok_weaker}
use Rattle.aiger.specs.Net.{IsDefined}
use Rattle.aiger.specs.Circuit.{net}
use Rattle.blast.specs.Properties.{property_literals}
use Rattle.blast.proofs.PropertyLemmas.{Adds-row, Adds-no_row, operand_there, row_is_there, row_of_line, row_at-of, row_defined, row_short}
use Rattle.blast.proofs.properties.push_item.Goals as goal

pub node_row-requires : goal.node_row-requires
node_row-requires c =
    let node = operand_there c.args.property c.args.model.now c.args.place c.args.item.now c.in-Some.id c.requires.well_formed c.requires.place (sym c.operand_of.ensures ∙ c.in-Some.is) in
    row_is_there c.args.model.now c.args.table.now c.in-Some.id node.0 c.requires.all node.1

pub push_row-requires-clause-defined : goal.push_row-requires-clause-defined
push_row-requires-clause-defined c =
    let node = operand_there c.args.property c.args.model.now c.args.place c.args.item.now c.in-Some.id c.requires.well_formed c.requires.place (sym c.operand_of.ensures ∙ c.in-Some.is) in
    subst (All (IsDefined (net c.args.circuit.now))) (sym (row_at-of c.args.model.now c.args.table.now c.in-Some.id c.node_row.result.now c.node_row.ensures))
    (row_defined c.args.model.now (net c.args.circuit.now) c.args.table.now c.in-Some.id node.0 c.requires.reads c.requires.all node.1)

pub push_row-requires-clause-short : goal.push_row-requires-clause-short
push_row-requires-clause-short c =
    let node = operand_there c.args.property c.args.model.now c.args.place c.args.item.now c.in-Some.id c.requires.well_formed c.requires.place (sym c.operand_of.ensures ∙ c.in-Some.is) in
    omega (
      arith,
      ap length (row_at-of c.args.model.now c.args.table.now c.in-Some.id c.node_row.result.now c.node_row.ensures),
      row_short c.args.model.now (net c.args.circuit.now) c.args.table.now c.in-Some.id node.0 c.requires.well_formed c.requires.reads c.requires.all node.1,
    )

pub push_row-requires-clause-few : goal.push_row-requires-clause-few
push_row-requires-clause-few c =
    let row : c.node_row.result.now ≡ property_literals c.args.model.now c.args.table.now c.args.property c.args.item.now.body =
    row_of_line c.args.model.now c.args.table.now c.args.property c.args.item.now c.in-Some.id c.node_row.result.now c.node_row.ensures (sym c.in-Some.is ∙ c.operand_of.ensures) in
    omega (arith, c.requires.few, ap length row)

pub returns-in-Some-clause-ok : goal.returns-in-Some-clause-ok
returns-in-Some-clause-ok c =
    on_ok_weaker c.push_row.result
    (Adds-row c.args.property c.args.model.now c.args.table.now c.args.circuit.now c.push_row.new.circuit c.args.item.now c.in-Some.id c.node_row.result.now c.node_row.ensures (sym c.in-Some.is ∙ c.operand_of.ensures)) c.push_row.ensures.ok

pub returns-in-None-clause-ok : goal.returns-in-None-clause-ok
returns-in-None-clause-ok c = Adds-no_row c.args.property c.args.model.now c.args.table.now c.args.circuit.now c.args.item.now (sym c.in-None.is ∙ c.operand_of.ensures)
