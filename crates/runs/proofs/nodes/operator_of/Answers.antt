use Rattle.runs.proofs.PlaceLemmas.{operands_of}
use Rattle.runs.proofs.nodes.operator_of.Goals as goal

pub operand-width-requires-clause-there : goal.operand-width-requires-clause-there
operand-width-requires-clause-there c =
    (operands_of c.args.model.now c.args.place c.args.item.now _ c.requires.well_formed c.requires.at c.in-Uext.is).0

pub operand-width-requires-in-Sext-clause-there : goal.operand-width-requires-in-Sext-clause-there
operand-width-requires-in-Sext-clause-there c =
    (operands_of c.args.model.now c.args.place c.args.item.now _ c.requires.well_formed c.requires.at c.in-Sext.is).0

pub operand-width-requires-in-Slice-clause-there : goal.operand-width-requires-in-Slice-clause-there
operand-width-requires-in-Slice-clause-there c =
    (operands_of c.args.model.now c.args.place c.args.item.now _ c.requires.well_formed c.requires.at c.in-Slice.is).0

pub operand-width-requires-in-Unary-clause-there : goal.operand-width-requires-in-Unary-clause-there
operand-width-requires-in-Unary-clause-there c =
    (operands_of c.args.model.now c.args.place c.args.item.now _ c.requires.well_formed c.requires.at c.in-Unary.is).0

pub operand-width-requires-in-Binary-clause-there : goal.operand-width-requires-in-Binary-clause-there
operand-width-requires-in-Binary-clause-there c =
    (operands_of c.args.model.now c.args.place c.args.item.now _ c.requires.well_formed c.requires.at c.in-Binary.is).0

pub operand-right-requires-clause-there : goal.operand-right-requires-clause-there
operand-right-requires-clause-there c =
    (operands_of c.args.model.now c.args.place c.args.item.now _ c.requires.well_formed c.requires.at c.in-Binary.is).1.0

pub operand-high_width-requires-clause-there : goal.operand-high_width-requires-clause-there
operand-high_width-requires-clause-there c =
    (operands_of c.args.model.now c.args.place c.args.item.now _ c.requires.well_formed c.requires.at c.in-Concat.is).0

pub operand-low_width-requires-clause-there : goal.operand-low_width-requires-clause-there
operand-low_width-requires-clause-there c =
    (operands_of c.args.model.now c.args.place c.args.item.now _ c.requires.well_formed c.requires.at c.in-Concat.is).1.0

pub operand-condition-requires-clause-there : goal.operand-condition-requires-clause-there
operand-condition-requires-clause-there c =
    (operands_of c.args.model.now c.args.place c.args.item.now _ c.requires.well_formed c.requires.at c.in-Ite.is).0

pub operand-width-requires-in-Ite-clause-there : goal.operand-width-requires-in-Ite-clause-there
operand-width-requires-in-Ite-clause-there c =
    (operands_of c.args.model.now c.args.place c.args.item.now _ c.requires.well_formed c.requires.at c.in-Ite.is).1.0

pub operand-second-requires-clause-there : goal.operand-second-requires-clause-there
operand-second-requires-clause-there c =
    (operands_of c.args.model.now c.args.place c.args.item.now _ c.requires.well_formed c.requires.at c.in-Ite.is).1.1.0
