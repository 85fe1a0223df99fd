use Rattle.std.proofs.Common.{◌∙◌, sym, refl}
use Rattle.blast.proofs.WidthLemmas.{unary_operand, binary_operand, ite_operand}
use Rattle.blast.proofs.widths.line_cost.Goals as goal

pub operand_width-width-requires-clause-there : goal.operand_width-width-requires-clause-there
operand_width-width-requires-clause-there c =
    (unary_operand c.args.model.now c.args.place c.args.item.now c.in-Unary.operator c.in-Unary.sort c.in-Unary.operand c.requires.well_formed c.requires.at c.in-Unary.is).there

pub operand_width-width-requires-clause-kept : goal.operand_width-width-requires-clause-kept
operand_width-width-requires-clause-kept c =
    λ same. (unary_operand c.args.model.now c.args.place c.args.item.now c.in-Unary.operator c.in-Unary.sort c.in-Unary.operand c.requires.well_formed c.requires.at c.in-Unary.is).kept (sym c.is_reduction.ensures ∙ same)

pub operand_width-width-requires-in-Binary-clause-there : goal.operand_width-width-requires-in-Binary-clause-there
operand_width-width-requires-in-Binary-clause-there c =
    (binary_operand c.args.model.now c.args.place c.args.item.now c.in-Binary.operator c.in-Binary.sort c.in-Binary.left c.in-Binary.right c.requires.well_formed c.requires.at c.in-Binary.is).there

pub operand_width-width-requires-in-Binary-clause-kept : goal.operand_width-width-requires-in-Binary-clause-kept
operand_width-width-requires-in-Binary-clause-kept c =
    λ same. (binary_operand c.args.model.now c.args.place c.args.item.now c.in-Binary.operator c.in-Binary.sort c.in-Binary.left c.in-Binary.right c.requires.well_formed c.requires.at c.in-Binary.is).kept (sym c.is_test.ensures ∙ same)

pub operand_width-width-requires-in-Ite-clause-there : goal.operand_width-width-requires-in-Ite-clause-there
operand_width-width-requires-in-Ite-clause-there c =
    (ite_operand c.args.model.now c.args.place c.args.item.now c.in-Ite.sort c.in-Ite.condition c.in-Ite.first c.in-Ite.second c.requires.well_formed c.requires.at c.in-Ite.is).there

pub operand_width-width-requires-in-Ite-clause-kept : goal.operand_width-width-requires-in-Ite-clause-kept
operand_width-width-requires-in-Ite-clause-kept c =
    λ same. (ite_operand c.args.model.now c.args.place c.args.item.now c.in-Ite.sort c.in-Ite.condition c.in-Ite.first c.in-Ite.second c.requires.well_formed c.requires.at c.in-Ite.is).kept refl
