use Rattle.std.proofs.Common.{sym, ap, ◌∙◌, Some, [], ◌∷◌}
use Rattle.writeout.specs.Tables.{writing}
use Rattle.writeout.proofs.GrowLemmas.{grows_by_nothing, nodes_on}
use Rattle.writeout.proofs.StepLemmas.{extends_grows}
use Rattle.writeout.proofs.OperandLemmas.{ok_with₂, ok_any, operand_line, plainly_stands, minus_stands}
use Rattle.writeout.proofs.operands.operand.Goals as goal

pub returns-then-not-operand-clause-operand : goal.returns-then-not-operand-clause-operand
returns-then-not-operand-clause-operand c =
    let w = writing c.args.tables.now c.args.maker.now in
    plainly_stands c.args.full.now w c.args.operand.id c.node-a.result c.args.operand.minus c.if-not-operand.true
    (operand_line c.args.full.now w c.args.operand.id c.node-a.result c.requires.stands c.requires.node c.requires.done c.node-a.ensures)

pub returns-then-not-operand-clause-grows : goal.returns-then-not-operand-clause-grows
returns-then-not-operand-clause-grows c = grows_by_nothing c.args.full.now (writing c.args.tables.now c.args.maker.now)

pub not-requires : goal.not-requires
not-requires c =
    let w = writing c.args.tables.now c.args.maker.now in
    let line = operand_line c.args.full.now w c.args.operand.id c.node-a.result c.requires.stands c.requires.node c.requires.done c.node-a.ensures in
    record { a = line.width ∙ ap (λ n. Some n) (sym c.width.ensures.width) }

pub returns-clause-operand : goal.returns-clause-operand
returns-clause-operand c =
    let w = writing c.args.tables.now c.args.maker.now in
    let line = operand_line c.args.full.now w c.args.operand.id c.node-a.result c.requires.stands c.requires.node c.requires.done c.node-a.ensures in
    ok_with₂ _ _ _ c.not.result
    (λ r gives new. minus_stands c.args.full.now w c.not.new.self c.args.operand.id c.node-a.result c.width.result c.args.operand.minus r c.if-not-operand.false c.requires.stands line c.width.ensures.width gives new)
    c.not.ensures.node c.not.ensures.new

pub returns-clause-grows : goal.returns-clause-grows
returns-clause-grows c =
    let w = writing c.args.tables.now c.args.maker.now in
    let line = operand_line c.args.full.now w c.args.operand.id c.node-a.result c.requires.stands c.requires.node c.requires.done c.node-a.ensures in
    ok_any _ c.not.result (extends_grows c.args.full.now w c.not.new.self (c.node-a.result ∷ []) c.requires.stands (line.other, tt) c.not.ensures.extends)

pub returns-clause-stands : goal.returns-clause-stands
returns-clause-stands c =
    let w = writing c.args.tables.now c.args.maker.now in
    let line = operand_line c.args.full.now w c.args.operand.id c.node-a.result c.requires.stands c.requires.node c.requires.done c.node-a.ensures in
    ok_any _ c.not.result (nodes_on c.args.full.now w c.not.new.self (extends_grows c.args.full.now w c.not.new.self (c.node-a.result ∷ []) c.requires.stands (line.other, tt) c.not.ensures.extends) c.requires.stands)
