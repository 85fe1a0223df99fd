use Rattle.std.proofs.Common.{◌-◌, ◌<◌, ◌≤◌, ◌∙◌, length, arith}
use Rattle.std.proofs.lemmas.List.{get_or_read}
use Rattle.gates.proofs.KeptTableLemmas.{length-table, own_literal, later_literal}
use Rattle.gates.proofs.table.Table.at.Goals as goal

pub index-requires : goal.index-requires
index-requires c = omega (arith, c.requires, length-table c.self.inside.inputs c.self.inside.more.items c.args.self.now c.self.view_is, c.if-variable-self.false)

pub returns-then-variable-self : goal.returns-then-variable-self
returns-then-variable-self c =
    let low : c.args.variable ≤ c.self.inside.inputs = omega (arith, c.if-variable-self.true) in
    c.variable_literal.ensures ∙ own_literal c.self.inside.inputs c.self.inside.more.items c.args.self.now c.args.variable c.self.view_is low

pub returns-else-variable-self : goal.returns-else-variable-self
returns-else-variable-self c =
    let high : c.self.inside.inputs < c.args.variable = omega (arith, c.if-variable-self.false) in
    let room : c.args.variable - c.self.inside.inputs - 1 < length c.self.inside.more.items = omega (arith, c.requires, high, length-table c.self.inside.inputs c.self.inside.more.items c.args.self.now c.self.view_is) in
    get_or_read c.self.inside.more.items (c.args.variable - c.self.inside.inputs - 1) c.index.result.now room c.index.ensures 0
    ∙ later_literal c.self.inside.inputs c.self.inside.more.items c.args.self.now c.args.variable c.self.view_is high
