use Rattle.std.proofs.Common.{sym, ◌∙◌}
use Rattle.std.proofs.lemmas.Result.{IfOk-weaker}
use Rattle.blast.proofs.NodeLemmas.{MakesNode-unary}
use Rattle.blast.proofs.nodes.unary_row.Goals as goal

pub returns-clause-ok : goal.returns-clause-ok
returns-clause-ok g c =
    let made = g.G.Gates.made in
    let a = c.node_row-a.result.now in
    let o = c.requires.operand in
    IfOk-weaker c.unary_bits.result _ _ (λ row m. MakesNode-unary c.args.model.now (made c.args.gates.now) (made c.unary_bits.new.g) c.args.table.now c.args.operator c.args.operand a row.items c.requires.well_formed o (sym o.at ∙ c.node_row-a.ensures) m) c.unary_bits.ensures.ok
