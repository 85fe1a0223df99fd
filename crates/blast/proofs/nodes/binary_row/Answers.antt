use Rattle.std.proofs.Common.{sym, ◌∙◌}
use Rattle.std.proofs.lemmas.Result.{IfOk-weaker}
use Rattle.blast.proofs.NodeLemmas.{MakesNode-binary}
use Rattle.blast.proofs.nodes.binary_row.Goals as goal

pub returns-clause-ok : goal.returns-clause-ok
returns-clause-ok g c =
    let made = g.G.Gates.made in
    let a = c.node_row-a.result.now in
    let b = c.node_row-b.result.now in
    let o = c.requires.left in
    let p = c.requires.right in
    IfOk-weaker c.binary_bits.result _ _ (λ row m. MakesNode-binary c.args.model.now (made c.args.gates.now) (made c.binary_bits.new.g) c.args.table.now c.args.operator c.args.left c.args.right a b row.items c.requires.well_formed o p (sym o.at ∙ c.node_row-a.ensures) (sym p.at ∙ c.node_row-b.ensures) m) c.binary_bits.ensures.ok
