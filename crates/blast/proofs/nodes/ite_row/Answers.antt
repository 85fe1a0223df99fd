use Rattle.std.proofs.Common.{sym, ◌∙◌}
use Rattle.std.proofs.lemmas.Result.{IfOk-weaker}
use Rattle.blast.proofs.NodeLemmas.{MakesNode-ite}
use Rattle.blast.proofs.nodes.ite_row.Goals as goal

pub returns-clause-ok : goal.returns-clause-ok
returns-clause-ok g c =
    let made = g.G.Gates.made in
    let q = c.requires.condition in
    let o = c.requires.first in
    let p = c.requires.second in
    IfOk-weaker c.ite_bits.result _ _
    (λ row m. MakesNode-ite c.args.model.now (made c.args.gates.now) (made c.ite_bits.new.g) c.args.table.now c.args.condition c.args.first c.args.second c.node_row-c.result.now c.node_row-t.result.now c.node_row-e.result.now row.items
    c.requires.well_formed q o p (sym q.at ∙ c.node_row-c.ensures) (sym o.at ∙ c.node_row-t.ensures) (sym p.at ∙ c.node_row-e.ensures) m) c.ite_bits.ensures.ok
